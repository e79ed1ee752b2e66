use Rattle.std.proofs.Common.{◌≡◌, ◌∷◌, [], refl, subst, sym}
use Rattle.std.specs.Str.{chars}
use Rattle.ini_edit.proofs.QuoteLemmas.{other_mark}
use Rattle.ini_edit.proofs.quote.quote_mark_text.Goals as goal

pub returns-then-mark-eq34 : goal.returns-then-mark-eq34
unfolding chars
returns-then-mark-eq34 c = subst (λ m. chars (34 ∷ []) ≡ m ∷ []) (sym c.if-mark-eq34.true) refl

pub returns-else-mark-eq34 : goal.returns-else-mark-eq34
unfolding chars
returns-else-mark-eq34 c =
    subst (λ m. chars (39 ∷ []) ≡ m ∷ []) (sym (other_mark c.args.mark c.requires c.if-mark-eq34.false)) refl
