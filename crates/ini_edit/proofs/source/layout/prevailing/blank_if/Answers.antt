use Rattle.std.proofs.Common.{◌≡◌, [], ◌∷◌, chars, subst, sym}
use Rattle.std.proofs.lemmas.Str.{chars-nil}
use Rattle.ini_edit.specs.Prevailing.{blank_if}
use Rattle.ini_edit.proofs.CharsLemmas.{chars-space}
use Rattle.ini_edit.proofs.source.layout.prevailing.blank_if.Goals as goal

pub returns-then-is_there : goal.returns-then-is_there
returns-then-is_there c =
    subst (λ b. chars (32 ∷ []) ≡ blank_if b) (sym c.if-is_there.true) chars-space

pub returns-else-is_there : goal.returns-else-is_there
returns-else-is_there c = subst (λ b. chars [] ≡ blank_if b) (sym c.if-is_there.false) chars-nil
