-- What a document is whose items are all that a text gives.
use Rattle.std.proofs.Common.{◌≡◌, ◌∙◌, [], ◌∷◌, ◌++◌, None, Result, Ok, Err, IfOk, ap, refl, subst, sym}
use Rattle.ini_text.specs.declared.error.Error.{Error}
use Rattle.ini_text.specs.declared.option.ParseOption.{ParseOption}
use Rattle.ini.specs.Documents.{Document, HasGeneral, with_pair}
use Rattle.ini.specs.Inside.StreamLoader.{Makes}
use Rattle.ini.specs.Loading.{IsDocumentOf}
use Rattle.ini.specs.Properties.{Pairs}
use Rattle.ini.specs.Texts.{Text}
use Rattle.ini.proofs.GeneralLemmas.{has_general}
use Rattle.std.proofs.Common.{Option}

module _ {o : ParseOption} {T : Text} (r : Result Document Error) {d : Document}
    (made : Makes o T [] T ((None, []) ∷ []) d) (same : IfOk r (λ e. e ≡ d)) where
  pub is_document : IfOk r (IsDocumentOf o T)
  is_document = at r same
    where
      at : (r : Result Document Error) → IfOk r (λ e. e ≡ d) → IfOk r (IsDocumentOf o T)
      at (Ok e) same = record { items = made.items; derives = made.reads; document = same ∙ made.document }
      at (Err e) same = tt

  pub general : IfOk r HasGeneral
  general = at r same
    where
      at : (r : Result Document Error) → IfOk r (λ e. e ≡ d) → IfOk r HasGeneral
      at (Ok e) same = subst HasGeneral (sym (same ∙ made.document)) (has_general made.items)
      at (Err e) same = tt

-- a pair put after those of the last section
pub with_pair-last : (key value : Text) (d : Document) (n : Option Text) (s : Pairs)
    → with_pair key value (d ++ (n, s) ∷ []) ≡ d ++ (n, s ++ (key, value) ∷ []) ∷ []
with_pair-last key value [] n s = refl
with_pair-last key value (t ∷ []) n s = refl
with_pair-last key value (t ∷ u ∷ d) n s = ap (λ l. t ∷ l) (with_pair-last key value (u ∷ d) n s)
