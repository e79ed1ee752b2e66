-- A text that is open, once a closure had its pieces.
use Rattle.std.proofs.Common.{◌≡◌, ◌∙◌, Bool, true, false, Option, Some, None, IsSomeAnd, ap, refl, subst}
use Rattle.ini.specs.Documents.{Document}
use Rattle.ini_edit.specs.Sources.{Pieces}
use Rattle.ini_edit.specs.declared.error.EditError.{EditError}
use Rattle.ini_text.specs.declared.write.option.WriteOption.{WriteOption}
use Rattle.ini_c.specs.Changes.{Merges}
use Rattle.ini_c.specs.Choices.{IsWriteOption}
use Rattle.ini_c.specs.Held.{opened_if, pieces_of}
use Rattle.ini_c.specs.Inside.Lent.{with_opened}
use Rattle.ini_c.specs.Texts.{Asks, Changes}
use Rattle.ini_c.specs.declared.document.Kept.{Kept}
use Rattle.ini_c.specs.declared.document.Text.{Text}
use Rattle.ini_c.specs.declared.options.WriteChoice.{WriteChoice}
use Rattle.ini_c.specs.declared.tied.Tied.{Tied}

kept-stays : (is_open : Bool) (kept : Kept) (made : Tied) {p : Pieces} → Some p ≡ opened_if is_open kept
    → made.value ≡ p → opened_if is_open (record kept { text = Some made }) ≡ opened_if is_open kept
kept-stays true kept made there is = ap Some is ∙ there
kept-stays false kept made there is = refl

-- Where the pieces are as they were, the text is.
pub text-stays : (text : Text) (made : Tied) {p : Pieces} → Some p ≡ pieces_of text → made.value ≡ p
    → pieces_of (with_opened text made) ≡ pieces_of text
text-stays text made there is = kept-stays text.is_open text.handle.value made there is

-- What holds of the pieces and of what is made of them holds of the text before and after.
pub changes : (P : Pieces → Pieces → Type 0) (text : Text) (made : Tied) {p new : Pieces}
    → Some p ≡ pieces_of text → new ≡ made.value → P p new
    → Changes P (pieces_of text) (pieces_of (with_opened text made))
changes P text made {p = p} {new = new} there is holds =
    changed text.is_open text.handle.value there (subst (P p) is holds)
  where
    changed : (is_open : Bool) (kept : Kept) → Some p ≡ opened_if is_open kept → P p made.value
        → Changes P (opened_if is_open kept) (opened_if is_open (record kept { text = Some made }))
    changed true kept there holds = subst (λ x. Changes P x (Some made.value)) there holds
    changed false kept none holds = absurd (let no : Some p ≡ None = none in cc)

-- And so with the documents of two other texts.
pub merges : (P : Document → Document → Pieces → Pieces → Type 0) (text : Text) (made : Tied)
    {base ours : Option Document} {b o : Document} {p new : Pieces}
    → Some b ≡ base → Some o ≡ ours → Some p ≡ pieces_of text → new ≡ made.value → P b o p new
    → Merges P base ours (pieces_of text) (pieces_of (with_opened text made))
merges P text made {base = base} {ours = ours} {b = b} {o = o} {p = p} {new = new}
    base_is ours_is there is holds =
    subst (λ x. Merges P x ours (pieces_of text) (pieces_of (with_opened text made))) base_is
    (subst (λ x. Merges P (Some b) x (pieces_of text) (pieces_of (with_opened text made))) ours_is
    (merged text.is_open text.handle.value there (subst (P b o p) is holds)))
  where
    merged : (is_open : Bool) (kept : Kept) → Some p ≡ opened_if is_open kept → P b o p made.value
        → Merges P (Some b) (Some o) (opened_if is_open kept)
        (opened_if is_open (record kept { text = Some made }))
    merged true kept there holds = subst (λ x. Merges P (Some b) (Some o) x (Some made.value)) there holds
    merged false kept none holds = absurd (let no : Some p ≡ None = none in cc)

-- What an edit of the pieces is refused with holds of the text that is open.
pub edit-refused : (P : Pieces → WriteOption → EditError → Type 0) {kept : Option Pieces} {p : Pieces}
    {choice : WriteChoice} {w : WriteOption} {refusal e : EditError} → Some p ≡ kept → IsWriteOption choice w
    → P p w refusal → refusal ≡ e → IsSomeAnd kept (λ p. Asks choice (λ w. P p w e))
edit-refused P {p = p} {choice = choice} {w = w} {e = e} there asked refused is =
    subst (λ kept. IsSomeAnd kept (λ p. Asks choice (λ w. P p w e))) there
    (record { option = w; asked = asked; holds = subst (λ e. P p w e) is refused })
