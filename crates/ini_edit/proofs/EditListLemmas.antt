-- What a list of edits makes of a text, and is refused with, from the same list in the text's pieces.
use Rattle.std.proofs.Common.{◌≡◌, ◌∙◌, ◌+◌, Bool, true, false, List, [], ◌∷◌, ◌++◌, Some, None, ap, map}
use Rattle.std.proofs.Common.{alloc_error, arith, length, length-append, refl, subst, sym}
use Rattle.std.specs.Prelude.{slice_get}
use Rattle.ini_text.specs.declared.error.Error.TheVariants.{Memory}
use Rattle.ini_text.specs.declared.option.ParseOption.{ParseOption}
use Rattle.ini_text.specs.declared.write.option.WriteOption.{WriteOption}
use Rattle.ini.specs.Documents.{Document, document_of}
use Rattle.ini.specs.Loading.{IsDocumentOf}
use Rattle.ini.specs.Texts.{Text}
use Rattle.ini_edit.specs.Editings.{Editing, editing_of}
use Rattle.ini_edit.specs.Made.{all_made_in, made_in}
use Rattle.ini_edit.specs.SourceEditsList.{AreMadeOf, MakesDocument}
use Rattle.ini_edit.specs.Sources.{Pieces, document_in}
use Rattle.ini_edit.specs.WholeTexts.{MakesText, RefusesOfText, RefusesText}
use Rattle.ini_edit.specs.declared.edit_list.RefusedEdit.{RefusedEdit}
use Rattle.ini_edit.specs.declared.edits.Edit.{Edit}
use Rattle.ini_edit.specs.declared.error.EditError.TheVariants.{Text as TextError}
use Rattle.ini_edit.specs.declared.source.set.LaterPairs.TheVariants.{TakenOut}
use Rattle.ini_edit.proofs.StandsLemmas.{derives_one}

-- a text has one document
one_document : {o : ParseOption} {T : Text} {d e : Document} → IsDocumentOf o T d → IsDocumentOf o T e
    → d ≡ e
one_document x y = x.document ∙ (ap document_of (derives_one x.derives y.derives) ∙ sym y.document)

-- what loads as an edited document of the text loads as any document of it edited
pub loads_any : {o : ParseOption} {T U : Text} (f : Document → Document) {d : Document} (e : Document)
    → IsDocumentOf o T d → IsDocumentOf o T e → IsDocumentOf o U (f d) → IsDocumentOf o U (f e)
loads_any {o} {T} {U} f e was other is = subst (λ x. IsDocumentOf o U (f x)) (one_document was other) is

-- an edit more that found something
all_made_in-found : (edits : List Editing) (found : List Bool) (e : Editing) (d : Document)
    → length edits ≡ length found
    → all_made_in (edits ++ e ∷ []) (found ++ true ∷ []) d ≡ made_in e (all_made_in edits found d)
all_made_in-found [] [] e d same = refl
all_made_in-found [] (f ∷ found) e d same = absurd (omega arith)
all_made_in-found (x ∷ edits) [] e d same = absurd (omega arith)
all_made_in-found (x ∷ edits) (true ∷ found) e d same =
    all_made_in-found edits found e (made_in x d) (omega arith)
all_made_in-found (x ∷ edits) (false ∷ found) e d same = all_made_in-found edits found e d (omega arith)

-- an edit more that found nothing
all_made_in-not_found : (edits : List Editing) (found : List Bool) (e : Editing) (d : Document)
    → length edits ≡ length found
    → all_made_in (edits ++ e ∷ []) (found ++ false ∷ []) d ≡ all_made_in edits found d
all_made_in-not_found [] [] e d same = refl
all_made_in-not_found [] (f ∷ found) e d same = absurd (omega arith)
all_made_in-not_found (x ∷ edits) [] e d same = absurd (omega arith)
all_made_in-not_found (x ∷ edits) (true ∷ found) e d same =
    all_made_in-not_found edits found e (made_in x d) (omega arith)
all_made_in-not_found (x ∷ edits) (false ∷ found) e d same =
    all_made_in-not_found edits found e d (omega arith)

-- the document after an edit more
one_more : (mid q : Pieces) (edits : List Editing) (found : List Bool) (e : Editing) (d : Document)
    (is_found : Bool) → MakesDocument e mid q is_found → document_in mid ≡ all_made_in edits found d
    → length edits ≡ length found
    → document_in q ≡ all_made_in (edits ++ e ∷ []) (found ++ is_found ∷ []) d
one_more mid q edits found e d true makes before same =
    makes ∙ (ap (made_in e) before ∙ sym (all_made_in-found edits found e d same))
one_more mid q edits found e d false makes before same =
    makes ∙ (before ∙ sym (all_made_in-not_found edits found e d same))

module _ {w : WriteOption} where
  -- beside each edit stands whether it found something
  same_length : {p q : Pieces} {edits : List Editing} {found : List Bool}
      → AreMadeOf w TakenOut p edits found q → length edits ≡ length found
  same_length AreMadeOf.none = refl
  same_length (AreMadeOf.then {edits} {found} e made next) =
      length-append edits (e ∷ [])
      ∙ (ap (λ n. n + 1) (same_length made) ∙ sym (ap length next.kept
      ∙ length-append found (next.is_found ∷ [])))

  -- the options that pieces are read by stay, and the document is the one with the edits made in it
  pub are_made_document : {p q : Pieces} {edits : List Editing} {found : List Bool}
      → AreMadeOf w TakenOut p edits found q
      → (q.option ≡ p.option) × (document_in q ≡ all_made_in edits found (document_in p))
  are_made_document AreMadeOf.none = (refl, refl)
  are_made_document {p} {q} (AreMadeOf.then {edits} {found} {mid} e made next) =
      let before = are_made_document made in (
        next.option ∙ before.0,
        subst (λ fs. document_in q ≡ all_made_in (edits ++ e ∷ []) fs (document_in p)) (sym next.kept)
            (one_more mid q edits found e (document_in p) next.is_found (next.document refl) before.1
            (same_length made)),
      )

-- the first of the edits, if there is one
first_edit : (edits : List Edit) (first : Edit) → Some first ≡ slice_get edits 0
    → (rest : List Edit) × (edits ≡ first ∷ rest)
first_edit [] first is = absurd (let no : Some first ≡ None = is in cc)
first_edit (e ∷ rest) first is = (rest, let same : Some first ≡ Some e = is in cc)

no_edit : (edits : List Edit) → None ≡ slice_get edits 0 → edits ≡ []
no_edit [] is = refl
no_edit (e ∷ rest) is = absurd (let no : None ≡ Some e = is in cc)

module _ (o : ParseOption) (w : WriteOption) (edits : List Edit) (T : Text) where
  pub none_made : {found : List Bool} {U : Text} → None ≡ slice_get edits 0 → U ≡ T → found ≡ []
      → MakesText o w (map editing_of edits) T found U
  none_made is same none = rw (no_edit edits is, same, none) MakesText.none

  pub first_refused : (first : Edit) (refused : RefusedEdit) → Some first ≡ slice_get edits 0
      → refused.index ≡ 0 → RefusesOfText o w (editing_of first) T refused.refusal
      → RefusesText o w (map editing_of edits) T refused
  first_refused first refused is index refuses =
      let is_refused : refused ≡ record { index = 0; refusal = refused.refusal } =
      ap (λ i. record { index = i; refusal = refused.refusal }) index in
      rw ((first_edit edits first is).1, is_refused) (RefusesText.first refuses)

  pub memory_refused : (refused : RefusedEdit)
      → refused ≡ record { index = 0; refusal = TextError (Memory alloc_error) }
      → RefusesText o w (map editing_of edits) T refused
  memory_refused refused is = rw is RefusesText.memory
