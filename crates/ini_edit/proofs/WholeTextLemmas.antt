-- What an edit of a text comes to, from the same edit of the pieces that it is read in.
use Rattle.std.proofs.Common.{◌≡◌, ◌∙◌, Option, None, subst}
use Rattle.ini_text.specs.declared.option.ParseOption.{ParseOption}
use Rattle.ini.specs.Documents.{Document, first_section, value_in}
use Rattle.ini.specs.Loading.{IsDocumentOf}
use Rattle.ini.specs.Texts.{Text}
use Rattle.ini_edit.specs.FirstPairs.{LacksPair, LacksSection}
use Rattle.ini_edit.specs.SourcePlaces.{pair_place, section_place}
use Rattle.ini_edit.specs.SourceReads.{AreRead}
use Rattle.ini_edit.specs.Sources.{Pieces, document_in, text_in}
use Rattle.ini_edit.specs.WholeTexts.{IsEditedText, IsReadInPieces}
use Rattle.ini_edit.proofs.SourceFoundLemmas.{no_section_found, no_value_found}

module _ {o : ParseOption} {T : Text} {p : Pieces} (read : IsReadInPieces o T p) where
  -- the text of other pieces, which an edit makes of these
  pub edited_text : {q : Pieces} {U : Text} (makes : ParseOption → Pieces → Pieces → Type 0)
      (edit : Document → Document) → makes p.option p q → q.option ≡ p.option
      → document_in q ≡ edit (document_in p) → U ≡ text_in q → IsDocumentOf q.option U (document_in q)
      → IsEditedText o T U (makes o) edit
  edited_text {q} {U} makes edit made option document text loads = record {
    old = p;
    new = q;
    is_read = read;
    made = subst (λ x. makes x p q) read.option made;
    text = text;
    loads = record {
      document = document_in p;
      was = read.document;
      is = subst (IsDocumentOf o U) document
          (subst (λ x. IsDocumentOf x U (document_in q)) (option ∙ read.option) loads);
    };
  }

  pub lacks_value : (name : Option Text) (key : Text) → value_in name key (document_in p) ≡ None
      → LacksPair o T name key
  lacks_value name key none = record { document = document_in p; is_document = read.document; none = none }

  pub lacks_pair : (name : Option Text) (key : Text) → pair_place name key 0 p.sections ≡ None
      → LacksPair o T name key
  lacks_pair name key none = lacks_value name key (no_value_found name key p.sections none)

  pub lacks_named : (name : Option Text) → first_section name (document_in p) ≡ None → LacksSection o T name
  lacks_named name none = record { document = document_in p; is_document = read.document; none = none }

  pub lacks_section : (name : Option Text) → section_place name p.sections ≡ None → LacksSection o T name
  lacks_section name none = lacks_named name (no_section_found name p.sections none)

pub read_in_pieces : {o : ParseOption} {T : Text} {p : Pieces} → p.option ≡ o → text_in p ≡ T
    → AreRead o p.sections → IsDocumentOf o T (document_in p) → IsReadInPieces o T p
read_in_pieces option text are_read document = record {
  option = option;
  text = text;
  are_read = are_read;
  document = document;
}
