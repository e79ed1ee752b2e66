-- What edits of a text in pieces keep, how it is read; and what they make of it.
use Rattle.std.proofs.Common.{◌≡◌, ◌∙◌, ℕ, Bool, true, false, List, Option, refl, subst}
use Rattle.ini_text.specs.declared.option.ParseOption.{ParseOption}
use Rattle.ini_text.specs.declared.write.option.WriteOption.{WriteOption}
use Rattle.ini.specs.Loading.{IsDocumentOf}
use Rattle.ini.specs.Texts.{Text}
use Rattle.ini_edit.proofs.SourceListLemmas.{put_option}
use Rattle.ini_edit.specs.SourceEditsAdded.{ArePut}
use Rattle.ini_edit.specs.Sources.{Pieces, document_in, text_in}
use Rattle.ini_edit.specs.WholeTexts.{IsReadInPieces}
use Rattle.ini_dialect.specs.SourceLookups.{AddsPair}
use Rattle.ini_dialect.specs.declared.rule.Lookup.{Lookup}
use Rattle.ini_file.specs.Remade.{IsRemadeText}
use Rattle.ini_file.specs.ValueLists.{AreAddedUnder, HaveValues}

all_put : {o : ParseOption} {w : WriteOption} {name : Option Text} {key : Text} {n : ℕ} {values : List Text}
    {p q : Pieces} → ArePut o w name key n values p q → q.option ≡ p.option
all_put ArePut.nothing_put = refl
all_put (ArePut.put_then put more) = all_put more ∙ put_option put

pub added_pair : {rule : Lookup} {o : ParseOption} {w : WriteOption} {name : Option Text} {key value : Text}
    {p q : Pieces} → AddsPair rule name key o w p q value → q.option ≡ p.option
added_pair (AddsPair.in_section takes added) = added.option
added_pair (AddsPair.in_new_section lacks added) = added.option

all_added : {rule : Lookup} {w : WriteOption} {name : Option Text} {key : Text} {values : List Text}
    {p q : Pieces} → AreAddedUnder rule w name key values p q → q.option ≡ p.option
all_added AreAddedUnder.none_added = refl
all_added (AreAddedUnder.then_added added value is) = added_pair is.adds ∙ all_added added

pub values_option : (own : Bool) (rule : Lookup) (w : WriteOption) (name : Option Text) (key : Text)
    (values : List Text) (p q : Pieces) → HaveValues rule w name key own values p q → q.option ≡ p.option
values_option true rule w name key values p q set = set.option ∙ all_put set.are_put
values_option false rule w name key values p q set = all_added set.are_added ∙ set.option

-- the text of pieces that were read and edited
pub remade : {makes : Pieces → Pieces → Type 0} (o : ParseOption) (T U : Text) (old new : Pieces)
    → IsReadInPieces o T old → makes old new → new.option ≡ old.option → U ≡ text_in new
    → IsDocumentOf new.option U (document_in new) → IsRemadeText o T U makes
remade o T U old new is_read made same text loads = record {
  old = old;
  new = new;
  is_read = is_read;
  made = made;
  text = text;
  loads = subst (λ p. IsDocumentOf p U (document_in new)) (same ∙ is_read.option) loads;
}
