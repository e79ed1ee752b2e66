-- What an edit makes of a whole text under a rule: the text is read in pieces, these are edited, and written
-- again.
use Rattle.std.specs.Prelude.{◌≡◌, ⊤, false, Option, None}
use Rattle.ini_text.specs.declared.error.Error.{Error}
use Rattle.ini_text.specs.declared.option.ParseOption.{ParseOption}
use Rattle.ini_text.specs.declared.write.option.WriteOption.{WriteOption}
use Rattle.ini_text.specs.declared.write.policy.EscapePolicy.{EscapePolicy}
use Rattle.ini.specs.Documents.{Document}
use Rattle.ini.specs.Loading.{IsDocumentOf}
use Rattle.ini.specs.Texts.{Text}
use Rattle.ini_edit.specs.Editings.{Editing, Set, SetExisting, Add, Delete, DeleteSection, RenameKey}
use Rattle.ini_edit.specs.Editings.{RenameSection}
use Rattle.ini_edit.specs.Made.{HasUnwritableWord}
use Rattle.ini_edit.specs.SourceEditsSet.{IsMemoryRefusal}
use Rattle.ini_edit.specs.Sources.{Pieces}
use Rattle.ini_edit.specs.WholeTexts.{IsEditedText, IsRefusalOf, RefuseInPieces}
use Rattle.ini_edit.specs.declared.error.EditError.{EditError}
use Rattle.ini_edit.specs.declared.error.EditError.TheVariants.{Text as TextError}
use Rattle.ini_dialect.specs.KeyEdits.{AreRenamedUnder, RefusesKey, keys_renamed}
use Rattle.ini_dialect.specs.Lookups.{add_under, delete_under, set_under, value_under}
use Rattle.ini_dialect.specs.SectionEdits.{AreSectionsDeleted, AreSectionsRenamed, RefusesName, has_named}
use Rattle.ini_dialect.specs.SectionEdits.{sections_removed, sections_renamed}
use Rattle.ini_dialect.specs.SourceLookups.{AreDeletedUnder, IsAddedUnder, IsPutUnder, IsSetUnder}
use Rattle.ini_dialect.specs.SourceLookups.{RefusesToPutUnder, RefusesUnder, RefusesValue}
use Rattle.ini_dialect.specs.declared.rule.Lookup.{Lookup}

-- the text is refused, or memory is; or its pieces refuse the edit
pub data RefusesInText (o : ParseOption) (T : Text) (refuses : Pieces → EditError → Type 0) : EditError
    → Type 0 where
  reading : {e : Error} → IsRefusalOf o T e → RefusesInText o T refuses (TextError e)
  pieces : {e : EditError} → RefuseInPieces o T (λ p. refuses p e) → RefusesInText o T refuses e

-- where a key or a section gets another name, that can be written, whatever the text is
abbrev pub RenamesWritably : ParseOption → EscapePolicy → Editing → Type 0
RenamesWritably o policy (RenameKey name old new) = ¬ HasUnwritableWord o policy (RenameKey name old new)
RenamesWritably o policy (RenameSection old new) = ¬ HasUnwritableWord o policy (RenameSection old new)
RenamesWritably o policy _ = ⊤

module _ (rule : Lookup) (o : ParseOption) (T : Text) where
  -- the rule finds no value of the key in the text's document
  pub record LacksUnder (name : Option Text) (key : Text) : Type 0 where
    pub document : Document
    pub loaded : IsDocumentOf o T document
    pub lacks : value_under rule name key document ≡ None

  -- its document has no section of the name
  pub record LacksNamed (name : Text) : Type 0 where
    pub document : Document
    pub loaded : IsDocumentOf o T document
    pub lacks : has_named rule name document ≡ false

  -- the text U is T with the key set under the rule; where it is there; with a pair added; and without all
  -- pairs of the key that are looked at
  abbrev pub IsSetTextUnder : WriteOption → Option Text → (key value : Text) → Text → Type 0
  IsSetTextUnder w name key value U =
      IsEditedText o T U (λ p q. IsPutUnder rule name key o w p q value) (set_under rule name key value)

  abbrev pub IsSetThereTextUnder : EscapePolicy → Option Text → (key value : Text) → Text → Type 0
  IsSetThereTextUnder policy name key value U =
      IsEditedText o T U (λ p q. IsSetUnder rule name key o policy p q value) (set_under rule name key value)

  abbrev pub IsAddedTextUnder : WriteOption → Option Text → (key value : Text) → Text → Type 0
  IsAddedTextUnder w name key value U =
      IsEditedText o T U (λ p q. IsAddedUnder rule name key o w p q value) (add_under rule name key value)

  abbrev pub IsDeletedTextUnder : Option Text → (key : Text) → Text → Type 0
  IsDeletedTextUnder name key U =
      IsEditedText o T U (λ p q. AreDeletedUnder rule name key o p.sections q.sections)
      (delete_under rule name key)

  -- the text U is T without the sections of the name that are looked at; and T in which they are renamed
  abbrev pub IsSectionDeletedTextUnder : (name : Text) → Text → Type 0
  IsSectionDeletedTextUnder name U =
      IsEditedText o T U (AreSectionsDeleted rule name) (sections_removed rule name)

  abbrev pub IsNameRenamedTextUnder : EscapePolicy → (old new : Text) → Text → Type 0
  IsNameRenamedTextUnder policy old new U =
      IsEditedText o T U (AreSectionsRenamed rule policy old new) (sections_renamed rule old new)

  -- and T in which the pairs of the key that are looked at have another one
  abbrev pub IsKeyRenamedTextUnder : EscapePolicy → Option Text → (old new : Text) → Text → Type 0
  IsKeyRenamedTextUnder policy name old new U =
      IsEditedText o T U (AreRenamedUnder rule name old policy new) (keys_renamed rule name old new)

  -- what these are refused with
  abbrev pub RefusesToSetTextUnder : WriteOption → Option Text → (key value : Text) → EditError → Type 0
  RefusesToSetTextUnder w name key value =
      RefusesInText o T (λ p. RefusesToPutUnder rule name key o w p value)

  abbrev pub RefusesToAddTextUnder : WriteOption → Option Text → (key value : Text) → EditError → Type 0
  RefusesToAddTextUnder w name key value = RefusesInText o T (λ p. RefusesUnder rule name key o w p value)

  -- what the edit is about isn't in the text
  abbrev pub HasNothingUnder : Editing → Type 0
  HasNothingUnder (Set name key value) = ⊥
  HasNothingUnder (SetExisting name key value) = LacksUnder name key
  HasNothingUnder (Add name key value) = ⊥
  HasNothingUnder (Delete name key) = LacksUnder name key
  HasNothingUnder (RenameKey name old new) = LacksUnder name old
  HasNothingUnder (DeleteSection name) = LacksNamed name
  HasNothingUnder (RenameSection old new) = LacksNamed old

  module _ (w : WriteOption) where
    -- the text U is T with the edit made in it
    abbrev pub IsMadeUnder : Editing → Text → Type 0
    IsMadeUnder (Set name key value) U = IsSetTextUnder w name key value U
    IsMadeUnder (SetExisting name key value) U = IsSetThereTextUnder w.escape_policy name key value U
    IsMadeUnder (Add name key value) U = IsAddedTextUnder w name key value U
    IsMadeUnder (Delete name key) U = IsDeletedTextUnder name key U
    IsMadeUnder (RenameKey name old new) U = IsKeyRenamedTextUnder w.escape_policy name old new U
    IsMadeUnder (DeleteSection name) U = IsSectionDeletedTextUnder name U
    IsMadeUnder (RenameSection old new) U = IsNameRenamedTextUnder w.escape_policy old new U

    -- what the edit is refused with
    abbrev pub RefusesMadeUnder : Editing → EditError → Type 0
    RefusesMadeUnder (Set name key value) e = RefusesToSetTextUnder w name key value e
    RefusesMadeUnder (SetExisting name key value) e =
        RefusesInText o T (λ p. RefusesValue o w.escape_policy value) e
    RefusesMadeUnder (Add name key value) e = RefusesToAddTextUnder w name key value e
    RefusesMadeUnder (Delete name key) e = RefusesInText o T (λ p. IsMemoryRefusal) e
    RefusesMadeUnder (RenameKey name old new) e =
        RefusesInText o T (λ p. RefusesKey o w.escape_policy new) e
    RefusesMadeUnder (DeleteSection name) e = RefusesInText o T (λ p. IsMemoryRefusal) e
    RefusesMadeUnder (RenameSection old new) e =
        RefusesInText o T (λ p. RefusesName o w.escape_policy new) e
