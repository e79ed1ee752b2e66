-- A pair added to a text in pieces, in a section that is there or in a new one; put in before a pair or
-- after it; and a key set, wherever its pair stands. What each is refused with.
use Rattle.std.specs.Option.{option_map}
use Rattle.std.specs.Prelude.{◌≡◌, Bool, true, false, ℕ, List, [], ◌∷◌, ◌++◌, ◌+◌, Option, None, Some, IsSome}
use Rattle.std.specs.Prelude.{IsSomeAnd, ⊤, alloc_error, length}
use Rattle.ini_text.specs.Laws.Plain.{IsPlainName}
use Rattle.ini_text.specs.Options.WriteOptions.{line_end}
use Rattle.ini_text.specs.declared.error.Error.TheVariants.{Memory}
use Rattle.ini_text.specs.declared.option.ParseOption.{ParseOption}
use Rattle.ini_text.specs.declared.write.option.WriteOption.{WriteOption}
use Rattle.ini.specs.Edits.{add_in}
use Rattle.ini.specs.Texts.{Text}
use Rattle.ini_edit.specs.NewLines.{line_end_of}
use Rattle.ini_edit.specs.SourceEditsAdd.{Maker, pair_put_after, pair_put_before, pair_put_last}
use Rattle.ini_edit.specs.SourceEditsDelete.{deleted_from}
use Rattle.ini_edit.specs.SourceEditsSections.{section_put}
use Rattle.ini_edit.specs.SourceEditsSet.{IsNthSet, SetsFirst}
use Rattle.ini_edit.specs.SourcePlaces.{PairPlace, Place, edited_at, exchanged, is_nil, last_before_section}
use Rattle.ini_edit.specs.SourcePlaces.{pair_place, section_exchanged, section_place, up_to_pairs}
use Rattle.ini_edit.specs.SourceWritten.{HasForm, IsFirstReadAs, IsWritableNew, RefusesNew, Style}
use Rattle.ini_edit.specs.SourceWritten.{new_pair, new_style, value_forms}
use Rattle.ini_edit.specs.Sources.{PairPiece, Pieces, SectionPiece, document_in, sections_text}
use Rattle.ini_edit.specs.declared.error.EditError.{EditError}
use Rattle.ini_edit.specs.declared.error.EditError.TheVariants.{Name, NoPlace, Text as TextError, Value}
use Rattle.ini_edit.specs.declared.source.set.LaterPairs.{LaterPairs}

-- how a new line of the sections ends: as the first one that LF or CR LF ends, else as the options say
abbrev pub new_line_end : WriteOption → List SectionPiece → Text
new_line_end w ss = line_end (line_end_of w.line_separator (sections_text ss))

-- the pairs of a style, of this source of the value
abbrev pub made : ParseOption → WriteOption → (key value source : Text) → Style → Maker
made o w key value source style indented lines gap =
    new_pair o w.escape_policy style indented key value source lines gap

module _ (o : ParseOption) (w : WriteOption) where
  -- the style of a pair that follows these in its section, and of the first one of a new section
  abbrev pub style_after : List SectionPiece → Place SectionPiece → List PairPiece → Style
  style_after ss s before = new_style o w (up_to_pairs s) before ss

  -- the pair in a section that is there, and in a new one of the name; the general section is always there
  abbrev pub added_at : (key value source : Text) → List SectionPiece → Place SectionPiece
      → Option (List SectionPiece)
  added_at key value source ss s =
      option_map (λ t. exchanged s (t ∷ []))
      (pair_put_last o (new_line_end w ss) (made o w key value source (style_after ss s s.here.pairs))
      (is_nil s.after) s.here s.here.pairs)

  abbrev pub added_new : (key value source : Text) → Option Text → List SectionPiece
      → Option (List SectionPiece)
  added_new key value source None ss = None
  added_new key value source (Some name) ss =
      section_put o w.escape_policy (new_line_end w ss) name
      (Some (made o w key value source (new_style o w [] [] ss))) ss

  -- the pair in the first section of the name, or in a new one
  abbrev pub added : (key value source : Text) → Option Text → List SectionPiece → Option (List SectionPiece)
  added key value source name ss =
      edited_at (added_at key value source ss) (section_place name ss) (added_new key value source name ss)

  -- the pair directly after the one at the place, and before that
  abbrev pub inserted_after : (key value source : Text) → List SectionPiece → PairPlace → List SectionPiece
  inserted_after key value source ss p =
      let style = style_after ss p.section (p.pair.before ++ p.pair.here ∷ []) in
      section_exchanged p
      (pair_put_after o (new_line_end w ss) (made o w key value source style) p.section.here p.pair)

  abbrev pub inserted_before : (key value source : Text) → List SectionPiece → PairPlace
      → Option (List SectionPiece)
  inserted_before key value source ss p =
      let style = style_after ss p.section p.pair.before in
      option_map (section_exchanged p)
      (pair_put_before o (new_line_end w ss) (made o w key value source style)
      (last_before_section p.section)
      p.section.here p.pair)

  -- The pair is added to the first section of the name, or in a new one, in the first form of its value that
  -- is read back. So the document is the one to which it is added.
  pub record IsAddedIn (old new : Pieces) (name : Option Text) (key value : Text) : Type 0 where
    pub writable : IsWritableNew o w key value
    pub source : Text
    pub is_first : IsFirstReadAs o value (value_forms w.escape_policy [] value) source
    pub option : new.option ≡ old.option
    pub sections : added key value source name old.sections ≡ Some new.sections
    pub document : document_in new ≡ add_in name key value (document_in old)

  -- a new section has to be written, and its name isn't plain
  pub record LacksName (ss : List SectionPiece) (name : Option Text) : Type 0 where
    pub writable_section : section_place name ss ≡ None
    pub unplain : ¬ IsSomeAnd name (IsPlainName o w.escape_policy)

  -- What adding a pair is refused with: its words' faults; then, where a section has to be new, its name's;
  -- and that there is no place.
  pub data RefusesAdding (ss : List SectionPiece) (name : Option Text) (key value : Text) : EditError
      → Type 0 where
    unwritable : {e : EditError} → RefusesNew o w key value e → RefusesAdding ss name key value e
    unplain_name : IsWritableNew o w key value → LacksName ss name → RefusesAdding ss name key value Name
    no_place : {source : Text} → IsWritableNew o w key value → ¬ LacksName ss name
        → IsFirstReadAs o value (value_forms w.escape_policy [] value) source
        → added key value source name ss ≡ None → RefusesAdding ss name key value NoPlace

  pub record IsInsertedAfter (old new : Pieces) (name : Option Text) (place key value : Text) (n : ℕ)
      : Type 0 where
    pub writable : IsWritableNew o w key value
    pub at : PairPlace
    pub was : pair_place name place n old.sections ≡ Some at
    pub source : Text
    pub is_first : IsFirstReadAs o value (value_forms w.escape_policy [] value) source
    pub option : new.option ≡ old.option
    pub sections : new.sections
        ≡ inserted_after key value source old.sections at

  -- The pair stands directly after the first one of the key `place`, or there is no such pair, and all
  -- stays.
  abbrev pub InsertsAfter : Pieces → Pieces → Option Text → (place key value : Text) → (n : ℕ) → Bool
      → Type 0
  InsertsAfter old new name place key value n true = IsInsertedAfter old new name place key value n
  InsertsAfter old new name place key value n false =
      (new ≡ old) × (pair_place name place n old.sections ≡ None)

  pub record IsInsertedBefore (old new : Pieces) (name : Option Text) (place key value : Text) : Type 0 where
    pub writable : IsWritableNew o w key value
    pub at : PairPlace
    pub was : pair_place name place 0 old.sections ≡ Some at
    pub source : Text
    pub is_first : IsFirstReadAs o value (value_forms w.escape_policy [] value) source
    pub option : new.option ≡ old.option
    pub sections : inserted_before key value source old.sections at
        ≡ Some new.sections

  -- the same before it
  abbrev pub InsertsBefore : Pieces → Pieces → Option Text → (place key value : Text) → Bool → Type 0
  InsertsBefore old new name place key value true = IsInsertedBefore old new name place key value
  InsertsBefore old new name place key value false =
      (new ≡ old) × (pair_place name place 0 old.sections ≡ None)

  -- putting a pair in before another one is refused for its words, or since there is no place
  pub data RefusesToInsert (ss : List SectionPiece) (name : Option Text) (place key value : Text)
      : EditError → Type 0 where
    unwritable_pair : {e : EditError} → RefusesNew o w key value e → RefusesToInsert ss name place key value e
    no_place_before : {source : Text} {at : PairPlace} → IsWritableNew o w key value
        → IsFirstReadAs o value (value_forms w.escape_policy [] value) source
        → pair_place name place 0 ss ≡ Some at
        → inserted_before key value source ss at ≡ None
        → RefusesToInsert ss name place key value NoPlace

  -- the key is set in its first pair, or, where that isn't there, in a new one
  pub data IsSetIn (later : LaterPairs) (old new : Pieces) (name : Option Text)
      (key value : Text) : Type 0 where
    in_its_place : SetsFirst o w.escape_policy later old new name key value true
        → IsSetIn later old new name key value
    in_new_pair : pair_place name key 0 old.sections ≡ None → IsAddedIn old new name key value
        → IsSetIn later old new name key value

  -- setting a key is refused for its value, whatever the text is; where its pair isn't there, as adding one
  -- is
  abbrev pub RefusesToSetIn : List SectionPiece → Option Text → (key value : Text) → EditError → Type 0
  RefusesToSetIn ss name key value Value = ¬ HasForm o w.escape_policy value
  RefusesToSetIn ss name key value (TextError (Memory _)) = ⊤
  RefusesToSetIn ss name key value e = HasForm o w.escape_policy value
      × ((pair_place name key 0 ss ≡ None) × RefusesAdding ss name key value e)

  -- the same where the pair before which n others of the key stand isn't there
  abbrev pub RefusesToPut : List SectionPiece → Option Text → (key value : Text) → (n : ℕ) → EditError
      → Type 0
  RefusesToPut ss name key value n Value = ¬ HasForm o w.escape_policy value
  RefusesToPut ss name key value n (TextError (Memory _)) = ⊤
  RefusesToPut ss name key value n e = HasForm o w.escape_policy value
      × ((pair_place name key n ss ≡ None) × RefusesAdding ss name key value e)

  -- The key's pair before which n others of it stand has the value; or there are n, and a new one after
  -- these has; or there are fewer, and the value is added.
  pub data IsPut (old new : Pieces) (name : Option Text) (key value : Text) : ℕ → Type 0 where
    is_set : {n : ℕ} → new.option ≡ old.option
        → IsNthSet o w.escape_policy old.sections new.sections name key n value
        → IsPut old new name key value n
    is_added : pair_place name key 0 old.sections ≡ None → IsAddedIn old new name key value
        → IsPut old new name key value 0
    is_inserted : {n : ℕ} → pair_place name key (n + 1) old.sections ≡ None
        → IsInsertedAfter old new name key key value n → IsPut old new name key value (n + 1)
    is_added_later : (n : ℕ) → pair_place name key n old.sections ≡ None → IsAddedIn old new name key value
        → IsPut old new name key value (n + 1)

  -- the values are put one after another, from the pair before which n others stand
  pub data ArePut (name : Option Text) (key : Text) : ℕ → List Text → Pieces → Pieces → Type 0 where
    nothing_put : {n : ℕ} {p : Pieces} → ArePut name key n [] p p
    put_then : {n : ℕ} {value : Text} {values : List Text} {old mid new : Pieces}
        → IsPut old mid name key value n
        → ArePut name key (n + 1) values mid new → ArePut name key n (value ∷ values) old new

module _ (o : ParseOption) (w : WriteOption) where
  -- The key's pairs in the first section of the name have these values, and there are no more of them.
  pub record AreAllSet (old new : Pieces) (name : Option Text) (key : Text)
      (values : List Text) : Type 0 where
    pub mid : Pieces
    pub are_put : ArePut o w name key 0 values old mid
    pub option : new.option ≡ mid.option
    pub sections : new.sections ≡ deleted_from o name key (length values) mid.sections

  -- the values before one are put, and then that is refused; or memory is
  pub data RefusesOneValue (old : Pieces) (name : Option Text) (key : Text) (values : List Text) : EditError
      → Type 0 where
    no_memory : RefusesOneValue old name key values (TextError (Memory alloc_error))
    refused_value : {before : List Text} (after : List Text) (value : Text) {mid : Pieces} {e : EditError}
        → values ≡ before ++ value ∷ after → ArePut o w name key 0 before old mid
        → RefusesToPut o w mid.sections name key value (length before) e
        → RefusesOneValue old name key values e

-- An empty section of the name is put in, where there is none; else all stays.
pub record IsSectionAdded (o : ParseOption) (w : WriteOption) (old new : Pieces) (name : Text) : Type 0 where
  pub lacks : section_place (Some name) old.sections ≡ None
  pub option : new.option ≡ old.option
  pub sections : section_put o w.escape_policy (new_line_end w old.sections) name None old.sections
      ≡ Some new.sections
  pub document : document_in new ≡ document_in old ++ (Some name, []) ∷ []

abbrev pub AddsSection : ParseOption → WriteOption → Pieces → Pieces → Text → Bool → Type 0
AddsSection o w old new name true = IsSectionAdded o w old new name
AddsSection o w old new name false = (new ≡ old) × IsSome (section_place (Some name) old.sections)
