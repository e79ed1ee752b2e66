-- Values set in a text in pieces.
use Rattle.std.specs.Prelude.{◌≡◌, if◌then◌else◌, Bool, true, false, ℕ, List, [], ◌∷◌, ◌++◌, Option, None}
use Rattle.std.specs.Prelude.{Some, ⊤}
use Rattle.ini_text.specs.Grammar.CharacterKinds.{equals, line_feed, space}
use Rattle.ini_text.specs.Grammar.Positions.{last_or}
use Rattle.ini_text.specs.Inside.LineReader.{past_note}
use Rattle.ini_text.specs.Parsing.Fronts.{front_of}
use Rattle.ini_text.specs.declared.error.Error.TheVariants.{Memory}
use Rattle.ini_text.specs.declared.option.ParseOption.{ParseOption}
use Rattle.ini_text.specs.declared.write.policy.EscapePolicy.{EscapePolicy}
use Rattle.ini.specs.Texts.{Text, is_text}
use Rattle.ini_edit.specs.SourceEdits.{with_pairs, with_value}
use Rattle.ini_edit.specs.SourceEditsAdd.{closed_word}
use Rattle.ini_edit.specs.SourceEditsDelete.{deleted_from, empty_comment, gap_after, to_line_feed}
use Rattle.ini_edit.specs.SourceEditsDelete.{would_be_taken}
use Rattle.ini_edit.specs.SourceLines.{after_line_end, is_empty}
use Rattle.ini_edit.specs.SourcePlaces.{PairPlace, exchanged, pair_place, section_exchanged}
use Rattle.ini_edit.specs.SourceWritten.{IsWrittenInPlace}
use Rattle.ini_edit.specs.Sources.{PairPiece, Pieces, SectionPiece, has_separator}
use Rattle.ini_edit.specs.declared.source.set.LaterPairs.{LaterPairs}
use Rattle.ini_edit.specs.declared.source.set.LaterPairs.TheVariants.{TakenOut, Left}
use Rattle.ini_edit.specs.declared.error.EditError.{EditError}
use Rattle.ini_edit.specs.declared.error.EditError.TheVariants.{Text as TextError}

module _ (o : ParseOption) where
  -- A key alone before these pairs with a value: a separator directly after it, which its last backslash
  -- doesn't take, and the value directly after that; a note that followed stands after a space. Where values
  -- are multiline, its line end is the value's; an empty comment keeps what follows apart, where the value
  -- would take that.
  abbrev pub with_separator : (source value : Text) → List PairPiece → PairPiece → PairPiece
  with_separator source value ps p =
      let apart = would_be_taken o p ps in
      let rest = past_note o p.after in
      let note = front_of p.after rest in
      let end = front_of rest (after_line_end rest) in
      let own = end ++ (if apart then to_line_feed (last_or line_feed end) else []) in
      record {
        stretches = record {
          key = closed_word o p;
          separator = Some equals;
          space_before = [];
          raw_value = source;
          space_after = if is_empty note then [] else space ∷ [];
          note = note;
          trailing_lines = if o.enabled_indented_mutiline_value then own else [];
        };
        key = p.key;
        value = value;
        after = if o.enabled_indented_mutiline_value
            then (if apart then empty_comment (line_feed ∷ []) else []) ++ gap_after o p
            else rest;
      }

  -- A pair before these with another value, which is written so. One that has the value stays.
  abbrev pub with_value_before : (source value : Text) → List PairPiece → PairPiece → PairPiece
  with_value_before source value ps p =
      if is_text value p.value then p
      else (if has_separator p then with_value source value p else with_separator source value ps p)

-- the pair at the place changed
abbrev pub pair_changed_at : (PairPiece → PairPiece) → PairPlace → List SectionPiece
pair_changed_at f p =
    section_exchanged p (with_pairs p.section.here (exchanged p.pair (f p.pair.here ∷ [])))

-- The pair of the key before which so many others of the key stand has the value, in its place.
pub record IsNthSet (o : ParseOption) (policy : EscapePolicy) (old new : List SectionPiece)
    (name : Option Text)
    (key : Text) (n : ℕ) (value : Text) : Type 0 where
  pub place : PairPlace
  pub was : pair_place name key n old ≡ Some place
  pub source : Text
  pub is_written : IsWrittenInPlace o policy place.pair.here.stretches.raw_value
      place.pair.here.stretches.note place.pair.here.value value source
  pub is : new ≡ pair_changed_at (with_value_before o source value place.pair.after) place

-- the later pairs of the key out, or all as it is
abbrev pub later_done : ParseOption → LaterPairs → Option Text → Text → List SectionPiece → List SectionPiece
later_done o TakenOut name key ss = deleted_from o name key 1 ss
later_done o Left name key ss = ss

-- The first pair of the key has the value, and of the later ones this is done.
pub record IsFirstSet (o : ParseOption) (policy : EscapePolicy) (later : LaterPairs)
    (old new : List SectionPiece)
    (name : Option Text) (key value : Text) : Type 0 where
  pub set : List SectionPiece
  pub is_set : IsNthSet o policy old set name key 0 value
  pub is : new ≡ later_done o later name key set

-- it has, or there is no such pair, and all stays
abbrev pub SetsNth : ParseOption → EscapePolicy → Pieces → Pieces → Option Text → Text → ℕ → Text → Bool
    → Type 0
SetsNth o policy old new name key n value true =
    (new.option ≡ o) × IsNthSet o policy old.sections new.sections name key n value
SetsNth o policy old new name key n value false = (new ≡ old) × (pair_place name key n old.sections ≡ None)

abbrev pub SetsFirst : ParseOption → EscapePolicy → LaterPairs → Pieces → Pieces → Option Text → Text → Text
    → Bool
    → Type 0
SetsFirst o policy later old new name key value true =
    (new.option ≡ o) × IsFirstSet o policy later old.sections new.sections name key value
SetsFirst o policy later old new name key value false =
    (new ≡ old) × (pair_place name key 0 old.sections ≡ None)

-- memory was refused
abbrev pub IsMemoryRefusal : EditError → Type 0
IsMemoryRefusal (TextError (Memory _)) = ⊤
IsMemoryRefusal _ = ⊥
