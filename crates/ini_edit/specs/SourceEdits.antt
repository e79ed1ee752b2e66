-- Edits of a text in pieces: which piece becomes which. All else stays.
use Rattle.std.specs.Prelude.{◌≡◌, Bool, true, false, not, ◌&&◌, if◌then◌else◌, List, [], ◌∷◌, ◌++◌}
use Rattle.std.specs.Prelude.{Option, None, Some, option_and_then}
use Rattle.ini_text.specs.Escaping.EscapedTexts.{escaped}
use Rattle.ini_text.specs.Grammar.CharacterKinds.{begins, is_comment_mark, space}
use Rattle.ini_text.specs.declared.option.ParseOption.{ParseOption}
use Rattle.ini_text.specs.declared.write.policy.EscapePolicy.{EscapePolicy}
use Rattle.ini.specs.Documents.{first_section, value_in}
use Rattle.ini.specs.Edits.{rename_key_in, section_renamed}
use Rattle.ini.specs.Texts.{Text, is_name, is_text}
use Rattle.ini_edit.specs.Renamed.{HasEdges}
use Rattle.ini_edit.specs.Sections.{header_of}
use Rattle.ini_edit.specs.SourceLines.{blanks_at_end, is_empty}
use Rattle.ini_edit.specs.Sources.{PairPiece, Pieces, SectionPiece, document_in}

-- the first of a list that fits, and the list with that changed
module _ {A : Type 0} (test : A → Bool) where
  abbrev pub first_fitting : List A → Option A
  first_fitting [] = None
  first_fitting (x ∷ xs) = if test x then Some x else first_fitting xs

  abbrev pub first_changed : (A → A) → List A → List A
  first_changed f [] = []
  first_changed f (x ∷ xs) = if test x then f x ∷ xs else x ∷ first_changed f xs

abbrev pub with_pairs : SectionPiece → List PairPiece → SectionPiece
with_pairs s ps = record { name = s.name; header = s.header; after = s.after; pairs = ps }

-- the first pair of the key in a section, and the section with that changed
abbrev pub pair_of_key : Text → SectionPiece → Option PairPiece
pair_of_key key s = first_fitting (λ p. is_text key p.key) s.pairs

abbrev pub key_changed : Text → (PairPiece → PairPiece) → SectionPiece → SectionPiece
key_changed key f s = with_pairs s (first_changed (λ p. is_text key p.key) f s.pairs)

-- the same in the first section of the name
abbrev pub pair_in : Option Text → Text → List SectionPiece → Option PairPiece
pair_in name key ss = option_and_then (pair_of_key key) (first_fitting (λ s. is_name name s.name) ss)

abbrev pub pair_changed : Option Text → Text → (PairPiece → PairPiece) → List SectionPiece
    → List SectionPiece
pair_changed name key f ss = first_changed (λ s. is_name name s.name) (key_changed key f) ss

-- What becomes of a pair's note once the value is written so: an empty bare value can't stand before one, so
-- the note goes with the old value.
abbrev pub note_beside : (source : Text) → PairPiece → Text
note_beside source p = if is_empty source then [] else p.stretches.note

-- and of the white space before it: a note needs a blank there
abbrev pub space_beside : (source : Text) → PairPiece → Text
space_beside source p =
    if is_empty p.stretches.space_after && not (is_empty (note_beside source p)) then space ∷ []
    else p.stretches.space_after

-- a pair with another value, which is written so
abbrev pub with_value : (source value : Text) → PairPiece → PairPiece
with_value source value p = record {
  stretches = record {
    key = p.stretches.key;
    separator = p.stretches.separator;
    space_before = p.stretches.space_before;
    raw_value = source;
    space_after = space_beside source p;
    note = note_beside source p;
    trailing_lines = p.stretches.trailing_lines;
  };
  key = p.key;
  value = value;
  after = p.after;
}

-- a pair with another key, which is written so
abbrev pub with_key : (source key : Text) → PairPiece → PairPiece
with_key source key p = record {
  stretches = record {
    key = source;
    separator = p.stretches.separator;
    space_before = p.stretches.space_before;
    raw_value = p.stretches.raw_value;
    space_after = p.stretches.space_after;
    note = p.stretches.note;
    trailing_lines = p.stretches.trailing_lines;
  };
  key = key;
  value = p.value;
  after = p.after;
}

-- The first pair of the key in the first section of the name has another key, which is written by the policy
-- between the white space that stood around the old one.
pub record IsKeyRenamed (o : ParseOption) (policy : EscapePolicy) (old new : Pieces) (name : Option Text)
    (key other : Text) : Type 0 where
  pub pair : PairPiece
  pub was : pair_in name key old.sections ≡ Some pair
  pub indent : Text
  pub pad : Text
  pub edges : HasEdges o pair.stretches.key indent pad
  pub option : new.option ≡ old.option
  pub sections : new.sections
      ≡ pair_changed name key (with_key (indent ++ (escaped policy other ++ pad)) other) old.sections
  pub document : document_in new ≡ rename_key_in name key other (document_in old)

-- it has, or there is no such pair, and all stays
abbrev pub RenamesKeyIn : ParseOption → EscapePolicy → Pieces → Pieces → Option Text → Text → Text → Bool
    → Type 0
RenamesKeyIn o policy old new name key other true = IsKeyRenamed o policy old new name key other
RenamesKeyIn o policy old new name key other false =
    (new ≡ old) × (value_in name key (document_in old) ≡ None)

-- the blanks that end a header, where a note follows them
abbrev pub blanks_before_note : SectionPiece → Text
blanks_before_note s = if begins is_comment_mark s.after then blanks_at_end s.header else []

-- a section with another name, which stands in such a header; a note behind that keeps its blanks
abbrev pub with_header : (header name : Text) → SectionPiece → SectionPiece
with_header header name s = record {
  name = Some name;
  header = header ++ blanks_before_note s;
  after = s.after;
  pairs = s.pairs;
}

-- The first section of the name has another name, which stands in its header as the policy writes it.
pub record IsNameRenamed (policy : EscapePolicy) (old new : Pieces) (name other : Text) : Type 0 where
  pub section : SectionPiece
  pub was : first_fitting (λ s. is_name (Some name) s.name) old.sections ≡ Some section
  pub option : new.option ≡ old.option
  pub sections : new.sections ≡ first_changed (λ s. is_name (Some name) s.name)
      (with_header (header_of policy other) other) old.sections
  pub document : document_in new ≡ section_renamed (Some name) (Some other) (document_in old)

-- it has, or there is no such section, and all stays
abbrev pub RenamesNameIn : EscapePolicy → Pieces → Pieces → Text → Text → Bool → Type 0
RenamesNameIn policy old new name other true = IsNameRenamed policy old new name other
RenamesNameIn policy old new name other false =
    (new ≡ old) × (first_section (Some name) (document_in old) ≡ None)
