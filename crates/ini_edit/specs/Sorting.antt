-- A text sorted: the pairs of each section by key, or its sections by name, each with what stands directly
-- above it.
use Rattle.std.specs.Prelude.{◌≡◌, ◌≢◌, ◌==◌, ◌&&◌, ◌||◌, if◌then◌else◌, ℕ, Bool, true, false, List, [], ◌∷◌}
use Rattle.std.specs.Prelude.{◌+◌, ◌++◌, Option, None, Some, count_by, map, sum_by, ⊤}
use Rattle.std.specs.Cmp.Lexicographic.{slice_cmp}
use Rattle.std.specs.Option.{option_or, unwrap_or}
use Rattle.std.specs.List.{filter}
use Rattle.std.specs.List.Sorted.{IsPermutation, IsSortedByKey}
use Rattle.std.specs.Ordering.{nat_cmp}
use Rattle.ini_text.specs.Grammar.CharacterKinds.{carriage_return, is_blank, is_line_feed, line_feed}
use Rattle.ini_text.specs.Grammar.Places.{pair_source}
use Rattle.ini_text.specs.Grammar.Positions.{last_or}
use Rattle.ini_text.specs.Parsing.Fronts.{front_of}
use Rattle.ini_text.specs.declared.error.ParseError.{ParseError}
use Rattle.ini_text.specs.declared.option.ParseOption.{ParseOption}
use Rattle.ini.specs.Documents.{Document}
use Rattle.ini.specs.Loading.{IsStopOf}
use Rattle.ini.specs.Properties.{Pairs}
use Rattle.ini.specs.Texts.{Text, is_name, is_text}
use Rattle.ini_edit.specs.SourceEntries.{behind_value, comments_in}
use Rattle.ini_edit.specs.SourceLines.{after_line}
use Rattle.ini_edit.specs.SourcePlaces.{is_nil, last_before_gap, last_gap}
use Rattle.ini_edit.specs.Sources.{PairPiece, Pieces, SectionPiece, document_in, joined, section_text}
use Rattle.ini_edit.specs.WholeTexts.{IsReadInPieces}
use Rattle.ini_edit.specs.declared.source.layout.Loss.{Loss}
use Rattle.ini_edit.specs.declared.source.layout.Loss.TheVariants.{Different, Unreadable}
use Rattle.ini_edit.specs.declared.source.layout.sort.Sorting.{Sorting}
use Rattle.ini_edit.specs.declared.source.layout.sort.Sorting.TheVariants.{Both, Keys, Sections}

-- what follows the last blank line; `is_blank_line` says that the first one is blank so far
abbrev pub after_last_blank : (is_blank_line : Bool) → Text → Option Text
after_last_blank is_blank_line [] = None
after_last_blank is_blank_line (c ∷ cs) =
    if is_line_feed c then option_or (after_last_blank true cs) (if is_blank_line then Some cs else None)
    else after_last_blank (is_blank_line && (is_blank c || c == carriage_return)) cs

-- the lines that begin in a gap, after this character
abbrev pub lines_in : (before : ℕ) → (gap : Text) → Text
lines_in before gap = if is_line_feed before then gap else after_line gap

-- what stands directly above what follows a gap: its lines, from the last blank one on
abbrev pub above_in : (before : ℕ) → (gap : Text) → Text
above_in before gap = unwrap_or (after_last_blank true (lines_in before gap)) (lines_in before gap)

-- a pair with what stands directly above it, and what stands after it up to what is above the next
pub record PairUnit : Type 0 where
  pub above : Text
  pub pair : PairPiece
  pub rest : Text

-- a section with what stands directly above it, what stands after its header up to what is above the first
-- pair, and its pairs
pub record SectionUnit : Type 0 where
  pub above : Text
  pub section : SectionPiece
  pub rest : Text
  pub pairs : List PairUnit

-- what stands directly above what follows a pair; nothing follows the text's last one
abbrev pub above_after : (is_end : Bool) → PairPiece → Text
above_after is_end p =
    if is_end then [] else above_in (last_or line_feed (pair_source p.stretches)) p.after

-- the units of pairs, of which this stands above the first
abbrev pub pair_units : (is_last : Bool) (first : Text) → List PairPiece → List PairUnit
pair_units is_last above [] = []
pair_units is_last above (p ∷ ps) =
    let next = above_after (is_last && is_nil ps) p in
    record { above = above; pair = p; rest = front_of p.after next } ∷ pair_units is_last next ps

-- what stands directly above a section's first pair, or where there is none above the next header; and above
-- that
abbrev pub first_above : (front : ℕ) (is_last : Bool) → SectionPiece → Text
first_above front is_last s =
    if is_last && is_nil s.pairs then [] else above_in (last_or front s.header) s.after

abbrev pub above_header : (front : ℕ) (is_last : Bool) → SectionPiece → Text
above_header front is_last s =
    if is_last then [] else above_in (last_before_gap front s s.pairs) (last_gap s)

abbrev pub section_unit : (above : Text) (front : ℕ) (is_last : Bool) → SectionPiece → SectionUnit
section_unit above front is_last s =
    let first = first_above front is_last s in record {
      above = above;
      section = s;
      rest = front_of s.after first;
      pairs = pair_units is_last first s.pairs;
    }

-- the units of sections, after this character
abbrev pub section_units : (front : ℕ) (above : Text) → List SectionPiece → List SectionUnit
section_units front above [] = []
section_units front above (s ∷ ss) =
    section_unit above front (is_nil ss) s
    ∷ section_units (last_or front (section_text s)) (above_header front (is_nil ss) s) ss

-- the text of units
abbrev pub pair_unit_text : PairUnit → Text
pair_unit_text u = u.above ++ (pair_source u.pair.stretches ++ u.rest)

abbrev pub section_unit_text : SectionUnit → Text
section_unit_text u =
    u.above ++ (u.section.header ++ (u.rest ++ joined pair_unit_text u.pairs))

abbrev pub units_in : Pieces → List SectionUnit
units_in p = section_units line_feed [] p.sections

abbrev pub units_text : List SectionUnit → Text
units_text us = joined section_unit_text us

-- what a pair's unit says, and a section's: key and value, or name and pairs, and the comments above it and
-- after it
pub record PairSaid : Type 0 where
  pub above : Text
  pub key : Text
  pub value : Text
  pub rest : Text

pub record SectionSaid : Type 0 where
  pub above : Text
  pub name : Option Text
  pub rest : Text
  pub pairs : List PairSaid

abbrev pub pair_said : PairUnit → PairSaid
pair_said u = record {
  above = comments_in u.above;
  key = u.pair.key;
  value = u.pair.value;
  rest = comments_in (behind_value u.pair.stretches u.rest);
}

abbrev pub section_said : SectionUnit → SectionSaid
section_said u = record {
  above = comments_in u.above;
  name = u.section.name;
  rest = comments_in u.rest;
  pairs = map pair_said u.pairs;
}

-- The second list is the first one, sorted by these texts, by the numbers of their characters. Those with
-- the same text keep their order.
pub record IsSortedFrom {X : Type 0} (key : X → Text) (xs ys : List X) : Type 0 where
  pub moved : IsPermutation xs ys
  pub rises : IsSortedByKey key (slice_cmp nat_cmp) ys
  pub each : (k : Text) → filter (λ x. is_text k (key x)) ys ≡ filter (λ x. is_text k (key x)) xs

-- sorted, or as it is
abbrev pub IsSortedIf : {X : Type 0} → (sorts : Bool) → (X → Text) → List X → List X → Type 0
IsSortedIf true key xs ys = IsSortedFrom key xs ys
IsSortedIf false key xs ys = ys ≡ xs

abbrev pub unit_key : PairUnit → Text
unit_key u = u.pair.key

-- names go by their characters too, and no name, which is the general section's, comes first
abbrev pub name_key : Option Text → Text
name_key None = []
name_key (Some name) = 0 ∷ name

abbrev pub unit_name : SectionUnit → Text
unit_name u = name_key u.section.name

-- sections with their pairs sorted, or as they are
pub record IsKeySorted (sorts : Bool) (u v : SectionUnit) : Type 0 where
  pub pairs : IsSortedIf sorts unit_key u.pairs v.pairs
  pub stays : v ≡ record u { pairs = v.pairs }

abbrev pub KeysSorted : (sorts : Bool) → List SectionUnit → List SectionUnit → Type 0
KeysSorted sorts [] [] = ⊤
KeysSorted sorts [] (v ∷ vs) = ⊥
KeysSorted sorts (u ∷ us) [] = ⊥
KeysSorted sorts (u ∷ us) (v ∷ vs) = IsKeySorted sorts u v × KeysSorted sorts us vs

abbrev pub sorts_keys : Sorting → Bool
sorts_keys Keys = true
sorts_keys Sections = false
sorts_keys Both = true

abbrev pub sorts_sections : Sorting → Bool
sorts_sections Keys = false
sorts_sections Sections = true
sorts_sections Both = true

-- units in the order that is asked for: first pairs are sorted, then sections
pub record IsOrdered (sorting : Sorting) (us vs : List SectionUnit) : Type 0 where
  pub by_key : List SectionUnit
  pub keys : KeysSorted (sorts_keys sorting) us by_key
  pub sections : IsSortedIf (sorts_sections sorting) unit_name by_key vs

module _ (o : ParseOption) where
  -- the text says what units say
  pub record Says (T : Text) (us : List SectionUnit) : Type 0 where
    pub new : Pieces
    pub is_read : IsReadInPieces o T new
    pub said : map section_said (units_in new) ≡ map section_said us

  -- it doesn't: it isn't read, or says something else
  pub data Misses (T : Text) (us : List SectionUnit) : Loss → Type 0 where
    stops : {e : ParseError} → IsStopOf o T e → Misses T us Unreadable
    differs : (new : Pieces) → IsReadInPieces o T new → map section_said (units_in new) ≢ map section_said us
        → Misses T us Different

  -- units of the text T; where their text would lose something, T stays, and the loss is told
  pub data IsTextOf (T : Text) (us : List SectionUnit) : Option Loss → Text → Type 0 where
    sorted : Says (units_text us) us → IsTextOf T us None (units_text us)
    left : {loss : Loss} → Misses (units_text us) us loss → IsTextOf T us (Some loss) T

  -- the text U is the text T, sorted; where it is left as it is, for this loss
  pub record IsSortOf (sorting : Sorting) (loss : Option Loss) (T U : Text) : Type 0 where
    pub old : Pieces
    pub was : IsReadInPieces o T old
    pub units : List SectionUnit
    pub ordered : IsOrdered sorting (units_in old) units
    pub is : IsTextOf T units loss U

-- the values of a key in a section, in order; and those in each section of a name
abbrev pub values_of : (key : Text) → Option Text × Pairs → List Text
values_of key s = map (λ p. p.1) (filter (λ p. is_text key p.0) s.1)

abbrev pub looked_up : (name : Option Text) (key : Text) → Document → List (List Text)
looked_up name key d = map (values_of key) (filter (λ s. is_name name s.0) d)

-- how often these comments are those above or after a pair, and a header
abbrev pub times_of_pair : (comments : Text) → PairSaid → ℕ
times_of_pair comments p = count_by (is_text comments) (p.above ∷ p.rest ∷ [])

abbrev pub times_of_section : (comments : Text) → SectionSaid → ℕ
times_of_section comments s =
    count_by (is_text comments) (s.above ∷ s.rest ∷ []) + sum_by (times_of_pair comments) s.pairs

abbrev pub times_in : (comments : Text) → Pieces → ℕ
times_in comments p = sum_by (times_of_section comments) (map section_said (units_in p))

-- the text U answers each look-up as T does, and has its sections' names and its comments, each as often
pub record KeepsAll (o : ParseOption) (T U : Text) : Type 0 where
  pub old : Pieces
  pub new : Pieces
  pub was : IsReadInPieces o T old
  pub is : IsReadInPieces o U new
  pub answers : (name : Option Text) (key : Text)
      → looked_up name key (document_in new) ≡ looked_up name key (document_in old)
  pub names : IsPermutation (map (λ s. s.0) (document_in old)) (map (λ s. s.0) (document_in new))
  pub comments : (comments : Text) → times_in comments new ≡ times_in comments old
