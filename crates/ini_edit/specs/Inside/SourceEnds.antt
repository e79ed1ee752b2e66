-- The last parts of a pair or a header of a text in pieces, once they are written anew.
use Rattle.std.specs.Prelude.{◌≡◌, ◌≢◌, Bool, true, false, ◌&&◌, if◌then◌else◌, ℕ, List, [], ◌∷◌}
use Rattle.std.specs.Prelude.{◌++◌, take, drop, length, chars, String, Option, None, Some, alloc_error, ⊤}
use Rattle.std.specs.declared.alloc.Global.{Global}
use Rattle.std.specs.Option.{option_or, unwrap_or, option_map}
use Rattle.ini_text.specs.Parsing.Items.{cow_text, string_text}
use Rattle.ini_text.specs.declared.parser.placed.Content.{Content}
use Rattle.ini_text.specs.declared.parser.placed.PlacedElement.{PlacedElement}
use Rattle.ini_text.specs.declared.option.ParseOption.{ParseOption}
use Rattle.ini_text.specs.declared.write.policy.EscapePolicy.{EscapePolicy}
use Rattle.ini_text.specs.Grammar.CharacterKinds.{is_line_end, line_feed}
use Rattle.ini_text.specs.declared.write.option.WriteOption.{WriteOption}
use Rattle.ini_text.specs.Laws.Plain.{IsPlainName}
use Rattle.ini_text.specs.declared.error.Error.TheVariants.{Memory}
use Rattle.ini_text.specs.Grammar.Places.{TrailingLines}
use Rattle.ini_text.specs.Grammar.Positions.{last_or}
use Rattle.ini_text.specs.Inside.LineReader.{past_note}
use Rattle.ini_text.specs.Escaping.EscapedTexts.{escaped}
use Rattle.ini_text.specs.Parsing.Fronts.{front_of}
use Rattle.ini.specs.Texts.{is_text, Text}
use Rattle.ini_edit.specs.Inside.Spans.{IsPair}
use Rattle.ini_edit.specs.Renamed.{HasEdges}
use Rattle.ini_edit.specs.SourceEdits.{with_key, with_pairs}
use Rattle.ini_edit.specs.SourceEditsSet.{with_value_before}
use Rattle.ini_edit.specs.SourceEditsAdd.{GapPlace, Maker}
use Rattle.ini_edit.specs.declared.source.place.GapPlace.{GapPlace as Found}
use Rattle.ini_edit.specs.SourceEditsDelete.{empty_comment, ends_in_value, gap_after, pair_taken_out}
use Rattle.ini_edit.specs.SourceEditsDelete.{rest_put, to_line_feed}
use Rattle.ini_edit.specs.SourceEditsSections.{after_new_section, section_put}
use Rattle.ini_edit.specs.SourceLines.{after_line_end, is_empty}
use Rattle.ini_edit.specs.SourcePlaces.{PairPlace, Place, exchanged, gap_put, last_before_gap, last_changed}
use Rattle.ini_edit.specs.SourcePlaces.{last_gap, nth_place, last_word, with_after, with_end, with_last_word}
use Rattle.ini_edit.specs.Quotes.{written_in}
use Rattle.ini_edit.specs.SourceWritten.{IsReadAs, IsWrittenInPlace, Style, last_that_begins}
use Rattle.ini_edit.specs.SourceWritten.{last_that_begins_in, new_pair, option_style, style_like}
use Rattle.ini_edit.specs.Sources.{PairPiece, Pieces, SectionPiece, sections_text}
use Rattle.ini_edit.specs.declared.error.EditError.{EditError}
use Rattle.ini_edit.specs.declared.error.EditError.TheVariants.{Name, NoPlace, Text as TextError}
use Rattle.ini_edit.specs.declared.source.pair.ends.NewEnd.{NewEnd}
use Rattle.ini_edit.specs.declared.source.written.NewPair.{NewPair}
use Rattle.ini_edit.specs.declared.source.written.PairStyle.{PairStyle}
use Rattle.ini_text.specs.declared.parser.placed.Content.TheVariants as content

-- the new last word, if there is one
abbrev pub word_of : Text → Option (String Global) → Text
word_of old None = old
word_of old (Some word) = string_text word

-- a pair with its last parts new
abbrev pub with_new_end : NewEnd → PairPiece → PairPiece
with_new_end e p =
    with_end (string_text e.trailing_lines) (string_text e.after)
    (with_last_word (word_of (last_word p) e.last_word) p)

-- The lines after the value that a key alone gets, and what follows them, where the value would take that or
-- not; a note that followed the key stands before these.
abbrev pub ends_of_value : ParseOption → (apart : Bool) → PairPiece → Text × Text
ends_of_value o apart p =
    let rest = past_note o p.after in
    let end = front_of rest (after_line_end rest) in
    if o.enabled_indented_mutiline_value
    then (
      end ++ (if apart then to_line_feed (last_or line_feed end) else []),
      (if apart then empty_comment (line_feed ∷ []) else []) ++ gap_after o p,
    )
    else ([], rest)

-- those of the last of the pairs before a place, or of the header, where there are none; then these pairs
-- follow
abbrev pub end_put : NewEnd → SectionPiece → (before after : List PairPiece) → SectionPiece
end_put e s [] after = with_after (string_text e.after) (with_pairs s after)
end_put e s (p ∷ ps) after = with_pairs s (last_changed (with_new_end e) (p ∷ ps) ++ after)

-- the same before the pair at the index
abbrev pub end_put_at : NewEnd → ℕ → SectionPiece → SectionPiece
end_put_at e i s = end_put e s (take i s.pairs) (drop i s.pairs)

-- the index is that of the place in the list
pub record IsPlaceAt {A : Type 0} (xs : List A) (p : Place A) (i : ℕ) : Type 0 where
  pub whole : xs ≡ p.before ++ p.here ∷ p.after
  pub index : i ≡ length p.before

-- the place is there, and has the index
pub record IsFound {A : Type 0} (xs : List A) (found : Option (Place A)) (i : ℕ) : Type 0 where
  pub place : Place A
  pub is : found ≡ Some place
  pub at : IsPlaceAt xs place i

-- at the index stands the one that fits before which so many others fit, or there is none
abbrev pub IsNthAt : {A : Type 0} → (A → Bool) → ℕ → List A → Option ℕ → Type 0
IsNthAt test n xs None = nth_place test n xs ≡ None
IsNthAt test n xs (Some i) = IsFound xs (nth_place test n xs) i

-- the style of the code, and that of the last pair before the index that begins a line
abbrev pub style_of : PairStyle → Style
style_of style = record {
  indent = chars style.indent.now;
  pad = chars style.pad.now;
  separator = style.separator;
  space_before = chars style.space_before.now;
}

abbrev pub style_before : ParseOption → (front : ℕ) → SectionPiece → ℕ → Option Style
style_before o front s i =
    option_map (style_like o)
    (last_that_begins (front ∷ (s.header ++ s.after)) (take i s.pairs))

-- what a new pair is, indented or not, before lines and a gap
abbrev pub made_pair : ParseOption → NewPair → (indented : Bool) → (lines gap : Text) → PairPiece
made_pair o pair indented lines gap = record {
  stretches = record {
    key = (if indented then string_text pair.indent else []) ++ string_text pair.raw_key;
    separator = Some pair.separator;
    space_before = cow_text pair.space_before;
    raw_value = string_text pair.raw_value;
    space_after = [];
    note = [];
    trailing_lines = if o.enabled_indented_mutiline_value then lines else [];
  };
  key = string_text pair.key;
  value = string_text pair.value;
  after = if o.enabled_indented_mutiline_value then gap else lines ++ gap;
}

-- a new pair is this one, but for what stands around it
abbrev pub IsNewPair : EscapePolicy → Style → (key value source : Text) → NewPair → Type 0
IsNewPair policy style key value source pair =
    (o : ParseOption) (indented : Bool) (lines gap : Text)
    → made_pair o pair indented lines gap ≡ new_pair o policy style indented key value source lines gap

-- where a pair stands: its section's index, and its own in that
pub record IsPairAt (found : Option PairPlace) (ss : List SectionPiece) (i j : ℕ) : Type 0 where
  pub place : PairPlace
  pub is : found ≡ Some place
  pub section : IsPlaceAt ss place.section i
  pub pair : IsPlaceAt place.section.here.pairs place.pair j

-- the last character before the section at the index
abbrev pub last_before : List SectionPiece → ℕ → ℕ
last_before ss i = last_or line_feed (sections_text (take i ss))

-- of a section's pairs that of the key before which `kept` others stand was taken out, as often as there was
-- one
pub data IsWithout (o : ParseOption) (front : ℕ) (key : Text) (kept : ℕ) : SectionPiece → SectionPiece
    → Type 0 where
  no_more : {s : SectionPiece} → nth_place (λ p. is_text key p.key) kept s.pairs ≡ None
      → IsWithout o front key kept s s
  one_more : {s new : SectionPiece} {p : Place PairPiece}
      → nth_place (λ p. is_text key p.key) kept s.pairs ≡ Some p
      → IsWithout o front key kept (pair_taken_out o front s p) new → IsWithout o front key kept s new

-- a place after all of a list
abbrev pub at_end : {A : Type 0} → List A → A → Place A
at_end xs x = record { before = xs; here = x; after = [] }

-- the pair at the place of a section changed
abbrev pub pair_changed_in : (PairPiece → PairPiece) → SectionPiece → Place PairPiece → SectionPiece
pair_changed_in f s p = with_pairs s (exchanged p (f p.here ∷ []))

module _ (o : ParseOption) (policy : EscapePolicy) where
  -- another source of a pair's value; none where it has the value
  abbrev pub IsWrittenOr : Text → PairPiece → Option Text → Type 0
  IsWrittenOr value p None = value ≡ p.value
  IsWrittenOr value p (Some source) =
      (value ≢ p.value) × IsWrittenInPlace o policy p.stretches.raw_value p.stretches.note p.value value source

  -- the pair at the place has the value
  pub record IsSetAt (value : Text) (old new : SectionPiece) (p : Place PairPiece) : Type 0 where
    pub source : Text
    pub is_written : IsWrittenInPlace o policy p.here.stretches.raw_value p.here.stretches.note p.here.value
        value source
    pub is : new ≡ pair_changed_in (with_value_before o source value p.after) old p

  -- the pair at the place has another key
  pub record IsRenamedAt (other : Text) (old new : SectionPiece) (p : Place PairPiece) : Type 0 where
    pub indent : Text
    pub pad : Text
    pub edges : HasEdges o p.here.stretches.key indent pad
    pub is : new ≡ pair_changed_in (with_key (indent ++ (escaped policy other ++ pad)) other) old p

  -- the pair at the place has the value, and the later pairs of the key are out
  pub record IsSetAlone (front : ℕ) (key value : Text) (old new : SectionPiece)
      (p : Place PairPiece) : Type 0 where
    pub set : SectionPiece
    pub is_set : IsSetAt value old set p
    pub without : IsWithout o front key 1 set new

-- what a section is with its last parts new, once the pair at the place is taken out, or another pair put in
abbrev pub end_put_last : NewEnd → SectionPiece → SectionPiece
end_put_last e s = end_put e s s.pairs []

-- the new pairs of the code
abbrev pub maker_of : ParseOption → Option NewPair → Option Maker
maker_of o None = None
maker_of o (Some pair) = Some (made_pair o pair)

-- Pairs of a maker, before lines and a gap, are read where a line starts, before all that may follow their
-- lines.
pub record MakesPairs (o : ParseOption) (make : Maker) : Type 0 where
  pub trailing : (indented : Bool) (lines gap : Text) → (make indented lines gap).stretches.trailing_lines
      ≡ (if o.enabled_indented_mutiline_value then lines else [])
  pub after : (indented : Bool) (lines gap : Text) → (make indented lines gap).after
      ≡ (if o.enabled_indented_mutiline_value then gap else lines ++ gap)
  pub pair : (indented : Bool) (lines gap : Text) {c : ℕ} {r : Text} → is_line_end c ≡ true
      → TrailingLines o (make indented lines gap).stretches.trailing_lines r
      → IsPair o c (make indented lines gap).stretches (make indented lines gap).key
      (make indented lines gap).value r

-- where a new section goes in the last gap of a section after others
abbrev pub place_in : ParseOption → (has_pair : Bool) → (before : List SectionPiece) → SectionPiece
    → Option Text
place_in o has_pair before s =
    after_new_section o has_pair
    (last_before_gap (last_or line_feed (sections_text before)) s s.pairs) (last_gap s)

-- a section was put in after the others, of a plain name
pub record IsSectionPut (make : Option Maker) (o : ParseOption) (policy : EscapePolicy)
    (line_end name : Text)
    (old new : Pieces) : Type 0 where
  pub plain_name : IsPlainName o policy name
  pub option : new.option ≡ old.option
  pub sections : section_put o policy line_end name make old.sections ≡ Some new.sections

-- or wasn't: for its name, for there is no place, or for memory
pub data RefusesSection (make : Option Maker) (o : ParseOption) (policy : EscapePolicy)
    (line_end name : Text)
    (ss : List SectionPiece) : EditError → Type 0 where
  unplain_name : ¬ IsPlainName o policy name → RefusesSection make o policy line_end name ss Name
  no_place : IsPlainName o policy name → section_put o policy line_end name make ss ≡ None
      → RefusesSection make o policy line_end name ss NoPlace
  no_memory : IsPlainName o policy name
      → RefusesSection make o policy line_end name ss (TextError (Memory alloc_error))

-- there is no place, and it is refused for that; or memory is
abbrev pub IsNoPlaceOrMemory : {A : Type 0} → Option A → EditError → Type 0
IsNoPlaceOrMemory put NoPlace = put ≡ None
IsNoPlaceOrMemory put (TextError (Memory _)) = ⊤
IsNoPlaceOrMemory put _ = ⊥

-- the trailing lines of the last of the pairs before a place; none of a header
abbrev pub trailing_of : List PairPiece → Text
trailing_of [] = []
trailing_of (p ∷ []) = p.stretches.trailing_lines
trailing_of (p ∷ q ∷ ps) = trailing_of (q ∷ ps)

-- a pair of the trailing lines and the gap that lines and a gap are together
abbrev pub parted_lines : ParseOption → (lines gap : Text) → Text × Text
parted_lines o lines gap = if o.enabled_indented_mutiline_value then (lines, gap) else ([], lines ++ gap)

-- the last of the pairs takes lines that follow what is kept of its gap
abbrev pub takes_lines : ParseOption → (kept : Text) → List PairPiece → Bool
takes_lines o kept ps = is_empty kept && ends_in_value o ps

-- the last parts of a section of these pairs, of whose last gap this is kept, and lines and a rest follow
pub record IsKept (o : ParseOption) (kept lines rest : Text) (ps : List PairPiece) (e : NewEnd) : Type 0 where
  pub last_word : e.last_word ≡ None
  pub trailing_lines : string_text e.trailing_lines
      ≡ (if takes_lines o kept ps then trailing_of ps ++ lines else trailing_of ps)
  pub after : string_text e.after
      ≡ (if takes_lines o kept ps then kept ++ rest else kept ++ (lines ++ rest))

-- of a section's last gap this is kept, and lines and a rest follow
abbrev pub put_after_kept : ParseOption → (kept lines rest : Text) → SectionPiece → SectionPiece
put_after_kept o kept lines rest s =
    let bare = gap_put kept s s.pairs [] in rest_put o lines rest bare bare.pairs []

-- the same of the gap before a place, and then these pairs follow
abbrev pub put_over_kept : ParseOption → (kept lines rest : Text) → SectionPiece
    → (before after : List PairPiece) → SectionPiece
put_over_kept o kept lines rest s before after =
    let bare = gap_put kept s before [] in rest_put o lines rest bare bare.pairs after

-- an edit of a section was made, or there is no place for it, and the section stays
abbrev pub PutsOr : Option SectionPiece → SectionPiece → SectionPiece → Bool → Type 0
PutsOr put old new true = put ≡ Some new
PutsOr put old new false = (put ≡ None) × (new ≡ old)

abbrev pub MatchesPair : (source value : Text) → Content → Type 0
MatchesPair source value (content.Pair p) = (chars p.places.raw_value.now ≡ source)
    × (cow_text p.value ≡ value)
MatchesPair source value _ = ⊥

-- an element is a pair of the value, of which the source is all that is written
abbrev pub GivesValue : (source value : Text) → PlacedElement → Type 0
GivesValue source value e = MatchesPair source value e.content

-- what is written of a value in this quote, where it is read as the value; or it isn't
abbrev pub IsTried : ParseOption → EscapePolicy → (quote value : Text) → Option Text → Type 0
IsTried o policy quote value None = ¬ IsReadAs o (written_in policy quote value) value
IsTried o policy quote value (Some source) =
    (source ≡ written_in policy quote value) × IsReadAs o source value

-- a place of the code
abbrev pub place_of : Found → GapPlace
place_of p = record {
  before = chars p.before.now;
  starts = p.is_line_start;
  lines = chars p.lines.now;
  after = chars p.after.now;
}

-- the style of the last pair before the index of the first of these sections that begins a line
abbrev pub style_in_first : ParseOption → (front : ℕ) → (index : ℕ) → List SectionPiece → Option Style
style_in_first o front j [] = None
style_in_first o front j (s ∷ ss) = style_before o front s j

-- the style of the last pair before the index of a section that begins a line, and of a pair that is put in
-- there
abbrev pub style_in : ParseOption → List SectionPiece → (section index : ℕ) → Option Style
style_in o ss i j = style_in_first o (last_before ss i) j (drop i ss)

abbrev pub style_at : ParseOption → WriteOption → List SectionPiece → (section index : ℕ) → Style
style_at o w ss i j =
    unwrap_or (option_or (style_in o ss i j) (option_map (style_like o) (last_that_begins_in [] ss)))
    (option_style (chars w.kv_separator.now))
