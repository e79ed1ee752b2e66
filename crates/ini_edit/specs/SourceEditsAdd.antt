-- New pairs in a text in pieces, in a section that is there.
use Rattle.std.specs.Prelude.{Bool, true, false, not, ◌&&◌, ◌||◌, ◌==◌, if◌then◌else◌, ℕ, List, [], ◌∷◌}
use Rattle.std.specs.Prelude.{◌++◌, Option, None, Some, is_none}
use Rattle.std.specs.Option.{option_map, option_or}
use Rattle.ini_text.specs.Grammar.CharacterKinds.{backslash, carriage_return, is_blank, is_comment_mark}
use Rattle.ini_text.specs.Grammar.CharacterKinds.{is_line_end, line_feed, space}
use Rattle.ini_text.specs.Grammar.Elements.{may_have_note}
use Rattle.ini_text.specs.Grammar.Positions.{is_column_one, last_or}
use Rattle.ini_text.specs.Grammar.CharacterKinds.{begins}
use Rattle.ini_text.specs.Parsing.Fronts.{front_of}
use Rattle.ini_text.specs.declared.option.ParseOption.{ParseOption}
use Rattle.ini.specs.Texts.{Text}
use Rattle.ini_edit.specs.Endings.{Ending, ending}
use Rattle.ini_edit.specs.SourceEdits.{with_pairs}
use Rattle.ini_edit.specs.SourceEditsDelete.{empty_comment, gap_after, line_end_after, lines_after}
use Rattle.ini_edit.specs.SourceEditsDelete.{own_lines, would_be_taken}
use Rattle.ini_edit.specs.SourceLines.{after_blank_lines, after_comments, after_line, after_line_end}
use Rattle.ini_edit.specs.SourceLines.{blanks_at_end, comments_at_end, has_lone_return, is_empty}
use Rattle.ini_edit.specs.SourceLines.{line_end_at_end}
use Rattle.ini_edit.specs.SourcePlaces.{Place, exchanged, gap_of, gap_put, is_nil, last_before_gap}
use Rattle.ini_edit.specs.SourcePlaces.{last_place, last_word, with_after, with_end, with_last_word}
use Rattle.ini_edit.specs.Sources.{PairPiece, SectionPiece, is_multiline}

abbrev pub is_escape : Ending → Bool
is_escape Ending.inside = false
is_escape Ending.escape = true
is_escape Ending.line = false

-- a note may stand behind a lone CR
abbrev pub notes_behind_return : ParseOption → Bool
notes_behind_return o = may_have_note o (carriage_return ∷ [])

module _ (o : ParseOption) where
  -- A pair's value, or a key alone, with its last backslash made one that stands for itself, where that
  -- would take what follows.
  abbrev pub closed_word : PairPiece → Text
  closed_word p =
      if is_empty p.stretches.note && (is_empty p.stretches.trailing_lines
      && (is_empty p.after && is_escape (ending o (last_word p))))
      then last_word p ++ (if o.enabled_escape then backslash else space) ∷ []
      else last_word p

  abbrev pub closed : PairPiece → PairPiece
  closed p = with_last_word (closed_word p) p

  -- a pair's own lines with a line end, and the pair with these and nothing after them
  abbrev pub ended_lines : (line_end : Text) → PairPiece → Text
  ended_lines end p = own_lines o p ++ (if is_empty (line_end_after o p) then end else [])

  abbrev pub with_line_ended : (line_end : Text) → PairPiece → PairPiece
  with_line_ended end p =
      if is_multiline o p then with_end (ended_lines end p) [] (closed p)
      else with_end [] (ended_lines end p) (closed p)

  -- The line end of a new pair after this one. Where notes may stand behind CR, it is CR alone after a line
  -- that ends so: a note goes up to its line's end, and a comment in column one through the next LF.
  abbrev pub end_after : (line_end : Text) → PairPiece → Text
  end_after end p =
      if notes_behind_return o && last_or line_feed (line_end_after o p) == carriage_return
      then carriage_return ∷ [] else end

-- a multiline value directly before the pair would take it
abbrev pub would_go_on : ParseOption → PairPiece → Bool
would_go_on o p = o.enabled_indented_mutiline_value && begins is_blank p.stretches.key

-- a new pair, indented or not, before lines and a gap
abbrev pub Maker : Type 0
Maker = (indented : Bool) → (lines gap : Text) → PairPiece

-- A place in the gap after a header, or at the text's front: what stands before it, whether a line starts
-- there, the blank lines after it that a multiline value takes, and what follows.
pub record GapPlace : Type 0 where
  pub before : Text
  pub starts : Bool
  pub lines : Text
  pub after : Text

-- the line end of a new pair at a place: CR alone before a comment behind CR
abbrev pub end_at : (line_end : Text) → GapPlace → Text
end_at end place =
    if begins is_comment_mark (place.lines ++ place.after) && not (is_column_one place.before)
    then carriage_return ∷ [] else end

-- after the header's own line, and after the comments in column one directly below it
abbrev pub after_header : Text → GapPlace
after_header gap = record {
  before = front_of gap (after_line gap);
  starts = not (is_empty (line_end_at_end (front_of gap (after_line gap))));
  lines = [];
  after = after_line gap;
}

abbrev pub after_header_comments : Text → GapPlace
after_header_comments gap =
    let line = after_line gap in
    let rest = after_comments false line in
    let comments = front_of line rest in
    if is_empty comments || not (is_column_one (front_of gap line)) then after_header gap
    else record {
      before = front_of gap rest;
      starts = is_column_one comments;
      lines = [];
      after = rest;
    }

-- at the text's front, and after the comments there and the empty line, of LF or CR LF, that ends them, if
-- they are there
abbrev pub at_front : Text → GapPlace
at_front gap = record { before = []; starts = true; lines = []; after = gap }

abbrev pub after_licence : Text → GapPlace
after_licence gap =
    let rest = after_comments false gap in
    let line = front_of rest (after_line_end rest) in
    if is_empty (front_of gap rest) || (is_empty line || not (is_column_one line)) then at_front gap
    else record {
      before = front_of gap (after_line_end rest);
      starts = true;
      lines = [];
      after = after_line_end rest;
    }

-- The place, with the blank lines after it, where a multiline value may stand before what follows: no CR
-- alone in an empty line's place, and no blanks before more, nor before a header.
abbrev pub freed : (is_last : Bool) → GapPlace → Option GapPlace
freed is_last place =
    let rest = after_blank_lines place.after in
    let lines = front_of place.after rest in
    if not (is_empty (blanks_at_end lines)) && not (is_last
    && is_empty rest) || has_lone_return true lines then None
    else Some (record { before = place.before; starts = place.starts; lines = lines; after = rest })

-- the place after the blank lines, but not before an indented key
abbrev pub past_blank_lines : Text → (rest : Text) → Option GapPlace
past_blank_lines gap rest =
    let after = after_blank_lines rest in
    let lines = front_of rest after in
    if not (is_empty (blanks_at_end lines)) && not (is_empty after) then None
    else Some (record {
      before = front_of gap after;
      starts = not (is_empty (line_end_at_end lines));
      lines = [];
      after = after;
    })

-- The place of a section's first pair: in the general section after the comments at the text's front, in
-- another one after the header and its comments. Where values are multiline, and what follows that would go
-- on with the pair, at the front, or after the header; and else after the blank lines there. There is none
-- where an indented key follows these, which the text's end cuts short.
abbrev pub first_place : ParseOption → (is_general is_last : Bool) → Text → Option GapPlace
first_place o is_general is_last gap =
    let wanted = if is_general then after_licence gap else after_header_comments gap in
    let first = if is_general then at_front gap else after_header gap in
    if o.enabled_indented_mutiline_value
    then option_or (freed is_last wanted) (option_or (freed is_last first)
    (past_blank_lines gap first.after))
    else Some wanted

module _ (o : ParseOption) (line_end : Text) (make : Maker) where
  -- A new pair directly after this one, which these follow: before the blank lines and the gap that followed
  -- that. Where values are multiline it isn't indented, and an empty comment keeps what follows a key alone
  -- apart from its value.
  abbrev pub made_after : PairPiece → List PairPiece → PairPiece
  made_after p ps =
      if would_be_taken o p ps then make false line_end (empty_comment line_end ++ gap_after o p)
      else make (not o.enabled_indented_mutiline_value) (end_after o line_end p ++ lines_after o p)
      (gap_after o p)

  abbrev pub pair_put_after : SectionPiece → Place PairPiece → SectionPiece
  pair_put_after s p =
      with_pairs s (exchanged p (with_line_ended o line_end p.here ∷ made_after p.here p.after ∷ []))

  -- a new pair at this place of a section without pairs
  abbrev pub pair_put_first : SectionPiece → GapPlace → SectionPiece
  pair_put_first s place =
      let pair = make true (end_at line_end place ++ place.lines) place.after in
      with_after (place.before ++ (if place.starts then [] else line_end)) (with_pairs s (pair ∷ []))

  -- a new pair directly after the last one of a section; in one without pairs at their place, if there is
  -- one
  abbrev pub pair_put_last : (is_last : Bool) → SectionPiece → (pairs : List PairPiece) → Option SectionPiece
  pair_put_last is_last s [] =
      option_map (pair_put_first s) (first_place o (is_none s.name) is_last s.after)
  pair_put_last is_last s (p ∷ ps) = Some (pair_put_after s (last_place p ps))

  -- A new pair before the one at the place and the comments directly above that. There is no place where
  -- values are multiline, and the pair is indented with no comment above it: it would go on with a value
  -- before it. Before the section stands this character.
  abbrev pub pair_put_before : (front : ℕ) → SectionPiece → Place PairPiece → Option SectionPiece
  pair_put_before front s p =
      let gap = gap_of s.after p.before in
      let last = last_before_gap front s p.before in
      let comments = comments_at_end last gap in
      let kept = front_of gap comments in
      let indented = not o.enabled_indented_mutiline_value || (is_nil p.before || not (is_empty kept)) in
      let before = kept ++ (if is_line_end (last_or last kept) then [] else line_end) in
      if is_empty comments && would_go_on o p.here then None
      else Some (gap_put before s p.before (make indented line_end comments ∷ p.here ∷ p.after))
