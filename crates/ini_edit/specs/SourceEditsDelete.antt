-- Pairs taken out of a text in pieces.
use Rattle.std.specs.Prelude.{Bool, false, not, ◌&&◌, ◌||◌, if◌then◌else◌, ℕ, zero, suc, ◌-◌, List, [], ◌∷◌}
use Rattle.std.specs.Prelude.{◌++◌, Option, count_by}
use Rattle.ini_text.specs.Grammar.CharacterKinds.{carriage_return, is_blank, is_comment_mark, is_line_end}
use Rattle.ini_text.specs.Grammar.CharacterKinds.{is_line_feed, line_feed, semicolon, space}
use Rattle.ini_text.specs.Grammar.Positions.{last_or}
use Rattle.ini_text.specs.Grammar.CharacterKinds.{begins}
use Rattle.ini_text.specs.Inside.LineReader.{past_note}
use Rattle.ini_text.specs.Parsing.Fronts.{front_of}
use Rattle.ini_text.specs.declared.option.ParseOption.{ParseOption}
use Rattle.ini.specs.Texts.{Text, is_text}
use Rattle.ini_edit.specs.SourceEdits.{with_pairs}
use Rattle.ini_edit.specs.SourceLines.{after_line_end, ends_alike, ends_in_line, is_blank_or_line_end}
use Rattle.ini_edit.specs.SourceLines.{is_empty, line_end_at_end, quiet_lines_at_end}
use Rattle.ini_edit.specs.SourcePlaces.{PairPlace, Place, edited_at, gap_of, last_before_pair}
use Rattle.ini_edit.specs.SourcePlaces.{last_before_section, last_changed, pair_place, section_exchanged}
use Rattle.ini_edit.specs.SourcePlaces.{section_place, with_after, with_end}
use Rattle.ini_edit.specs.Sources.{PairPiece, SectionPiece, has_separator, is_multiline}

-- After a text of this last character a pair's line end may go with the pair, before these lines and this
-- gap: a line starts there, and a comment that follows stands behind LF, or behind CR alone, as it did.
abbrev pub goes_after : (last : ℕ) → (line_end lines gap : Text) → Bool
goes_after last line_end lines gap =
    is_line_end last && (ends_alike last (last_or last line_end)
    || not (begins is_comment_mark (lines ++ gap)))

-- What stays of the line end. A multiline value goes on with no empty line that CR alone ends: a blank goes
-- before that.
abbrev pub left_after : (multiline : Bool) (last : ℕ) → (line_end lines gap : Text) → Text
left_after multiline last line_end lines gap =
    if goes_after last line_end lines gap then []
    else (if multiline && (is_line_end last && is_text line_end (carriage_return ∷ [])) then space ∷ line_end
    else line_end)

-- what a text of this last character lacks for a comment in column one after it, and an empty comment
abbrev pub to_line_feed : ℕ → Text
to_line_feed last = if is_line_feed last then [] else line_feed ∷ []

abbrev pub empty_comment : (line_end : Text) → Text
empty_comment end = semicolon ∷ end

-- the first of pairs is indented
abbrev pub begin_with_blank : List PairPiece → Bool
begin_with_blank [] = false
begin_with_blank (p ∷ ps) = begins is_blank p.stretches.key

module _ (o : ParseOption) where
  -- what follows the line end of a value in one line, or of a key alone, behind which a note may stand
  abbrev pub after_own : PairPiece → Text
  after_own p = after_line_end (past_note o p.after)

  -- What follows a pair's value: the lines that go with the pair, and their line end; the quiet lines after
  -- that, which where values are in one line are the whole gap; and the gap.
  abbrev pub lines_after : PairPiece → Text
  lines_after p =
      if is_multiline o p then quiet_lines_at_end o p.stretches.trailing_lines
      else (if o.enabled_indented_mutiline_value then [] else after_own p)

  abbrev pub gap_after : PairPiece → Text
  gap_after p =
      if is_multiline o p then p.after
      else (if o.enabled_indented_mutiline_value then after_own p else [])

  abbrev pub own_lines : PairPiece → Text
  own_lines p =
      if is_multiline o p then front_of p.stretches.trailing_lines (lines_after p)
      else front_of p.after (after_own p)

  abbrev pub line_end_after : PairPiece → Text
  line_end_after p =
      if is_multiline o p && not (ends_in_line o (own_lines p)) then []
      else line_end_at_end (own_lines p)

  -- A multiline value would take what stands after a key alone, before these pairs: it begins with a blank
  -- or a line end.
  abbrev pub would_be_taken : PairPiece → List PairPiece → Bool
  would_be_taken p ps =
      o.enabled_indented_mutiline_value && (not (has_separator p)
      && (begins is_blank_or_line_end (gap_after p) || (is_empty (gap_after p) && begin_with_blank ps)))

  -- A multiline value is the last of pairs; and nothing follows it.
  abbrev pub ends_in_value : List PairPiece → Bool
  ends_in_value [] = false
  ends_in_value (p ∷ []) = is_multiline o p
  ends_in_value (p ∷ q ∷ ps) = ends_in_value (q ∷ ps)

  abbrev pub follows_value : List PairPiece → Bool
  follows_value ps = ends_in_value ps && is_empty (gap_of [] ps)

  -- Lines and a gap that stood elsewhere, after a pair: a multiline value takes lines that follow it.
  abbrev pub with_rest : (lines gap : Text) → PairPiece → PairPiece
  with_rest lines gap p =
      if is_multiline o p && is_empty p.after
      then with_end (p.stretches.trailing_lines ++ lines) (p.after ++ gap) p
      else with_end p.stretches.trailing_lines (p.after ++ (lines ++ gap)) p

  -- the same after the last of the pairs before a place, or after the header, where there are none; then
  -- these pairs follow
  abbrev pub rest_put : (lines gap : Text) → SectionPiece → (before after : List PairPiece) → SectionPiece
  rest_put lines gap s [] after = with_after (s.after ++ (lines ++ gap)) (with_pairs s after)
  rest_put lines gap s (p ∷ ps) after =
      with_pairs s (last_changed (with_rest lines gap) (p ∷ ps) ++ after)

  -- what stays of the line end of a pair that is taken out after a text of this last character
  abbrev pub line_end_left : (last : ℕ) → PairPiece → Text
  line_end_left last p =
      left_after o.enabled_indented_mutiline_value last (line_end_after p) (lines_after p) (gap_after p)

  -- A section without the pair at the place: what stays of that is after what stood before it. Where a
  -- multiline value there would take what follows a key alone, an empty comment stands between them. Before
  -- the section stands this character.
  abbrev pub pair_taken_out : (front : ℕ) → SectionPiece → Place PairPiece → SectionPiece
  pair_taken_out front s p =
      let last = last_before_pair front s p in
      if follows_value p.before && would_be_taken p.here p.after
      then rest_put (to_line_feed last) (empty_comment (line_feed ∷ []) ++ gap_after p.here) s p.before
      p.after
      else rest_put (line_end_left last p.here ++ lines_after p.here) (gap_after p.here) s p.before p.after

  abbrev pub deleted_at : PairPlace → List SectionPiece
  deleted_at p =
      section_exchanged p (pair_taken_out (last_before_section p.section) p.section.here p.pair)

  -- the pair of the key before which so many others of the key stand taken out
  abbrev pub deleted_nth : Option Text → Text → ℕ → List SectionPiece → List SectionPiece
  deleted_nth name key n ss = edited_at deleted_at (pair_place name key n ss) ss

  -- so many pairs of the key taken out, after the first `kept` of them
  abbrev pub deleted_times : Option Text → Text → (kept : ℕ) → (times : ℕ) → List SectionPiece
      → List SectionPiece
  deleted_times name key kept zero ss = ss
  deleted_times name key kept (suc times) ss =
      deleted_times name key kept times (deleted_nth name key kept ss)

-- how many pairs of the key the first section of the name has
abbrev pub count_of : Option Text → Text → List SectionPiece → ℕ
count_of name key ss =
    edited_at (λ s. count_by (λ p. is_text key p.key) s.here.pairs) (section_place name ss) 0

-- all pairs of the key taken out but for the first `kept` of them
abbrev pub deleted_from : ParseOption → Option Text → Text → (kept : ℕ) → List SectionPiece
    → List SectionPiece
deleted_from o name key kept ss = deleted_times o name key kept (count_of name key ss - kept) ss
