-- Sections put into a text in pieces and taken out.
use Rattle.std.specs.Prelude.{Bool, true, false, not, ◌&&◌, ◌||◌, if◌then◌else◌, ℕ, List, [], ◌∷◌, ◌++◌}
use Rattle.std.specs.Prelude.{Option, None, Some, is_some}
use Rattle.std.specs.Option.{option_map}
use Rattle.ini_text.specs.Grammar.CharacterKinds.{is_blank, is_comment_mark, is_line_end, is_line_feed}
use Rattle.ini_text.specs.Grammar.CharacterKinds.{line_feed}
use Rattle.ini_text.specs.Grammar.Positions.{is_column_one, last_or}
use Rattle.ini_text.specs.Grammar.CharacterKinds.{begins}
use Rattle.ini_text.specs.Parsing.Fronts.{front_of}
use Rattle.ini_text.specs.declared.option.ParseOption.{ParseOption}
use Rattle.ini_text.specs.declared.write.policy.EscapePolicy.{EscapePolicy}
use Rattle.ini.specs.Texts.{Text}
use Rattle.ini_edit.specs.Sections.{header_of}
use Rattle.ini_edit.specs.SourceEdits.{with_pairs}
use Rattle.ini_edit.specs.SourceEditsAdd.{Maker, closed}
use Rattle.ini_edit.specs.SourceEditsDelete.{line_end_after, lines_after, rest_put}
use Rattle.ini_edit.specs.SourceLines.{comments_at_end, dropped_key, from_last_solid, indentation_at_end}
use Rattle.ini_edit.specs.SourceLines.{is_empty, is_one_line_end, line_end_at_end}
use Rattle.ini_edit.specs.SourcePlaces.{Place, edited_at, gap_put, is_nil, last_before_gap}
use Rattle.ini_edit.specs.SourcePlaces.{last_before_section}
use Rattle.ini_edit.specs.SourcePlaces.{last_changed, last_gap, last_place, section_place}
use Rattle.ini_edit.specs.Sources.{PairPiece, SectionPiece, section_text}

-- the comments directly above the header that follows a gap, and what indents this
abbrev pub rest_before_header : (before : ℕ) → (gap : Text) → Text
rest_before_header before gap =
    let indentation = indentation_at_end before gap in
    comments_at_end before (front_of gap indentation) ++ indentation

-- What stays of the last gap of a section that is taken out: what stands directly above the next header, or,
-- where there is none, a key that the text's end cuts short.
abbrev pub section_rest : ParseOption → (is_last : Bool) → (before : ℕ) → (gap : Text) → Text
section_rest o is_last before gap =
    if is_last then dropped_key o before gap else rest_before_header before gap

-- A section before one that is taken out: its last gap loses the blanks that indented that one's header, and
-- takes in what stays, after a line end where no line starts there, or a comment is to stand in column one.
-- Where the section's last value would take that, it goes too. Before the section stands this character.
abbrev pub with_rest_of_next : ParseOption → (front : ℕ) → SectionPiece → (line_end rest : Text)
    → SectionPiece
with_rest_of_next o front s line_end rest =
    let last = last_before_gap front s s.pairs in
    let kept = front_of (last_gap s) (indentation_at_end last (last_gap s)) in
    let end = last_or last kept in
    let goes = is_line_end end && (is_line_feed end || not (begins is_comment_mark rest)) in
    let is_taken = o.enabled_indented_mutiline_value
    && (is_empty kept && (not (is_nil s.pairs) && begins is_blank rest)) in
    let ended = gap_put kept s s.pairs [] in
    rest_put o (if goes then [] else line_end) (if is_taken then [] else rest) ended ended.pairs []

-- the line end before what stays of a section
abbrev pub line_end_before : (rest : Text) → SectionPiece → Text
line_end_before rest s = line_end_at_end (front_of (section_text s) rest)

-- the sections without the one at the place; the general one, which is the first, doesn't go
abbrev pub section_deleted_after : ParseOption → Place SectionPiece → (before : List SectionPiece)
    → List SectionPiece
section_deleted_after o s [] = s.here ∷ s.after
section_deleted_after o s (t ∷ ts) =
    let p = last_place t ts in
    let rest = section_rest o (is_nil s.after) (last_before_gap (last_before_section s) s.here s.here.pairs)
    (last_gap s.here) in
    p.before
    ++ (with_rest_of_next o (last_before_section p) p.here (line_end_before rest s.here) rest ∷ s.after)

abbrev pub section_deleted_at : ParseOption → Place SectionPiece → List SectionPiece
section_deleted_at o s = section_deleted_after o s s.before

-- the first section of the name taken out
abbrev pub section_deleted : ParseOption → Text → List SectionPiece → List SectionPiece
section_deleted o name ss = edited_at (section_deleted_at o) (section_place (Some name) ss) ss

-- a text is empty, or an empty line stands last in it, of LF or CR LF
abbrev pub has_empty_line_at_end : (before : ℕ) → Text → Bool
has_empty_line_at_end before [] = false
has_empty_line_at_end before (c ∷ cs) =
    (is_line_feed before && (is_one_line_end (c ∷ cs) && is_column_one (c ∷ cs)))
    || has_empty_line_at_end c cs

abbrev pub ends_empty : Text → Bool
ends_empty text = is_empty text || has_empty_line_at_end line_feed text

module _ (o : ParseOption) where
  -- LF, which no backslash takes, ends the line of a section's last pair
  abbrev pub is_pair_ended : List PairPiece → Bool
  is_pair_ended [] = false
  is_pair_ended (p ∷ []) =
      not (is_empty (line_end_after o p) && is_empty (lines_after o p))
      && is_column_one p.stretches.trailing_lines
  is_pair_ended (p ∷ q ∷ ps) = is_pair_ended (q ∷ ps)

  -- What goes between the text of a last section, up to a place in its last gap, and a new section: a line
  -- end, where none ends the last line; and an empty line, where none stands last. Nothing goes into an
  -- empty text.
  abbrev pub is_ended_for : (text before : Text) → SectionPiece → Bool
  is_ended_for text before s =
      is_empty text || (if is_empty before then is_pair_ended s.pairs else is_column_one before)

  abbrev pub lines_between : (line_end text before : Text) → SectionPiece → Text
  lines_between line_end text before s =
      let glue = if is_ended_for text before s then [] else line_end in
      glue ++ (if ends_empty (text ++ glue) then [] else line_end)

  -- a section whose last pair has its last backslash made one that stands for itself
  abbrev pub with_last_closed : (closes : Bool) → SectionPiece → SectionPiece
  with_last_closed closes s =
      if closes then with_pairs s (last_changed (closed o) s.pairs) else s

  -- The last section up to where a new one goes: its line ended, and an empty line. Before a text that is
  -- all of the general section stands nothing.
  abbrev pub ended_for_section : (line_end : Text) → SectionPiece → (after : Text) → SectionPiece
  ended_for_section line_end s after =
      let before = front_of (last_gap s) after in
      let text = front_of (section_text s) after in
      let closed = with_last_closed (not (is_ended_for text before s)) s in
      let kept = gap_put before closed closed.pairs [] in
      rest_put o (lines_between line_end text before s) [] kept kept.pairs []

  -- Where a new section goes, with a pair or without: what follows it of the text's last gap. That is a key
  -- that the text's end cuts short; where the new pair's multiline value would take that, all from the last
  -- comment in column one on, and there is no place where there is none.
  abbrev pub after_new_section : (has_pair : Bool) → (before : ℕ) → Text → Option Text
  after_new_section has_pair before gap =
      let dropped = dropped_key o before gap in
      if is_empty dropped || not (has_pair && o.enabled_indented_mutiline_value) then Some dropped
      else option_map (λ solid. solid ++ dropped) (from_last_solid before (front_of gap dropped))

module _ (o : ParseOption) (policy : EscapePolicy) (line_end : Text) (name : Text) where
  -- a section of the name, without pairs or with a new one, before a gap
  abbrev pub new_section : Option Maker → (gap : Text) → SectionPiece
  new_section None gap = record {
    name = Some name;
    header = header_of policy name;
    after = line_end ++ gap;
    pairs = [];
  }
  new_section (Some make) gap = record {
    name = Some name;
    header = header_of policy name;
    after = line_end;
    pairs = make true line_end gap ∷ [];
  }

  -- the new section after the sections, if there is a place
  abbrev pub section_put_after : Option Maker → SectionPiece → List SectionPiece → Option (List SectionPiece)
  section_put_after make s ss =
      let p = last_place s ss in
      let before = last_before_gap (last_before_section p) p.here p.here.pairs in
      option_map
      (λ gap. p.before ++ (ended_for_section o line_end p.here gap ∷ new_section make gap ∷ []))
      (after_new_section o (is_some make) before (last_gap p.here))

  abbrev pub section_put : Option Maker → List SectionPiece → Option (List SectionPiece)
  section_put make [] = None
  section_put make (s ∷ ss) = section_put_after make s ss
