-- What a text in pieces says, however it is laid out: its headers and pairs, and the comments after each.
use Rattle.std.specs.Prelude.{◌==◌, ◌&&◌, ◌||◌, if◌then◌else◌, Bool, true, false, List, [], ◌∷◌, ◌++◌}
use Rattle.std.specs.Prelude.{map, Option}
use Rattle.ini_text.specs.Grammar.CharacterKinds.{carriage_return, line_feed, is_comment_mark, is_line_feed}
use Rattle.ini_text.specs.Grammar.CharacterKinds.{begins}
use Rattle.ini_text.specs.Grammar.Places.{Stretches}
use Rattle.ini.specs.Texts.{Text}
use Rattle.ini_edit.specs.SourceLines.{is_empty}
use Rattle.ini_edit.specs.Sources.{PairPiece, Pieces, SectionPiece}

-- The comments of a gap, each after an LF and without its line end, LF or CR LF; `inside` says that the gap
-- begins within one.
abbrev pub comments_from : (inside : Bool) → Text → Text
comments_from inside [] = []
comments_from true (c ∷ cs) =
    if is_line_feed c then comments_from false cs
    else (if c == carriage_return && (is_empty cs || begins is_line_feed cs) then comments_from true cs
    else c ∷ comments_from true cs)
comments_from false (c ∷ cs) =
    if is_comment_mark c then line_feed ∷ c ∷ comments_from true cs else comments_from false cs

abbrev pub comments_in : Text → Text
comments_in gap = comments_from false gap

-- what stands behind a pair's value and the white space after that, before such a rest: a note, and lines
abbrev pub behind_value : Stretches → (rest : Text) → Text
behind_value p rest = p.note ++ (p.trailing_lines ++ rest)

-- a pair and the comments behind its value; a section, the comments after its header, and its pairs
pub record PairEntry : Type 0 where
  pub key : Text
  pub value : Text
  pub comments : Text

pub record SectionEntry : Type 0 where
  pub name : Option Text
  pub comments : Text
  pub pairs : List PairEntry

abbrev pub pair_entry : PairPiece → PairEntry
pair_entry p =
    record { key = p.key; value = p.value; comments = comments_in (behind_value p.stretches p.after) }

abbrev pub section_entry : SectionPiece → SectionEntry
section_entry s = record {
  name = s.name;
  comments = comments_in s.after;
  pairs = map pair_entry s.pairs;
}

-- the sections in order, each with its pairs in order, and the comments between them
abbrev pub entries_in : Pieces → List SectionEntry
entries_in p = map section_entry p.sections
