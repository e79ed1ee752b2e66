-- How a text in pieces is laid out: the white space around separators, what indents pairs, blank lines and
-- line ends. Comments, headers and what is written of values stay to the character.
use Rattle.std.specs.Prelude.{◌==◌, ◌&&◌, ◌||◌, ◌-◌, not, if◌then◌else◌, ℕ, zero, suc, max, nat_le}
use Rattle.std.specs.Prelude.{Bool, true, false, List, [], ◌∷◌, ◌++◌, Option, None, Some, is_none, length}
use Rattle.std.specs.Prelude.{replicate}
use Rattle.std.specs.Option.{option_map}
use Rattle.ini_text.specs.Grammar.CharacterKinds.{carriage_return, line_feed, open_bracket, space}
use Rattle.ini_text.specs.Grammar.CharacterKinds.{is_blank, is_comment_mark, is_line_feed}
use Rattle.ini_text.specs.Grammar.Places.{Stretches}
use Rattle.ini_text.specs.Grammar.Positions.{last_or}
use Rattle.ini_text.specs.Grammar.CharacterKinds.{begins}
use Rattle.ini_text.specs.Inside.LineReader.{past_note}
use Rattle.ini_text.specs.Options.Backslashes.{begins_escape}
use Rattle.ini_text.specs.Options.ReadOptions.{backslash_of}
use Rattle.ini_text.specs.Options.WriteOptions.{line_end}
use Rattle.ini_text.specs.Parsing.Fronts.{front_of}
use Rattle.ini_text.specs.declared.option.ParseOption.{ParseOption}
use Rattle.ini_text.specs.declared.write.option.LineSeparator.TheVariants.{SystemDefault}
use Rattle.ini.specs.Texts.{Text, is_text, str_text}
use Rattle.ini_edit.specs.NewLines.{line_end_of}
use Rattle.ini_edit.specs.Prevailing.{leaves_line_empty, prevailing_style}
use Rattle.ini_edit.specs.SourceEditsSections.{rest_before_header}
use Rattle.ini_edit.specs.SourceEntries.{behind_value}
use Rattle.ini_edit.specs.SourceLines.{after_blank_lines, after_blanks, blanks_at_end, is_empty}
use Rattle.ini_edit.specs.SourcePlaces.{is_nil, last_before_gap, last_gap}
use Rattle.ini_edit.specs.SourceWritten.{Style, option_style}
use Rattle.ini_edit.specs.Sources.{PairPiece, Pieces, SectionPiece, has_separator, pair_text, section_text}
use Rattle.ini_edit.specs.Sources.{sections_text}
use Rattle.ini_edit.specs.declared.source.layout.Layout.{Layout}
use Rattle.ini_edit.specs.declared.source.layout.Separators.{Separators}
use Rattle.ini_edit.specs.declared.source.layout.Separators.TheVariants.{Given, Kept, Prevailing}
use Rattle.ini_edit.specs.declared.source.layout.lines.Follower.{Follower}
use Rattle.ini_edit.specs.declared.source.layout.lines.Follower.TheVariants.{AsItIs, Header, End}

-- the rules of a layout for one text: how separators are written, or none where each stays; how many spaces
-- indent a pair, or none where each stays; the most blank lines; whether separators are aligned; and the
-- line end
pub record Rules : Type 0 where
  pub option : ParseOption
  pub style : Option Style
  pub indentation : Option ℕ
  pub blank_lines : ℕ
  pub aligned : Bool
  pub line_end : Text

abbrev pub style_for : (aligned : Bool) → List SectionPiece → Separators → Option Style
style_for aligned ss Kept = None
style_for aligned ss Prevailing = prevailing_style aligned ss
style_for aligned ss (Given separator) = Some (option_style (str_text separator))

abbrev pub rules_for : ParseOption → Layout → List SectionPiece → Rules
rules_for o l ss = record {
  option = o;
  style = style_for l.aligned ss l.separator;
  indentation = l.pair_indentation;
  blank_lines = l.blank_lines;
  aligned = l.aligned;
  line_end = line_end (line_end_of SystemDefault (sections_text ss));
}

-- line ends, so many
abbrev pub line_ends : Text → ℕ → Text
line_ends text zero = []
line_ends text (suc n) = text ++ line_ends text n

-- one line end more, of which one more than blank lines may stand count
abbrev pub one_more : (blank_lines : ℕ) → ℕ → ℕ
one_more blank_lines n = if nat_le n blank_lines then suc n else n

-- the blanks after a key whose source ends so; a backslash before them would take the first one
abbrev pub pad_for : ParseOption → Option Style → (key pad : Text) → Text
pad_for o None key pad = pad
pad_for o (Some style) key pad =
    if begins_escape (backslash_of o) (last_or space key) then pad else style.pad

abbrev pub separator_for : Option Style → ℕ → ℕ
separator_for None separator = separator
separator_for (Some style) separator = style.separator

abbrev pub without_pad : Style → Style
without_pad s = record s { pad = [] }

-- a key alone has no blanks after it, where separators are laid out; but those before a note stay
abbrev pub style_of_key : PairPiece → Option Style → Option Style
style_of_key p style =
    if has_separator p then style
    else (if begins is_comment_mark p.after then None else option_map without_pad style)

abbrev pub space_for : Option Style → Text → Text
space_for None before = before
space_for (Some style) before = style.space_before

-- no white space before a value that gives its line nothing
abbrev pub laid_space : Option Style → (raw_value before : Text) → Text
laid_space style raw_value before =
    if leaves_line_empty raw_value then [] else space_for style before

-- what stands after a pair's value, up to this rest
abbrev pub lines_of : PairPiece → (rest : Text) → Text
lines_of p rest = p.stretches.space_after ++ behind_value p.stretches (front_of p.after rest)

-- lines after a header; those at the text's front begin with no blank line
abbrev pub first_lines : SectionPiece → (lines : Text) → Text
first_lines s lines = if is_none s.name then after_blank_lines lines else lines

-- The comments directly above the header that follows a section, and what indents that; none follows the
-- last one. Before the section stands this character.
abbrev pub above_next : (is_last : Bool) (front : ℕ) → SectionPiece → Text
above_next is_last front s =
    if is_last then [] else rest_before_header (last_before_gap front s s.pairs) (last_gap s)

-- a key with spaces up to this column
abbrev pub aligned_key : (column : ℕ) → Text → Text
aligned_key column key = key ++ replicate (column - length key) space

-- a text takes no line end: it is empty, or a backslash would take that
abbrev pub takes_no_end : ParseOption → Text → Bool
takes_no_end o text = is_empty text || begins_escape (backslash_of o) (last_or line_feed text)

module _ (r : Rules) where
  -- The white space before what follows a gap, of so many line ends and then blanks: before a header that
  -- begins a line one blank line, at the text's end nothing.
  abbrev pub white_before : Follower → ℕ → Text → Text
  white_before AsItIs ends blanks = line_ends r.line_end ends ++ blanks
  white_before Header ends blanks = line_ends r.line_end (if ends == 0 then 0 else 2) ++ blanks
  white_before End ends blanks = []

  -- A gap laid out, line by line. What is neither a blank nor a line end stays, up to its line's end: a
  -- comment to the character. Before it stand the line ends up to there, as many as may, and the blanks
  -- after the last.
  abbrev pub laid_lines : Follower → (inside : Bool) (ends : ℕ) (blanks : Text) → Text → Text
  laid_lines follower inside ends blanks [] = white_before follower ends blanks
  laid_lines follower inside ends blanks (c ∷ cs) =
      if is_line_feed c then laid_lines follower false (one_more r.blank_lines ends) [] cs
      else (if c == carriage_return && begins is_line_feed cs then laid_lines follower inside ends [] cs
      else (if not inside && is_blank c then laid_lines follower inside ends (blanks ++ c ∷ []) cs
      else line_ends r.line_end ends ++ (blanks ++ c ∷ laid_lines follower true 0 [] cs)))

  abbrev pub laid_gap : Follower → Text → Text
  laid_gap follower gap = laid_lines follower false 0 [] gap

  -- A pair that begins a line, whose key is written so, may be indented otherwise: not where keys keep what
  -- indents them, a value would go on with the pair, or the key would begin a comment or a header.
  abbrev pub indents : (starts : Bool) → ℕ → (own : Text) → Bool
  indents starts n own =
      starts && (not r.option.enabled_preserve_key_leading_whitespace
      && ((n == 0 || not r.option.enabled_indented_mutiline_value)
      && not (begins (λ c. is_comment_mark c || c == open_bracket) own)))

  abbrev pub indent_for : Option ℕ → (starts : Bool) → (indent own : Text) → Text
  indent_for None starts indent own = indent
  indent_for (Some n) starts indent own = if indents starts n own then replicate n space else indent

  abbrev pub laid_key : (starts : Bool) → PairPiece → Text
  laid_key starts p =
      let key = p.stretches.key in
      let own = after_blanks key in
      let bare = front_of own (blanks_at_end own) in
      indent_for r.indentation starts (front_of key own) own
      ++ (bare ++ pad_for r.option (style_of_key p r.style) bare (blanks_at_end own))

  -- a pair up to the end of its value, its separator in this column at least
  abbrev pub laid_value : (column : ℕ) (key : Text) → Option ℕ → Stretches → Text
  laid_value column key None p = key
  laid_value column key (Some separator) p =
      aligned_key column key ++ separator_for r.style separator
      ∷ (laid_space r.style p.raw_value p.space_before ++ p.raw_value)

  abbrev pub laid_pair : (starts : Bool) (column : ℕ) → PairPiece → Text
  laid_pair starts column p =
      laid_value column (laid_key starts p) p.stretches.separator p.stretches

  -- between a pair, with its note, and the next one stands nothing but a line end, once it is laid out
  abbrev pub joins : PairPiece → Bool
  joins p =
      is_text (laid_gap AsItIs (past_note r.option (after_blanks (lines_of p [])))) r.line_end

  -- how wide the key is before a separator
  abbrev pub key_width : PairPiece → ℕ
  key_width p = if has_separator p then length (laid_key true p) else 0

  -- the column of the farthest separator of the pairs that are joined from here on
  abbrev pub run_column : List PairPiece → ℕ
  run_column [] = 0
  run_column (p ∷ ps) =
      max (key_width p) (if joins p then run_column ps else 0)

  -- The column of the first of pairs: none is aligned that begins no line; the column is the one before it,
  -- where that is joined to it.
  abbrev pub column_at : (starts : Bool) (column : ℕ) → List PairPiece → ℕ
  column_at starts column ps =
      if not (r.aligned && starts) then 0 else (if column == 0 then run_column ps else column)

  abbrev pub column_after : (column : ℕ) → PairPiece → ℕ
  column_after column p = if column == 0 || not (joins p) then 0 else column

  -- Pairs after this character, and after a pair with this column, the last one's gap up to this rest, which
  -- follows so.
  abbrev pub laid_pairs : Follower → (rest : Text) (last column : ℕ) → List PairPiece → Text
  laid_pairs follower rest last column [] = []
  laid_pairs follower rest last column (p ∷ ps) =
      let here = column_at (is_line_feed last) column (p ∷ ps) in
      laid_pair (is_line_feed last) here p
      ++ (laid_gap (if is_nil ps then follower else AsItIs) (lines_of p (if is_nil ps then rest else []))
      ++ laid_pairs follower rest (last_or last (pair_text p)) (column_after here p) ps)

  -- A section, before which this character stands. The comments directly above the next header are its own:
  -- the blank line stands before them.
  abbrev pub laid_section : (is_last : Bool) (front : ℕ) → SectionPiece → Text
  laid_section is_last front s =
      let follower = if is_last then End else Header in
      let rest = above_next is_last front s in
      s.header
      ++ (laid_gap (if is_nil s.pairs then follower else AsItIs)
      (first_lines s (front_of s.after (if is_nil s.pairs then rest else [])))
      ++ (laid_pairs follower rest (last_or (last_or front s.header) s.after) 0 s.pairs
      ++ laid_gap AsItIs rest))

  abbrev pub laid_sections : (front : ℕ) → List SectionPiece → Text
  laid_sections front [] = []
  laid_sections front (s ∷ ss) =
      laid_section (is_nil ss) front s ++ laid_sections (last_or front (section_text s)) ss

  -- what ends a text
  abbrev pub end_after : Text → Text
  end_after text = if takes_no_end r.option text then [] else r.line_end

-- the text laid out
abbrev pub laid_text : Layout → Pieces → Text
laid_text l p =
    let r = rules_for p.option l p.sections in
    let text = laid_sections r line_feed p.sections in text ++ end_after r text
