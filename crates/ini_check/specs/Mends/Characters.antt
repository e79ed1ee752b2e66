-- What mends put in, or take out, of the characters of a stretch. All others stay.
use Rattle.std.specs.Prelude.{◌&&◌, ◌||◌, ◌==◌, not, Bool, true, false, [], ◌∷◌, ℕ, if◌then◌else◌}
use Rattle.std.specs.Char.{is_whitespace}
use Rattle.ini_text.specs.Grammar.CharacterKinds.{backslash, is_blank, line_feed}
use Rattle.ini_text.specs.declared.option.ParseOption.{ParseOption}
use Rattle.ini.specs.Texts.{Text}
use Rattle.ini_check.specs.Traps.Keys.{begins_like_comment, is_meant, is_unmeant}
use Rattle.ini_check.specs.Traps.LexicalStates.{next_state}
use Rattle.ini_check.specs.Traps.Lines.{is_line_taken, joins_lines}
use Rattle.ini_check.specs.Traps.LostLines.{swallows_line}
use Rattle.ini_check.specs.Traps.Quotes.{is_white_to_line_end, opens_unclosed}
use Rattle.ini_check.specs.declared.lexical.LexicalState.{LexicalState}

abbrev pub space : ℕ
space = 0x20

-- A mark is put in at the end of the first line, before the white space there. `after_text` says that no
-- white space stands right before.
abbrev pub closed : ℕ → Bool → Text → Text
closed mark after_text [] = mark ∷ []
closed mark after_text (c ∷ cs) =
    if after_text && is_white_to_line_end (c ∷ cs) then mark ∷ c ∷ cs
    else c ∷ closed mark (not (is_whitespace c)) cs

-- in a raw value the first quotes that aren't closed on their line are closed at its end
abbrev pub with_quote_closed : ParseOption → LexicalState → Text → Text
with_quote_closed o state [] = []
with_quote_closed o state (c ∷ cs) =
    if opens_unclosed o state (c ∷ cs) then c ∷ closed c true cs
    else c ∷ with_quote_closed o (next_state o state c) cs

-- in a raw value a character is put in after each backslash that joins lines
abbrev pub with_lines_parted : ℕ → ParseOption → LexicalState → Text → Text
with_lines_parted put o state [] = []
with_lines_parted put o state (c ∷ cs) =
    if joins_lines o state (c ∷ cs)
    then c ∷ put ∷ with_lines_parted put o (next_state o state c) cs
    else c ∷ with_lines_parted put o (next_state o state c) cs

-- Of each line that begins like a comment the blanks at its front are taken out. Whether the text stands at
-- a line's front, or among blanks that are taken out, the first two say.
abbrev pub with_comments_moved : Bool → Bool → Text → Text
with_comments_moved at_front within [] = []
with_comments_moved at_front within (c ∷ cs) =
    if is_blank c && (within || (at_front && begins_like_comment (c ∷ cs)))
    then with_comments_moved false true cs
    else c ∷ with_comments_moved (c == line_feed) false cs

-- The backslash of each escape that may not be meant is doubled. `escaped` says whether an open backslash
-- stands before the text.
abbrev pub with_escapes_doubled : Bool → Bool → Text → Text
with_escapes_doubled in_name escaped [] = []
with_escapes_doubled in_name escaped (c ∷ cs) =
    if escaped && not (is_meant in_name c || is_line_taken (c ∷ cs))
    then backslash ∷ c ∷ with_escapes_doubled in_name false cs
    else c ∷ with_escapes_doubled in_name (c == backslash && not escaped) cs

-- the same in a raw value
abbrev pub with_value_escapes_doubled : ParseOption → LexicalState → Text → Text
with_value_escapes_doubled o state [] = []
with_value_escapes_doubled o state (c ∷ cs) =
    if is_unmeant state (c ∷ cs)
    then backslash ∷ c ∷ with_value_escapes_doubled o (next_state o state c) cs
    else c ∷ with_value_escapes_doubled o (next_state o state c) cs

-- after the first CR of a comment that is a trap LF is put in
abbrev pub with_line_ended : Text → Text
with_line_ended [] = []
with_line_ended (c ∷ cs) =
    if swallows_line (c ∷ cs) then c ∷ line_feed ∷ cs else c ∷ with_line_ended cs
