-- Traps of lines with which a value goes on, at a place of a raw value: its lexical state, and what stands
-- from there on.
use Rattle.std.specs.Prelude.{◌&&◌, ◌||◌, ◌==◌, not, Bool, true, false, [], ◌∷◌, ℕ, nat_lt, if◌then◌else◌}
use Rattle.std.specs.Char.{is_ascii_alphanumeric, is_whitespace}
use Rattle.ini_text.specs.Grammar.CharacterKinds.{carriage_return, close_bracket, colon, equals, is_blank}
use Rattle.ini_text.specs.Grammar.CharacterKinds.{is_comment_mark, is_line_end, line_feed, open_bracket}
use Rattle.ini_text.specs.Options.Backslashes.{begins_escape}
use Rattle.ini_text.specs.Options.ReadOptions.{backslash_of}
use Rattle.ini_text.specs.declared.option.ParseOption.{ParseOption}
use Rattle.ini.specs.Texts.{Text}
use Rattle.ini_check.specs.Traps.LexicalStates.{is_outside}
use Rattle.ini_check.specs.declared.lexical.LexicalState.{LexicalState}
use Rattle.ini_check.specs.declared.lexical.LexicalState.TheVariants.{LineFront}

-- a character begins it that is no LF
abbrev pub begins_other : Text → Bool
begins_other [] = false
begins_other (c ∷ cs) = not (c == line_feed)

-- A line end begins it that a backslash before it takes: LF, or CR before another character than LF. (A CR at
-- a value's end stands before LF, which ends the value, or at the text's end.)
abbrev pub is_line_taken : Text → Bool
is_line_taken [] = false
is_line_taken (c ∷ cs) = c == line_feed || (c == carriage_return && begins_other cs)

-- a backslash joins its line and the next, outside quotes
abbrev pub joins_lines : ParseOption → LexicalState → Text → Bool
joins_lines o state [] = false
joins_lines o state (c ∷ cs) = is_outside state && (begins_escape (backslash_of o) c && is_line_taken cs)

-- a character of a word: a letter or digit of ASCII, an underscore, or one beyond ASCII but for white space
abbrev pub is_word_character : ℕ → Bool
is_word_character c = is_ascii_alphanumeric c || (c == 0x5F || (nat_lt 0x7F c && not (is_whitespace c)))

-- a character as keys have them: of a word, a hyphen, a dot or a blank
abbrev pub is_key_character : ℕ → Bool
is_key_character c = is_word_character c || (c == 0x2D || (c == 0x2E || is_blank c))

-- white space begins it, or it is empty
abbrev pub begins_white_or_ends : Text → Bool
begins_white_or_ends [] = true
begins_white_or_ends (c ∷ cs) = is_whitespace c

abbrev pub begins_equals : Text → Bool
begins_equals [] = false
begins_equals (c ∷ cs) = c == equals

-- characters of a key, and a separator: one equals sign, or a colon before white space
abbrev pub has_key_and_separator : Text → Bool
has_key_and_separator [] = false
has_key_and_separator (c ∷ cs) =
    if c == equals then not (begins_equals cs)
    else if c == colon then begins_white_or_ends cs
    else (is_key_character c && has_key_and_separator cs)

-- it looks like a pair: a word begins it
abbrev pub is_like_pair : Text → Bool
is_like_pair [] = false
is_like_pair (c ∷ cs) = is_word_character c && has_key_and_separator cs

-- up to the line's end there are blanks alone, or a note
abbrev pub is_blank_or_note : Text → Bool
is_blank_or_note [] = true
is_blank_or_note (c ∷ cs) =
    is_line_end c || (is_comment_mark c || (is_blank c && is_blank_or_note cs))

-- a bracket closes on the line, and ends it
abbrev pub has_bracket_last : Text → Bool
has_bracket_last [] = false
has_bracket_last (c ∷ cs) =
    if c == close_bracket then is_blank_or_note cs else (not (is_line_end c) && has_bracket_last cs)

-- it looks like a header
abbrev pub is_like_header : Text → Bool
is_like_header [] = false
is_like_header (c ∷ cs) = c == open_bracket && has_bracket_last cs

abbrev pub is_line_front : LexicalState → Bool
is_line_front LineFront = true
is_line_front _ = false

-- a line that looks like a pair goes on with the value; in a list, whose first line is empty, such lines
-- are its items
abbrev pub goes_on_with_pair : Bool → LexicalState → Text → Bool
goes_on_with_pair is_list state text = is_line_front state && (not is_list && is_like_pair text)

-- a line that looks like a header goes on with the value
abbrev pub goes_on_with_header : LexicalState → Text → Bool
goes_on_with_header state text = is_line_front state && is_like_header text

abbrev pub begins_with_line_end : Text → Bool
begins_with_line_end [] = false
begins_with_line_end (c ∷ cs) = is_line_end c

abbrev pub begins_with_blank : Text → Bool
begins_with_blank [] = false
begins_with_blank (c ∷ cs) = is_blank c

-- the value is a list: after a key that isn't indented its first line is empty
abbrev pub is_list : Text → Text → Bool
is_list key value = begins_with_line_end value && not (begins_with_blank key)
