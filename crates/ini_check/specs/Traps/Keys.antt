-- Traps of a pair's key and of its separator.
use Rattle.std.specs.Prelude.{◌&&◌, ◌||◌, ◌==◌, not, Bool, true, false, [], ◌∷◌, is_some, if◌then◌else◌}
use Rattle.std.specs.Prelude.{ℕ, map}
use Rattle.std.specs.Char.{is_whitespace, to_ascii_lowercase}
use Rattle.std.specs.List.{list_any}
use Rattle.ini_text.specs.Grammar.CharacterKinds.{backslash, close_bracket, colon, equals, is_blank}
use Rattle.ini_text.specs.Grammar.CharacterKinds.{is_comment_mark, is_line_end, is_quote_mark, is_separator}
use Rattle.ini_text.specs.Options.Backslashes as backslashes
use Rattle.ini_text.specs.declared.option.ParseOption.{ParseOption}
use Rattle.ini.specs.Texts.{Text}
use Rattle.ini.specs.Properties.{Pairs, first_value}
use Rattle.ini_check.specs.Traps.LexicalStates.{is_before_comment, is_escaped, next_state}
use Rattle.ini_check.specs.Traps.Lines.{is_line_taken}
use Rattle.ini_check.specs.Traps.Values.{value_of}
use Rattle.ini_check.specs.declared.lexical.LexicalState.{LexicalState}
use Rattle.ini_check.specs.declared.lexical.LexicalState.TheVariants.{Front}

-- a line end stands in it
abbrev pub has_line_end : Text → Bool
has_line_end source = list_any is_line_end source

-- a line end stands in it that no backslash takes; `escaped` says whether one that takes stands before it
abbrev pub has_bare_line_end : backslashes.Backslash → Bool → Text → Bool
has_bare_line_end b escaped [] = false
has_bare_line_end b escaped (c ∷ cs) =
    (not escaped && is_line_end c)
    || has_bare_line_end b (backslashes.begins_escape b c && not escaped) cs

-- after blanks a comment's mark begins the key's source
abbrev pub begins_like_comment : Text → Bool
begins_like_comment [] = false
begins_like_comment (c ∷ cs) = if is_blank c then begins_like_comment cs else is_comment_mark c

-- the key's line has no separator and runs on into the next, and is no comment
abbrev pub runs_on : Text → Bool
runs_on source = has_line_end source && not (begins_like_comment source)

-- an indented comment has no separator and runs on into the next line
abbrev pub comment_runs_on : Text → Bool
comment_runs_on source = has_line_end source && begins_like_comment source

-- an indented comment, on its own line, is a key
abbrev pub mark_begins_key : Text → Bool
mark_begins_key source = begins_like_comment source && not (has_line_end source)

-- a character before which a backslash is meant: one that says something in an INI file; in a name the
-- bracket that would end it too
abbrev pub is_meant : Bool → ℕ → Bool
is_meant in_name c =
    c == backslash || (is_quote_mark c || (is_separator c || (is_comment_mark c
    || (in_name && c == close_bracket))))

-- A backslash begins an escape that may not be meant. A line end that a backslash takes is another trap.
-- `escaped` says whether an open backslash stands before the text.
abbrev pub begins_escape : Bool → Bool → Text → Bool
begins_escape in_name escaped [] = false
begins_escape in_name escaped (c ∷ cs) =
    (escaped && not (is_meant in_name c || is_line_taken (c ∷ cs)))
    || begins_escape in_name (c == backslash && not escaped) cs

-- the same where escapes are read
abbrev pub has_escape : Bool → Bool → Text → Bool
has_escape escapes in_name text = escapes && begins_escape in_name false text

-- the same of a raw value, after this state: a character stands after a backslash that isn't meant before it
abbrev pub is_unmeant : LexicalState → Text → Bool
is_unmeant state [] = false
is_unmeant state (c ∷ cs) = is_escaped state && not (is_meant false c || is_line_taken (c ∷ cs))

abbrev pub begins_value_escape : ParseOption → LexicalState → Text → Bool
begins_value_escape o state [] = false
begins_value_escape o state (c ∷ cs) =
    is_unmeant state (c ∷ cs) || begins_value_escape o (next_state o state c) cs

abbrev pub has_value_escape : ParseOption → Text → Bool
has_value_escape o value = o.enabled_escape && begins_value_escape o Front value

-- the same of a key that is no comment
abbrev pub has_key_escape : Bool → Text → Bool
has_key_escape escapes source = not (begins_like_comment source) && has_escape escapes false source

-- where escapes are read, neither plain nor a comment
abbrev pub is_unplain : Bool → Bool → Bool → Bool
is_unplain escapes plain comment = escapes && not (plain || comment)

-- the key, or the name, is one of those before
abbrev pub is_repeated : Text → Pairs → Bool
is_repeated key before = is_some (first_value key before)

-- the text with each ASCII letter in lower case
abbrev pub lower : Text → Text
lower text = map to_ascii_lowercase text

-- on the first line, before an inline comment, an equals sign: after white space, or anywhere, as the first
-- two say
abbrev pub has_equals : ParseOption → Bool → Bool → Text → Bool
has_equals o anywhere white [] = false
has_equals o anywhere white (c ∷ cs) =
    not (is_line_end c)
    && ((c == equals && (anywhere || white))
    || (not (is_before_comment o c cs) && has_equals o anywhere (is_whitespace c) cs))

-- a mark begins it that opens quotes
abbrev pub begins_quoted : Bool → Text → Bool
begins_quoted quotes [] = false
begins_quoted quotes (c ∷ cs) = quotes && is_quote_mark c

abbrev pub is_empty : Text → Bool
is_empty [] = true
is_empty (c ∷ cs) = false

abbrev pub begins_white : Text → Bool
begins_white [] = false
begins_white (c ∷ cs) = is_whitespace c

-- A colon separates, and an equals sign follows it: no white space stands after the colon, or some before the
-- equals sign. What stands in quotes, or in a comment, doesn't count.
abbrev pub colon_separates : ParseOption → Text → ℕ → Text → Bool
colon_separates o key separator source =
    separator == colon
    && (not (begins_like_comment key || begins_quoted o.enabled_quote (value_of source))
    && has_equals o (not (begins_white source)) false source)
