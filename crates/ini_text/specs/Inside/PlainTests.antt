-- Tests of what `Plain` asks of a name, a key, a value and a separator, each computed.
use Rattle.std.specs.Prelude.{ℕ, Bool, true, false, not, ◌&&◌, ◌||◌, ◌==◌, List, [], ◌∷◌, if◌then◌else◌}
use Rattle.std.specs.Char.{is_whitespace}
use Rattle.std.specs.List.{list_all}
use Rattle.std.specs.Str.{bytes_eq}
use Rattle.ini_text.specs.Grammar.CharacterKinds.{begins, close_bracket, open_bracket, space, is_blank}
use Rattle.ini_text.specs.Grammar.CharacterKinds.{is_comment_mark, is_line_end, is_quote_mark, is_separator}
use Rattle.ini_text.specs.Options.Backslashes.{begins_escape}
use Rattle.ini_text.specs.Options.ReadOptions.{backslash_of}
use Rattle.ini_text.specs.Grammar.Strings.{ends_with_line}
use Rattle.ini_text.specs.Laws.Plain.{has_bare_note, has_unread_letter}
use Rattle.ini_text.specs.Escaping.Policies.{is_escaped, is_extended}
use Rattle.ini_text.specs.Inside.Scans.{skipped}
use Rattle.ini_text.specs.Grammar.WhiteSpace.{trimmed, end_trimmed}
use Rattle.ini_text.specs.declared.option.ParseOption.{ParseOption}
use Rattle.ini_text.specs.declared.write.policy.EscapePolicy.{EscapePolicy}
use Rattle.ini_text.specs.declared.write.policy.EscapePolicy.TheVariants.{Nothing, Basics, BasicsUnicode}
use Rattle.ini_text.specs.declared.write.policy.EscapePolicy.TheVariants.{BasicsUnicodeExtended, Reserved}
use Rattle.ini_text.specs.declared.write.policy.EscapePolicy.TheVariants.{ReservedUnicode}
use Rattle.ini_text.specs.declared.write.policy.EscapePolicy.TheVariants.{ReservedUnicodeExtended, Everything}

-- white space stands at neither end
abbrev pub is_trimmed : List ℕ → Bool
is_trimmed cs = bytes_eq (trimmed cs) cs

-- white space doesn't stand at the end
abbrev pub is_end_trimmed : List ℕ → Bool
is_end_trimmed cs = bytes_eq (end_trimmed cs) cs

-- one separator, and then blanks
abbrev pub is_separator_and_blanks : List ℕ → Bool
is_separator_and_blanks [] = false
is_separator_and_blanks (c ∷ cs) = is_separator c && list_all is_blank cs

abbrev pub is_plain_separator : List ℕ → Bool
is_plain_separator text = is_separator_and_blanks (skipped is_blank text)

abbrev pub escapes_nothing : EscapePolicy → Bool
escapes_nothing Nothing = true
escapes_nothing Basics = false
escapes_nothing BasicsUnicode = false
escapes_nothing BasicsUnicodeExtended = false
escapes_nothing Reserved = false
escapes_nothing ReservedUnicode = false
escapes_nothing ReservedUnicodeExtended = false
escapes_nothing Everything = false

-- what is written for the character is read, where escapes are
abbrev pub is_read_escaped : EscapePolicy → ℕ → Bool
is_read_escaped policy c = not (has_unread_letter c) && not (is_extended c && is_escaped policy c)

-- the character is written as it is, and read so
abbrev pub is_read_raw : ParseOption → EscapePolicy → ℕ → Bool
is_read_raw o policy c = not (is_escaped policy c) && not (begins_escape (backslash_of o) c || is_line_end c)

abbrev pub has_read_escapes : ParseOption → EscapePolicy → List ℕ → Bool
has_read_escapes o policy text =
    o.enabled_escape && (not (escapes_nothing policy) && list_all (is_read_escaped policy) text)

abbrev pub has_no_escapes : ParseOption → EscapePolicy → List ℕ → Bool
has_no_escapes o policy text = list_all (is_read_raw o policy) text

abbrev pub is_read_back : ParseOption → EscapePolicy → List ℕ → Bool
is_read_back o policy text = has_read_escapes o policy text || has_no_escapes o policy text

abbrev pub has_no_close_bracket : List ℕ → Bool
has_no_close_bracket name = list_all (λ c. not (c == close_bracket)) name

-- inline comments are on, and the text has a note
abbrev pub has_note : ParseOption → EscapePolicy → List ℕ → Bool
has_note o policy text = o.enabled_inline_comment && has_bare_note policy text

-- no bracket ends the name, or, where brackets may stand in it, no note
abbrev pub has_no_name_end : ParseOption → EscapePolicy → List ℕ → Bool
has_no_name_end o policy name =
    if o.enabled_brackets_in_section_names then not (has_note o policy name) else has_no_close_bracket name

abbrev pub is_plain_name : ParseOption → EscapePolicy → List ℕ → Bool
is_plain_name o policy name =
    is_trimmed name && (has_no_name_end o policy name && is_read_back o policy name)

abbrev pub is_indented_by_escape : ParseOption → EscapePolicy → List ℕ → Bool
is_indented_by_escape o policy key =
    o.enabled_preserve_key_leading_whitespace
    && (begins (λ c. is_whitespace c && is_escaped policy c) key && is_end_trimmed key)

-- a key may begin with the character
abbrev pub may_begin_key : EscapePolicy → ℕ → Bool
may_begin_key policy c = not (c == open_bracket) && (not (is_comment_mark c) || is_escaped policy c)

-- separators are escaped, wherever they stand
abbrev pub has_no_raw_separator : EscapePolicy → List ℕ → Bool
has_no_raw_separator policy key = list_all (λ c. not (is_separator c) || is_escaped policy c) key

abbrev pub is_bare_key : ParseOption → EscapePolicy → List ℕ → Bool
is_bare_key o policy key =
    begins (may_begin_key policy) key
    && ((is_trimmed key || is_indented_by_escape o policy key) && has_no_raw_separator policy key)

-- spaces may stand before a key
abbrev pub may_indent : ParseOption → Bool
may_indent o = o.enabled_preserve_key_leading_whitespace && not o.enabled_indented_mutiline_value

abbrev pub is_plain_key : ParseOption → EscapePolicy → List ℕ → Bool
is_plain_key o policy key =
    is_bare_key o policy (if may_indent o then skipped (λ c. c == space) key else key)

abbrev pub is_plain_value : ParseOption → EscapePolicy → List ℕ → Bool
is_plain_value o policy value =
    is_trimmed value
    && ((not o.enabled_quote || not (begins is_quote_mark value))
    && (not (has_note o policy value) && is_read_back o policy value))

-- where keys end before notes, the key has one
abbrev pub has_key_note : ParseOption → EscapePolicy → List ℕ → Bool
has_key_note o policy key = ends_with_line o.line_without_separator && has_note o policy key

abbrev pub is_plain_pair : ParseOption → EscapePolicy → List ℕ → List ℕ → Bool
is_plain_pair o policy key value =
    is_plain_key o policy key
    && (not (has_key_note o policy key)
    && (is_read_back o policy key && is_plain_value o policy value))
