-- How a text is read and a document written, as C says it.
use Rattle.std.specs.Prelude.{◌≡◌, ◌==◌, if◌then◌else◌, ℕ, Bool, true, false, List, length}
use Rattle.std.specs.Prelude.{Option, Some, None, codes, encode_utf8_all, IsTrue, ◌↔◌, ◌&&◌, nat_le}
use Rattle.std.specs.Option.{option_map, option_and_then}
use Rattle.ini_text.specs.declared.option.LoneLine.{LoneLine}
use Rattle.ini_text.specs.declared.option.LoneLine.TheVariants.{RunsOn, Refused, Key}
use Rattle.ini_text.specs.declared.option.ParseOption.{ParseOption}
use Rattle.ini.specs.Plain.{IsPlain}
use Rattle.ini.specs.Documents.{Document}
use Rattle.ini.specs.Written.{written}
use Rattle.ini_text.specs.declared.write.policy.EscapePolicy.{EscapePolicy}
use Rattle.ini_text.specs.declared.write.policy.EscapePolicy.TheVariants.{Nothing, Basics, BasicsUnicode}
use Rattle.ini_text.specs.declared.write.policy.EscapePolicy.TheVariants.{BasicsUnicodeExtended, Reserved}
use Rattle.ini_text.specs.declared.write.policy.EscapePolicy.TheVariants.{ReservedUnicode, Everything}
use Rattle.ini_text.specs.declared.write.policy.EscapePolicy.TheVariants.{ReservedUnicodeExtended}
use Rattle.ini_text.specs.declared.write.option.LineSeparator.{LineSeparator}
use Rattle.ini_text.specs.declared.write.option.LineSeparator.TheVariants.{SystemDefault, CRLF}
use Rattle.ini_text.specs.declared.write.option.WriteOption.{WriteOption}
use Rattle.ini_c.specs.declared.options.ReadChoice.{ReadChoice}
use Rattle.ini_c.specs.declared.options.Reading.{Reading}
use Rattle.ini_c.specs.declared.options.WriteChoice.{WriteChoice}

-- the options by which a text is read, of a program that knows of five
abbrev pub parse_option : ReadChoice → ParseOption
parse_option o = record {
  enabled_quote = o.quotes;
  enabled_escape = o.escapes;
  enabled_indented_mutiline_value = o.multiline;
  enabled_preserve_key_leading_whitespace = o.keep_indentation;
  enabled_brackets_in_section_names = o.brackets;
  enabled_raw_backslash = false;
  enabled_indented_comment = false;
  enabled_inline_comment = false;
  line_without_separator = RunsOn;
}

-- what becomes of a line without separator, by its number: other numbers stand for nothing
abbrev pub lone_line_of : ℕ → Option LoneLine
lone_line_of n =
    if n == 0 then Some RunsOn else if n == 1 then Some Refused else if n == 2 then Some Key else None

-- whether an option is on, by a number: other numbers stand for nothing
abbrev pub flag_of : ℕ → Option Bool
flag_of n = if n == 0 then Some false else if n == 1 then Some true else None

-- the options that stand there, with indented and inline comments or not, and what becomes of a line without
-- separator
abbrev pub options_with : LoneLine → (indented inline : Bool) → Reading → ParseOption
options_with line indented inline r = record {
  enabled_quote = r.quotes;
  enabled_escape = r.escapes;
  enabled_indented_mutiline_value = r.multiline;
  enabled_preserve_key_leading_whitespace = r.keep_indentation;
  enabled_brackets_in_section_names = r.brackets;
  enabled_raw_backslash = r.raw_backslash;
  enabled_indented_comment = indented;
  enabled_inline_comment = inline;
  line_without_separator = line;
}

-- what becomes of a line without separator: where the size doesn't reach the number, its key runs on
abbrev pub lone_line_there : Reading → Option LoneLine
lone_line_there r = lone_line_of (if nat_le 8 r.size then r.lone_lines else 0)

-- whether indented comments are on: where the size doesn't reach the number, they are off
abbrev pub indented_comments_there : Reading → Option Bool
indented_comments_there r = flag_of (if nat_le 9 r.size then r.indented_comments else 0)

-- the same of inline comments
abbrev pub inline_comments_there : Reading → Option Bool
inline_comments_there r = flag_of (if nat_le 10 r.size then r.inline_comments else 0)

-- the options that stand there, if each number stands for one
abbrev pub options_there : Reading → Option ParseOption
options_there r = option_and_then
    (λ line. option_and_then
    (λ indented. option_map (λ inline. options_with line indented inline r) (inline_comments_there r))
    (indented_comments_there r))
    (lone_line_there r)

-- options with raw backslashes as the struct has them, off where the size doesn't reach these
abbrev pub with_raw_backslashes : Reading → ParseOption → ParseOption
with_raw_backslashes r o = record o { enabled_raw_backslash = nat_le 7 r.size && r.raw_backslash }

-- The options by which a text is read, if each number stands for one. What the size doesn't reach has its
-- default.
abbrev pub reading_option : Reading → Option ParseOption
reading_option r = option_map (with_raw_backslashes r) (options_there r)

-- the policy of a number
abbrev pub policy_of : ℕ → EscapePolicy
policy_of n =
    if n == 0 then Nothing else if n == 1 then Basics else if n == 2 then BasicsUnicode
    else if n == 3 then BasicsUnicodeExtended else if n == 4 then Reserved
    else if n == 5 then ReservedUnicode else if n == 6 then ReservedUnicodeExtended else Everything

abbrev pub line_end_if : Bool → LineSeparator
line_end_if true = CRLF
line_end_if false = SystemDefault

-- what stands between a key and its value
abbrev pub separator_of : ℕ → List ℕ
separator_of n =
    if n == 0 then codes "=" else if n == 1 then codes " = " else if n == 2 then codes ":" else codes ": "

-- the option that a choice asks for
pub record IsWriteOption (choice : WriteChoice) (option : WriteOption) : Type 0 where
  pub escape_policy : option.escape_policy ≡ policy_of choice.policy
  pub line_separator : option.line_separator ≡ line_end_if choice.crlf
  pub separator : option.kv_separator.now ≡ separator_of choice.separator

-- the bytes are the document's text
abbrev pub IsTextOf : WriteChoice → Option Document → List ℕ → Type 0
IsTextOf choice (Some d) bytes =
    (option : WriteOption) → IsWriteOption choice option → bytes ≡ encode_utf8_all (written d option)
IsTextOf choice None bytes = ⊥

-- the document's text has so many bytes
abbrev pub IsCountOf : WriteChoice → Option Document → ℕ → Type 0
IsCountOf choice (Some d) count =
    (option : WriteOption) → IsWriteOption choice option
    → count ≡ length (encode_utf8_all (written d option))
IsCountOf choice None count = ⊥

-- whether the document is plain is reported; of no document it is not so
abbrev pub TellsPlain : WriteChoice → ParseOption → Bool → Option Document → Type 0
TellsPlain choice read told (Some d) =
    (write : WriteOption) → IsWriteOption choice write → IsTrue told ↔ IsPlain d write read
TellsPlain choice read told None = told ≡ false

-- the same by options of which one may be unknown: then it is not so
abbrev pub TellsPlainBy : WriteChoice → Option ParseOption → Bool → Option Document → Type 0
TellsPlainBy choice (Some read) told document = TellsPlain choice read told document
TellsPlainBy choice None told document = told ≡ false
