-- Which words are options, what they set, and where the words after them begin.
use Rattle.std.specs.Prelude.{◌≡◌, ℕ, true, false, if◌then◌else◌, List, [], ◌∷◌, codes, map}
use Rattle.std.specs.Prelude.{Option, None, Some, option_and_then, String, string_bytes}
use Rattle.std.specs.Borrow.{Bor}
use Rattle.std.specs.Option.{option_map, option_map_or}
use Rattle.std.specs.Str.{bytes_eq}
use Rattle.std.specs.declared.alloc.Global.{Global}
use Rattle.ini_text.specs.Options.ReadOptions.{default_parse_option}
use Rattle.ini_text.specs.declared.option.LoneLine.{LoneLine}
use Rattle.ini_text.specs.declared.option.LoneLine.TheVariants.{RunsOn, Refused, Key}
use Rattle.ini_text.specs.declared.option.ParseOption.{ParseOption}
use Rattle.ini_text.specs.declared.write.policy.EscapePolicy.{EscapePolicy}
use Rattle.ini_text.specs.declared.write.policy.EscapePolicy.TheVariants.{Nothing, Basics, BasicsUnicode}
use Rattle.ini_text.specs.declared.write.policy.EscapePolicy.TheVariants.{BasicsUnicodeExtended, Reserved}
use Rattle.ini_text.specs.declared.write.policy.EscapePolicy.TheVariants.{ReservedUnicode}
use Rattle.ini_text.specs.declared.write.policy.EscapePolicy.TheVariants.{ReservedUnicodeExtended, Everything}
use Rattle.ini_text.specs.declared.write.option.LineSeparator.TheVariants.{SystemDefault, CRLF}
use Rattle.ini_text.specs.declared.write.option.WriteOption.{WriteOption}
use Rattle.ini_words.specs.declared.options.Options.{Options}

-- a word is the list of its bytes
abbrev pub Word : Type 0
Word = List ℕ

-- what holds before any option is read
abbrev pub default_options : Options
default_options = record {
  reading = default_parse_option;
  escape_policy = Basics;
  line_separator = SystemDefault;
}

-- the options with another way of reading
abbrev pub with_reading : Options → ParseOption → Options
with_reading o reading = record o { reading = reading }

-- the options, with what becomes of lines without separator
abbrev pub with_lone_line : Options → LoneLine → Options
with_lone_line o lone = with_reading o (record o.reading { line_without_separator = lone })

-- what a word sets that is an option by itself
abbrev pub with_switch : Word → Options → Option Options
with_switch word o =
    if bytes_eq word (codes "--noescape")
    then Some (with_reading o (record o.reading { enabled_escape = false }))
    else if bytes_eq word (codes "--noquote")
    then Some (with_reading o (record o.reading { enabled_quote = false }))
    else if bytes_eq word (codes "--multiline")
    then Some (with_reading o (record o.reading { enabled_indented_mutiline_value = true }))
    else if bytes_eq word (codes "--indent")
    then Some (with_reading o (record o.reading { enabled_preserve_key_leading_whitespace = true }))
    else if bytes_eq word (codes "--brackets")
    then Some (with_reading o (record o.reading { enabled_brackets_in_section_names = true }))
    else if bytes_eq word (codes "--raw-backslash")
    then Some (with_reading o (record o.reading { enabled_raw_backslash = true }))
    else if bytes_eq word (codes "--indented-comments")
    then Some (with_reading o (record o.reading { enabled_indented_comment = true }))
    else if bytes_eq word (codes "--inline-comments")
    then Some (with_reading o (record o.reading { enabled_inline_comment = true }))
    else if bytes_eq word (codes "--crlf")
    then Some (record o { line_separator = CRLF })
    else None

-- the policy of a name
abbrev pub policy_named : Word → Option EscapePolicy
policy_named name =
    if bytes_eq name (codes "Nothing") then Some Nothing
    else if bytes_eq name (codes "Basics") then Some Basics
    else if bytes_eq name (codes "BasicsUnicode") then Some BasicsUnicode
    else if bytes_eq name (codes "BasicsUnicodeExtended") then Some BasicsUnicodeExtended
    else if bytes_eq name (codes "Reserved") then Some Reserved
    else if bytes_eq name (codes "ReservedUnicode") then Some ReservedUnicode
    else if bytes_eq name (codes "ReservedUnicodeExtended") then Some ReservedUnicodeExtended
    else if bytes_eq name (codes "Everything") then Some Everything
    else None

-- what becomes of lines without separator, by its name
abbrev pub lone_line_named : Word → Option LoneLine
lone_line_named name =
    if bytes_eq name (codes "runs-on") then Some RunsOn
    else if bytes_eq name (codes "refused") then Some Refused
    else if bytes_eq name (codes "keys") then Some Key
    else None

-- the options of words where `o` holds before them, and the words after: each word that is an option
-- changes it, and those after begin at the first that is none. None where a name that belongs to an option
-- is missing, or unknown
abbrev mutual
  pub given : Options → List Word → Option (Options × List Word)
  given o [] = Some (o, [])
  given o (word ∷ words) =
      if bytes_eq word (codes "--policy") then given_policy o words
      else if bytes_eq word (codes "--lone-lines") then given_lone_line o words
      else option_map_or (λ p. given p words) (with_switch word o) (Some (o, word ∷ words))

  -- the same after the word `--policy`, which the name of a policy follows
  pub given_policy : Options → List Word → Option (Options × List Word)
  given_policy o [] = None
  given_policy o (name ∷ words) =
      option_and_then (λ policy. given (record o { escape_policy = policy }) words) (policy_named name)

  -- and after the word `--lone-lines`
  pub given_lone_line : Options → List Word → Option (Options × List Word)
  given_lone_line o [] = None
  given_lone_line o (name ∷ words) =
      option_and_then (λ lone. given (with_lone_line o lone) words) (lone_line_named name)

-- what a call answers: the options, and the words after them
abbrev pub given_by : Option (Options × Bor (List (String Global))) → Option (Options × List Word)
given_by answer = option_map (λ p. (p.0, map string_bytes p.1.now)) answer

-- how the options have documents written: `=` alone stands between a key and its value
pub record IsWriteOption (o : Options) (w : WriteOption) : Type 0 where
  pub escape_policy : w.escape_policy ≡ o.escape_policy
  pub line_separator : w.line_separator ≡ o.line_separator
  pub kv_separator : w.kv_separator.now ≡ codes "="
