-- What each dialect's name stands for.
use Rattle.std.specs.Prelude.{ℕ, List, [], ◌∷◌, codes, true, false, Option}
use Rattle.std.specs.Map.{lookup}
use Rattle.std.specs.Str.{bytes_eq}
use Rattle.ini_text.specs.Options.ReadOptions.{default_parse_option, with_raw_backslashes, without_escapes}
use Rattle.ini_text.specs.declared.option.LoneLine.TheVariants.{Refused, Key}
use Rattle.ini_text.specs.declared.option.ParseOption.{ParseOption}
use Rattle.ini_text.specs.declared.write.option.LineSeparator.{LineSeparator}
use Rattle.ini_text.specs.declared.write.option.LineSeparator.TheVariants.{SystemDefault, CRLF}
use Rattle.ini_text.specs.declared.write.policy.EscapePolicy.{EscapePolicy}
use Rattle.ini_text.specs.declared.write.policy.EscapePolicy.TheVariants.{Basics, Nothing}
use Rattle.ini_dialect.specs.Rules.{default_lookup}
use Rattle.ini_dialect.specs.declared.presets.Dialect as declared
use Rattle.ini_dialect.specs.declared.presets.NamedDialect.{NamedDialect}
use Rattle.ini_dialect.specs.declared.rule.CaseRule.TheVariants.{Ignored, Kept}
use Rattle.ini_dialect.specs.declared.rule.Lookup.{Lookup}
use Rattle.ini_dialect.specs.declared.rule.SectionRule.TheVariants.{First as FirstSection, Joined}
use Rattle.ini_dialect.specs.declared.rule.ValueRule.TheVariants.{First as FirstValue, Last as LastValue}

-- how files are read, how new lines are written, and which sections and values count
pub record Preset : Type 0 where
  pub read : ParseOption
  pub escape_policy : EscapePolicy
  pub line_separator : LineSeparator
  pub kv_separator : List ℕ
  pub lookup : Lookup

-- the preset of a dialect
abbrev pub shown : declared.Dialect → Preset
shown d = record {
  read = d.read;
  escape_policy = d.write.escape_policy;
  line_separator = d.write.line_separator;
  kv_separator = d.write.kv_separator.now;
  lookup = d.lookup;
}

abbrev pub named_shown : NamedDialect → List ℕ × Preset
named_shown n = (n.name.now, shown n.dialect)

-- one whose lines end with LF
abbrev pub preset : ParseOption → EscapePolicy → List ℕ → Lookup → Preset
preset read policy separator rule = record {
  read = read;
  escape_policy = policy;
  line_separator = SystemDefault;
  kv_separator = separator;
  lookup = rule;
}

abbrev pub with_crlf : Preset → Preset
with_crlf p = record p { line_separator = CRLF }

-- ways to read: the default one
abbrev pub standard : ParseOption
standard = default_parse_option

-- a line without separator is refused
abbrev pub strict : ParseOption
strict = record standard { line_without_separator = Refused }

-- a line without separator is a key alone
abbrev pub keyed : ParseOption
keyed = record standard { line_without_separator = Key }

-- the same, and notes may stand behind values
abbrev pub keyed_noted : ParseOption
keyed_noted = record keyed { enabled_inline_comment = true }

-- comments may be indented
abbrev pub commented : ParseOption
commented = record standard { enabled_indented_comment = true }

-- no escapes; before a line's end a backslash joins lines all the same
abbrev pub raw : ParseOption
raw = without_escapes

-- the same, and notes may stand behind values
abbrev pub raw_noted : ParseOption
raw_noted = record raw { enabled_inline_comment = true }

-- a backslash is a character like any other, before a line's end too
abbrev pub literal : ParseOption
literal = with_raw_backslashes

-- the same, and a line without separator is a key alone
abbrev pub literal_keyed : ParseOption
literal_keyed = record literal { line_without_separator = Key }

-- no quotes
abbrev pub unquoted : ParseOption
unquoted = record standard { enabled_quote = false }

-- the same, and comments may be indented
abbrev pub unquoted_commented : ParseOption
unquoted_commented = record unquoted { enabled_indented_comment = true }

-- no quotes and no escapes
abbrev pub verbatim : ParseOption
verbatim = record raw { enabled_quote = false }

-- the same with brackets in names
abbrev pub patterns : ParseOption
patterns = record verbatim { enabled_brackets_in_section_names = true }

-- no quotes, a backslash as any other character, and values of several lines
abbrev pub indented : ParseOption
indented = record literal { enabled_quote = false; enabled_indented_mutiline_value = true }

-- the same, and comments may be indented
abbrev pub indented_commented : ParseOption
indented_commented = record indented { enabled_indented_comment = true }

-- in place of that, notes may stand behind values
abbrev pub indented_noted : ParseOption
indented_noted = record indented { enabled_inline_comment = true }

-- brackets in names
abbrev pub bracketed : ParseOption
bracketed = record standard { enabled_brackets_in_section_names = true }

-- rules: the first section and value; the same in any case; all sections joined, and the last value; that in
-- any case
abbrev pub first : Lookup
first = default_lookup

abbrev pub first_any_case : Lookup
first_any_case = record first { case = Ignored }

abbrev pub last : Lookup
last = record { sections = Joined; values = LastValue; case = Kept }

abbrev pub last_any_case : Lookup
last_any_case = record last { case = Ignored }

-- the crate's own dialect
abbrev pub crate_preset : Preset
crate_preset = preset standard Basics (codes "=") first

-- the names, and what each stands for
abbrev pub presets : List (List ℕ × Preset)
presets =
    (codes "crate", crate_preset)
    ∷ (codes "git", preset commented Basics (codes " = ") last_any_case)
    ∷ (codes "systemd", preset verbatim Nothing (codes "=") last)
    ∷ (codes "desktop", preset unquoted_commented Basics (codes "=") last)
    ∷ (codes "python", preset indented_commented Nothing (codes " = ") last_any_case)
    ∷ (codes "php", preset standard Nothing (codes " = ") last)
    ∷ (codes "mysql", preset literal_keyed Basics (codes "=") last)
    ∷ (codes "samba", preset raw Nothing (codes " = ") last_any_case)
    ∷ (codes "windows", with_crlf (preset raw Nothing (codes "=") first_any_case))
    ∷ (codes "kde", preset bracketed Basics (codes "=") last)
    ∷ (codes "supervisor", preset raw_noted Nothing (codes "=") last_any_case)
    ∷ (codes "fail2ban", preset indented_noted Nothing (codes " = ") last_any_case)
    ∷ (codes "aws", preset indented Nothing (codes " = ") last_any_case)
    ∷ (codes "editorconfig", preset patterns Nothing (codes " = ") last_any_case)
    ∷ (codes "npm", preset raw Basics (codes "=") last)
    ∷ (codes "qt", preset standard Basics (codes "=") last)
    ∷ (codes "hg", preset literal Nothing (codes " = ") last)
    ∷ (codes "pulseaudio", preset keyed Nothing (codes " = ") last)
    ∷ (codes "odbc", preset commented Nothing (codes " = ") first_any_case)
    ∷ (codes "freetds", preset commented Nothing (codes " = ") last_any_case)
    ∷ (codes "sssd", preset raw Nothing (codes " = ") last)
    ∷ (codes "openssl", preset keyed_noted Basics (codes " = ") last)
    ∷ (codes "uwsgi", preset standard Nothing (codes " = ") last)
    ∷ (codes "xrdp", preset standard Nothing (codes "=") last)
    ∷ (codes "openttd", preset unquoted Nothing (codes " = ") first)
    ∷ (codes "strict", preset strict Basics (codes "=") first)
    ∷ []

-- what a name stands for
abbrev pub dialect_of : List ℕ → Option Preset
dialect_of name = lookup (bytes_eq name) presets
