-- Which words are a check: of which files, which traps are reported, in which form, and whether they are
-- mended.
use Rattle.std.specs.Prelude.{Bool, true, false, not, ◌&&◌, ◌||◌, if◌then◌else◌, List, [], ◌∷◌, codes, map}
use Rattle.std.specs.Prelude.{Option, None, Some, is_some, option_and_then, string_bytes}
use Rattle.std.specs.Option.{option_map, option_map_or}
use Rattle.std.specs.Str.{bytes_eq}
use Rattle.ini_text.specs.declared.option.ParseOption.{ParseOption}
use Rattle.ini_check.specs.Kinds.{level, level_name, name, trap_named}
use Rattle.ini_check.specs.declared.warning.Trap.{Trap}
use Rattle.ini_check.specs.declared.warning.Trap.TheVariants.{KeyCase, RepeatedKey}
use Rattle.ini_check.specs.declared.warning.Trap.TheVariants.{RepeatedSection, SectionCase}
use Rattle.ini_dialect.specs.declared.rule.CaseRule.{CaseRule}
use Rattle.ini_dialect.specs.declared.rule.CaseRule.TheVariants.{Ignored}
use Rattle.ini_dialect.specs.declared.rule.Lookup.{Lookup}
use Rattle.ini_dialect.specs.declared.rule.SectionRule.{SectionRule}
use Rattle.ini_dialect.specs.declared.rule.SectionRule.TheVariants.{Joined}
use Rattle.ini_dialect.specs.declared.rule.ValueRule.{ValueRule}
use Rattle.ini_dialect.specs.declared.rule.ValueRule.TheVariants.{Last}
use Rattle.ini_words.specs.Words.{Word}
use Rattle.ini_words.specs.declared.options.Options.{Options}
use Rattle.ini_file.specs.Choices.{are_of_saving, have_no_option, is_short_number, no_switch, with_switch}
use Rattle.ini_file.specs.Fronts.{Fronted}
use Rattle.ini_file.specs.declared.check_words.Check.{Check}
use Rattle.ini_file.specs.declared.check_words.CheckChoices.{CheckChoices}
use Rattle.ini_file.specs.declared.reported.Reporting.{Reporting}
use Rattle.ini_file.specs.declared.report_format.Format.{Format}
use Rattle.ini_file.specs.declared.report_format.Format.TheVariants.{Github, Json, Lines, Null, Sarif}

-- what is reported: the rule by which values count, and the words that choose
pub record Reporter : Type 0 where
  pub rule : Lookup
  pub choices : List Word

-- the files that a check looks at, one at least, and how they are read; how it is made, and how long it
-- waits for others that write a file; what it reports
pub record Checking : Type 0 where
  pub reading : ParseOption
  pub made : CheckChoices
  pub wait : Option Word
  pub reporting : Reporter
  pub files : List Word

-- nothing is chosen
abbrev pub no_check_choice : CheckChoices
no_check_choice = record { format = Lines; fix = false; suggest = false; switches = no_switch }

-- the form that a word names
abbrev pub format_named : Word → Option Format
format_named word =
    if bytes_eq word (codes "json") then Some Json
    else if bytes_eq word (codes "sarif") then Some Sarif
    else if bytes_eq word (codes "github") then Some Github
    else None

-- the word names the traps of a level, or all
abbrev pub names_several : Word → Bool
names_several word =
    bytes_eq word (codes "all") || bytes_eq word (codes "loses-data") || bytes_eq word (codes "surprises")

-- the word names traps
abbrev pub names_traps : Word → Bool
names_traps word = names_several word || is_some (trap_named word)

-- sections of one name are joined; a key's last value counts; the case of letters doesn't
abbrev pub is_joined : SectionRule → Bool
is_joined Joined = true
is_joined _ = false

abbrev pub is_last : ValueRule → Bool
is_last Last = true
is_last _ = false

abbrev pub is_ignored : CaseRule → Bool
is_ignored Ignored = true
is_ignored _ = false

-- the word is the trap's name, its level's, or `all`
abbrev pub covers : Word → Trap → Bool
covers word trap =
    bytes_eq word (name trap) || bytes_eq word (level_name (level trap)) || bytes_eq word (codes "all")

abbrev mutual
  -- whether words report a trap that is, or isn't, reported before them
  pub is_reported : Trap → Bool → List Word → Bool
  is_reported trap before [] = before
  is_reported trap before (word ∷ words) =
      if bytes_eq word (codes "--") then before
      else if bytes_eq word (codes "--allow") || bytes_eq word (codes "--deny")
      then reported_with trap before (bytes_eq word (codes "--deny")) words
      else is_reported trap before words

  -- the same after a word that a name follows
  pub reported_with : Trap → Bool → Bool → List Word → Bool
  reported_with trap before choice [] = before
  reported_with trap before choice (word ∷ words) =
      is_reported trap (if covers word trap then choice else before) words

-- by the rule it is right: where sections are joined those of one name are, where the last value counts a key
-- may come again, and where case doesn't matter also in other case
abbrev pub is_right_by : Lookup → Trap → Bool
is_right_by rule RepeatedSection = is_joined rule.sections
is_right_by rule SectionCase = is_joined rule.sections && is_ignored rule.case
is_right_by rule RepeatedKey = is_last rule.values
is_right_by rule KeyCase = is_last rule.values && is_ignored rule.case
is_right_by rule _ = false

-- the trap is reported: unless words say otherwise where it isn't right
abbrev pub reports : Reporter → Trap → Bool
reports r trap = is_reported trap (not (is_right_by r.rule trap)) r.choices

-- what is chosen after a word that stands alone, if it is a choice
abbrev pub with_word : Word → CheckChoices → Option CheckChoices
with_word word c =
    if bytes_eq word (codes "--null") then Some (record c { format = Null })
    else if bytes_eq word (codes "--fix") then Some (record c { fix = true })
    else if bytes_eq word (codes "--suggest") then Some (record c { suggest = true })
    else if bytes_eq word (codes "--dry-run") || bytes_eq word (codes "--in-place")
    || bytes_eq word (codes "--force") || bytes_eq word (codes "--verbose")
    then option_map (λ s. record c { switches = s }) (with_switch word c.switches)
    else None

-- a form, or a name of traps, follows the choice of this name
abbrev pub takes_text : Word → Bool
takes_text word = bytes_eq word (codes "--format") || bytes_eq word (codes "--allow")
    || bytes_eq word (codes "--deny")

-- what is chosen after such a word and its text, if that is one; a name of traps chooses nothing here
abbrev pub with_text : Word → Word → CheckChoices → Option CheckChoices
with_text word text c =
    if bytes_eq word (codes "--format") then option_map (λ f. record c { format = f }) (format_named text)
    else if names_traps text then Some c
    else None

abbrev pub is_lines : Format → Bool
is_lines Lines = true
is_lines _ = false

-- what is about a mended file is chosen only where files are mended, and neither these nor a form of warnings
-- with dialects; `waits` says whether how long others are waited for is
abbrev pub are_right : Bool → CheckChoices → Bool
are_right waits c =
    if c.suggest && (c.fix || not (is_lines c.format)) then false
    else c.fix || not (are_of_saving c.switches || c.switches.dry_run || waits)

-- what words choose where `c` and this time of waiting hold before them, and the files that they name: those
-- after `--`, or else those from the first word on that is no choice. None where a text is missing or wrong,
-- or where, without `--`, a file's name begins with `--`
abbrev mutual
  pub files_named : CheckChoices → Option Word → List Word → Option (CheckChoices × Option Word × List Word)
  files_named c wait [] = None
  files_named c wait (word ∷ words) =
      if bytes_eq word (codes "--") then Some (c, wait, words)
      else if bytes_eq word (codes "--wait") then files_after_wait c words
      else if takes_text word then files_after_text word c wait words
      else option_map_or (λ c. files_named c wait words) (with_word word c)
      (if have_no_option (word ∷ words) then Some (c, wait, word ∷ words) else None)

  -- the same after a word that a number of seconds follows
  pub files_after_wait : CheckChoices → List Word → Option (CheckChoices × Option Word × List Word)
  files_after_wait c [] = None
  files_after_wait c (seconds ∷ words) =
      if is_short_number seconds then files_named c (Some seconds) words else None

  -- the same after a word that a form, or a name of traps, follows
  pub files_after_text : Word → CheckChoices → Option Word → List Word
      → Option (CheckChoices × Option Word × List Word)
  files_after_text word c wait [] = None
  files_after_text word c wait (text ∷ words) =
      option_and_then (λ c. files_named c wait words) (with_text word text c)

-- the check of files, one at least, by choices that go together
abbrev pub check_made : Options → Reporter → CheckChoices → Option Word → List Word → Option Checking
check_made o r c wait [] = None
check_made o r c wait (file ∷ files) =
    if are_right (is_some wait) c
    then Some (record {
      reading = o.reading;
      made = c;
      wait = wait;
      reporting = r;
      files = file ∷ files;
    })
    else None

-- what the words after `check` check; None where they are no check
abbrev pub check_asked : Fronted → Option Checking
check_asked f =
    option_and_then
    (λ p. check_made f.options (record { rule = f.dialect.lookup; choices = f.words }) p.0 p.1 p.2)
    (files_named no_check_choice None f.words)

-- what is kept as borrowed words: what is reported, and the check
abbrev pub reporter_of : Reporting → Reporter
reporter_of r = record { rule = r.rule; choices = map string_bytes r.choices.now }

abbrev pub checking_of : Check → Checking
checking_of c = record {
  reading = c.reading;
  made = c.made;
  wait = option_map (λ seconds. seconds.now) c.wait;
  reporting = reporter_of c.reporting;
  files = map string_bytes c.files.now;
}
