-- Which words after the command are options, what they choose, and where the words after them begin.
use Rattle.std.specs.Prelude.{Bool, true, false, not, ◌&&◌, ◌||◌, ◌==◌, if◌then◌else◌, nat_eq, nat_lt}
use Rattle.std.specs.Prelude.{count_by, List, [], ◌∷◌, codes, length, map, Option, None, Some, is_some}
use Rattle.std.specs.Prelude.{option_and_then, String, string_bytes}
use Rattle.std.specs.Borrow.{Bor}
use Rattle.std.specs.Char.{is_ascii_digit}
use Rattle.std.specs.List.{starts_with}
use Rattle.std.specs.Option.{option_map, option_map_or}
use Rattle.std.specs.Str.{bytes_eq}
use Rattle.std.specs.declared.alloc.Global.{Global}
use Rattle.ini_layers.specs.declared.change.SettingValue.{SettingValue}
use Rattle.ini_layers.specs.declared.change.SettingValue.TheVariants.{Counting, List as WholeList}
use Rattle.ini_layers.specs.declared.merging.Side.TheVariants.{Ours, Theirs}
use Rattle.ini_words.specs.Words.{Word}
use Rattle.ini_file.specs.Manners.{has_manner, no_manner, takes_name, with_name, writes_form}
use Rattle.ini_file.specs.Spacing.{is_spaced, no_spacing, takes_spacing, with_spacing}
use Rattle.ini_file.specs.declared.choices.Choices.{Choices}
use Rattle.ini_file.specs.declared.choices.Switches.{Switches}
use Rattle.ini_file.specs.declared.manner.AnswerForm.{AnswerForm}
use Rattle.ini_file.specs.declared.manner.Manner.{Manner}
use Rattle.ini_file.specs.declared.spacing.Spacing.{Spacing}

-- what is chosen by a word alone; the name of the file that is written, where it isn't the one that is read;
-- the value that is got where there is none; what stands between key and value of new lines, or of each; how
-- many seconds a run waits for others that write the file; the section, of a list of values; how a text is
-- spaced; in which manner an answer is told
pub record Chosen : Type 0 where
  pub switches : Switches
  pub output : Option Word
  pub default : Option Word
  pub separator : Option Word
  pub wait : Option Word
  pub section : Option Word
  pub spacing : Spacing
  pub manner : Manner

abbrev pub no_switch : Switches
no_switch = record {
  existing = false;
  all = false;
  last = false;
  origin = false;
  null = false;
  dry_run = false;
  in_place = false;
  force = false;
  verbose = false;
  side = None;
  check = false;
  reverse = false;
  align = false;
  lists = false;
  comments = false;
}

abbrev pub no_choice : Chosen
no_choice = record {
  switches = no_switch;
  output = None;
  default = None;
  separator = None;
  wait = None;
  section = None;
  spacing = no_spacing;
  manner = no_manner;
}

-- whether the command writes names, keys or values of the document
abbrev pub writes_texts : Word → Bool
writes_texts command = bytes_eq command (codes "get") || bytes_eq command (codes "keys")
    || bytes_eq command (codes "sections") || bytes_eq command (codes "list")

-- whether the command may tell where pairs are
abbrev pub tells_places : Word → Bool
tells_places command = bytes_eq command (codes "list") || bytes_eq command (codes "layers")

-- whether it may write NUL after each: layers do where they tell where pairs are
abbrev pub may_be_null : Word → (origin : Bool) → Bool
may_be_null command origin = writes_texts command || (bytes_eq command (codes "layers") && origin)

-- whether the command makes nothing that belongs into a file: it tells something of files, or lays them over
-- each other
abbrev pub answers : Word → Bool
answers command = writes_texts command || bytes_eq command (codes "diff")
    || bytes_eq command (codes "layers")

-- whether what the command makes goes to standard output, where no file is named for it
abbrev pub goes_out : Word → Bool
goes_out command = answers command || bytes_eq command (codes "merge3")

-- whether the command writes separators: in new lines of pairs, or in each
abbrev pub writes_pairs : Word → Bool
writes_pairs command = bytes_eq command (codes "set") || bytes_eq command (codes "add")
    || bytes_eq command (codes "rewrite") || bytes_eq command (codes "format")
    || bytes_eq command (codes "layers")

-- whether a switch is about a file that is written
abbrev pub are_of_saving : Switches → Bool
are_of_saving s = s.in_place || s.force || s.verbose

-- each byte is a decimal digit
abbrev pub has_digits_alone : Word → Bool
has_digits_alone word = count_by (λ byte. not (is_ascii_digit byte)) word == 0

-- the word is one to nine decimal digits
abbrev pub is_short_number : Word → Bool
is_short_number word = nat_lt 0 (length word) && nat_lt (length word) 10 && has_digits_alone word

-- the word, if there is one, is a number of seconds
abbrev pub are_seconds : Option Word → Bool
are_seconds None = true
are_seconds (Some word) = is_short_number word

-- whether the command takes the choices that are about a file that is written
abbrev pub takes_saving : Word → Chosen → Bool
takes_saving command c =
    (not (are_of_saving c.switches || is_some c.wait) || (not (goes_out command) || is_some c.output))
    && are_seconds c.wait

-- something is chosen of the manner in which an answer is told
abbrev pub has_own_manner : Chosen → Bool
has_own_manner c = has_manner c.manner || c.switches.origin

-- whether the command takes the form that is chosen with the other choices
abbrev pub takes_form : Word → Chosen → Option AnswerForm → Bool
takes_form command c None = true
takes_form command c (Some form) =
    writes_form command form && not (c.switches.null || (c.switches.origin || is_some c.manner.kind))

-- whether the command takes the choices that are about the manner in which an answer is told
abbrev pub takes_manner : Word → Chosen → Bool
takes_manner command c =
    (not (is_some c.manner.kind) || bytes_eq command (codes "get"))
    && (not c.switches.last || (bytes_eq command (codes "get") && not c.switches.all))
    && (not c.switches.origin || tells_places command)
    && (not (is_some c.manner.color) || bytes_eq command (codes "diff"))
    && takes_form command c c.manner.form

-- what a setting's value is
abbrev pub setting_value : Switches → SettingValue
setting_value s = if s.lists then WholeList else Counting

-- whether the command compares files, setting by setting, or makes the changes between them
abbrev pub compares : Word → Bool
compares command = bytes_eq command (codes "diff") || bytes_eq command (codes "apply")
    || bytes_eq command (codes "merge3")

-- whether the command takes the choices that are about what is compared; comments are told in no form
abbrev pub takes_settings : Word → Chosen → Bool
takes_settings command c =
    (not c.switches.lists || compares command)
    && (not c.switches.comments || (bytes_eq command (codes "diff") && not (is_some c.manner.form)))

-- whether the command takes the choices that are about the text that it makes
abbrev pub takes_of_texts : Word → Chosen → Bool
takes_of_texts command c =
    (not c.switches.dry_run || not (answers command))
    && (not (is_some c.switches.side) || bytes_eq command (codes "merge3"))
    && (not c.switches.reverse || bytes_eq command (codes "apply"))
    && takes_settings command c
    && takes_manner command c

-- whether the command takes the choices that are about a layout
abbrev pub takes_layout : Word → Chosen → Bool
takes_layout command c =
    not (c.switches.check || c.switches.align || is_spaced c.spacing) || bytes_eq command (codes "format")

abbrev pub takes_writing : Word → Chosen → Bool
takes_writing command c = takes_layout command c && takes_saving command c

-- whether the command is about one value or name, or about all
abbrev pub takes_all : Word → Bool
takes_all command = bytes_eq command (codes "get") || bytes_eq command (codes "set")
    || bytes_eq command (codes "sections")

-- whether the command takes the choices that are about one value or a list of them
abbrev pub takes_values : Word → Chosen → Bool
takes_values command c =
    (not c.switches.existing || (bytes_eq command (codes "set") && not c.switches.all))
    && (not c.switches.all || takes_all command)
    && (not (is_some c.section) || (bytes_eq command (codes "set") && c.switches.all))

-- whether the command takes the choices
abbrev pub takes : Word → Chosen → Bool
takes command c =
    takes_values command c
    && (not (is_some c.default) || bytes_eq command (codes "get"))
    && (not c.switches.null || may_be_null command c.switches.origin)
    && (not (is_some c.separator)
    || (writes_pairs command && not (c.switches.existing || c.switches.origin)))
    && takes_of_texts command c
    && takes_writing command c

-- what a word chooses by itself
abbrev pub with_switch : Word → Switches → Option Switches
with_switch word s =
    if bytes_eq word (codes "--existing") then Some (record s { existing = true })
    else if bytes_eq word (codes "--all") then Some (record s { all = true })
    else if bytes_eq word (codes "--last") then Some (record s { last = true })
    else if bytes_eq word (codes "--origin") then Some (record s { origin = true })
    else if bytes_eq word (codes "--null") then Some (record s { null = true })
    else if bytes_eq word (codes "--dry-run") then Some (record s { dry_run = true })
    else if bytes_eq word (codes "--in-place") then Some (record s { in_place = true })
    else if bytes_eq word (codes "--force") then Some (record s { force = true })
    else if bytes_eq word (codes "--verbose") then Some (record s { verbose = true })
    else if bytes_eq word (codes "--ours") then Some (record s { side = Some Ours })
    else if bytes_eq word (codes "--theirs") then Some (record s { side = Some Theirs })
    else if bytes_eq word (codes "--check") then Some (record s { check = true })
    else if bytes_eq word (codes "--reverse") then Some (record s { reverse = true })
    else if bytes_eq word (codes "--align") then Some (record s { align = true })
    else if bytes_eq word (codes "--lists") then Some (record s { lists = true })
    else if bytes_eq word (codes "--comments") then Some (record s { comments = true })
    else None

-- no word begins with `--`
abbrev pub have_no_option : List Word → Bool
have_no_option words = count_by (λ word. starts_with nat_eq word (codes "--")) words == 0

-- the choices of words where `c` holds before them, and the words after: those after `--`, else those from
-- the first one on that is no option. None where a text is missing, or is no number or name where one
-- follows, or where, without `--`, one of the words from there on begins with `--`
abbrev mutual
  pub chosen : Chosen → List Word → Option (Chosen × List Word)
  chosen c [] = Some (c, [])
  chosen c (word ∷ words) =
      if bytes_eq word (codes "--") then Some (c, words)
      else if bytes_eq word (codes "--output")
      then chosen_text (λ file. record c { output = Some file }) words
      else if bytes_eq word (codes "--default")
      then chosen_text (λ value. record c { default = Some value }) words
      else if bytes_eq word (codes "--separator")
      then chosen_text (λ text. record c { separator = Some text }) words
      else if bytes_eq word (codes "--wait")
      then chosen_text (λ seconds. record c { wait = Some seconds }) words
      else if bytes_eq word (codes "--section")
      then chosen_text (λ name. record c { section = Some name }) words
      else if takes_spacing word then chosen_number word c words
      else if takes_name word then chosen_name word c words
      else option_map_or (λ s. chosen (record c { switches = s }) words) (with_switch word c.switches)
      (if have_no_option (word ∷ words) then Some (c, word ∷ words) else None)

  -- the same after a word that a text follows
  pub chosen_text : (Word → Chosen) → List Word → Option (Chosen × List Word)
  chosen_text with [] = None
  chosen_text with (text ∷ words) = chosen (with text) words

  -- the same after a word that a number follows
  pub chosen_number : Word → Chosen → List Word → Option (Chosen × List Word)
  chosen_number word c [] = None
  chosen_number word c (text ∷ words) =
      option_and_then (λ s. chosen (record c { spacing = s }) words) (with_spacing word text c.spacing)

  -- the same after a word that a name follows
  pub chosen_name : Word → Chosen → List Word → Option (Chosen × List Word)
  chosen_name word c [] = None
  chosen_name word c (name ∷ words) =
      option_and_then (λ m. chosen (record c { manner = m }) words) (with_name word name c.manner)

-- the choices that are kept as borrowed words
abbrev pub chosen_of : Choices → Chosen
chosen_of c = record {
  switches = c.switches;
  output = option_map (λ file. file.now) c.output;
  default = option_map (λ value. value.now) c.default;
  separator = option_map (λ text. text.now) c.separator;
  wait = option_map (λ seconds. seconds.now) c.wait;
  section = option_map (λ name. name.now) c.section;
  spacing = c.spacing;
  manner = c.manner;
}

-- what a call answers: the choices, and the words after them
abbrev pub chosen_by : Option (Choices × Bor (List (String Global))) → Option (Chosen × List Word)
chosen_by answer = option_map (λ p. (chosen_of p.0, map string_bytes p.1.now)) answer
