-- What words have at their front: a dialect, which stands for options, others over these, a command, and what
-- it is called with.
use Rattle.std.specs.Prelude.{if◌then◌else◌, List, [], ◌∷◌, codes, map, Option, None, Some}
use Rattle.std.specs.Prelude.{String, option_and_then, string_bytes, unwrap_or}
use Rattle.std.specs.Borrow.{Bor}
use Rattle.std.specs.Option.{option_map}
use Rattle.std.specs.Str.{bytes_eq}
use Rattle.std.specs.declared.alloc.Global.{Global}
use Rattle.ini_dialect.specs.Dialects.{Preset, crate_preset, dialect_of, shown}
use Rattle.ini_dialect.specs.declared.presets.Dialect.{Dialect}
use Rattle.ini_words.specs.Words.{Word, given}
use Rattle.ini_words.specs.declared.options.Options.{Options}
use Rattle.ini_file.specs.Choices.{Chosen, chosen, chosen_of, no_choice, takes}
use Rattle.ini_file.specs.declared.front.Call.{Call}
use Rattle.ini_file.specs.declared.front.Front.{Front}

-- the dialect, the options over its own, the command, and the words after it
pub record Fronted : Type 0 where
  pub dialect : Preset
  pub options : Options
  pub command : Word
  pub words : List Word

-- what a command is called with: the same, its choices, and the words after these
pub record Called : Type 0 where
  pub dialect : Preset
  pub options : Options
  pub choices : Chosen
  pub words : List Word

-- the dialect of the first word, and the words after it
abbrev pub named_first : List Word → Option (Preset × List Word)
named_first [] = None
named_first (name ∷ words) = option_map (λ p. (p, words)) (dialect_of name)

-- the dialect that words name at their front, and the words after its name; else the crate's own, and all
-- words
abbrev pub liked : List Word → Option (Preset × List Word)
liked [] = Some (crate_preset, [])
liked (word ∷ words) =
    if bytes_eq word (codes "--like") then named_first words else Some (crate_preset, word ∷ words)

-- what a call answers
abbrev pub liked_by : Option (Bor Dialect × Bor (List (String Global))) → Option (Preset × List Word)
liked_by answer = option_map (λ p. (shown p.0.now, map string_bytes p.1.now)) answer

-- the options that a dialect stands for
abbrev pub options_like : Preset → Options
options_like p = record {
  reading = p.read;
  escape_policy = p.escape_policy;
  line_separator = p.line_separator;
}

-- the front of words that begin with a command, and of those that begin with options over a dialect's
abbrev pub front_after : Preset → Options → List Word → Option Fronted
front_after p o [] = None
front_after p o (command ∷ words) =
    Some (record { dialect = p; options = o; command = command; words = words })

abbrev pub front_like : Preset → List Word → Option Fronted
front_like p words = option_and_then (λ q. front_after p q.0 q.1) (given (options_like p) words)

-- what words have at their front
abbrev pub fronted : List Word → Option Fronted
fronted words = option_and_then (λ p. front_like p.0 p.1) (liked words)

-- what the command is called with, where it takes its choices
abbrev pub call_with : Fronted → Chosen → List Word → Option Called
call_with f c words =
    if takes f.command c
    then Some (record { dialect = f.dialect; options = f.options; choices = c; words = words })
    else None

abbrev pub called : Fronted → Option Called
called f = option_and_then (λ p. call_with f p.0 p.1) (chosen no_choice f.words)

-- what stands between key and value
abbrev pub call_separator : Called → Word
call_separator c = unwrap_or c.choices.separator c.dialect.kv_separator

-- what is kept as borrowed words
abbrev pub front_of : Front → Fronted
front_of f = record {
  dialect = shown f.dialect.now;
  options = f.options;
  command = f.command.now;
  words = map string_bytes f.words.now;
}

abbrev pub call_of : Call → Called
call_of c = record {
  dialect = shown c.dialect.now;
  options = c.options;
  choices = chosen_of c.choices;
  words = map string_bytes c.words.now;
}
