-- The words of the program in order. Options may stand anywhere before `--`; in order are the options of
-- reading and writing, the command, its choices, `--`, and its arguments.
use Rattle.std.specs.Prelude.{◌==◌, ◌&&◌, ◌||◌, ◌++◌, Bool, true, false, not, if◌then◌else◌, ℕ, length, map}
use Rattle.std.specs.Prelude.{count_by, nat_lt}
use Rattle.std.specs.Prelude.{option_to_list, List, [], ◌∷◌, codes, Option, None, Some, is_some, string_bytes}
use Rattle.std.specs.Borrow.{Bor}
use Rattle.std.specs.List.{slice_get}
use Rattle.std.specs.Option.{option_map, option_map_or, option_or}
use Rattle.std.specs.Str.{bytes_eq}
use Rattle.ini_dialect.specs.EncodingNames.{encoding_of}
use Rattle.ini_dialect.specs.declared.encoding.Encoding as encodings
use Rattle.ini_words.specs.Words.{Word}
use Rattle.ini_file.specs.Spelling.{is_like_option, kind_of, spelled, takes_text}
use Rattle.ini_file.specs.declared.order.Sorted as sorted_words
use Rattle.ini_file.specs.declared.spelling.Kind.{Kind}
use Rattle.ini_file.specs.declared.spelling.Kind.TheVariants.{Reading, ReadingText, Choice, ChoiceText}
use Rattle.ini_file.specs.declared.spelling.Kind.TheVariants.{Section, Like, Encoding, Help}

-- the options of reading and writing, and the choices, each with its text; the section that is named, the
-- dialect and the encoding; whether help is asked for; and the other words, of which the command is the first
pub record Sorted : Type 0 where
  pub options : List Word
  pub choices : List Word
  pub section : Option Word
  pub like : Option Word
  pub encoding : Option Word
  pub help : Bool
  pub others : List Word

abbrev pub no_words : Sorted
no_words = record {
  options = [];
  choices = [];
  section = None;
  like = None;
  encoding = None;
  help = false;
  others = [];
}

-- with words that are no options
abbrev pub with_others : List Word → Sorted → Sorted
with_others words s = record s { others = s.others ++ words }

abbrev pub with_other : Word → Sorted → Sorted
with_other word s = with_others (word ∷ []) s

-- with an option that stands alone
abbrev pub with_alone : Kind → Word → Sorted → Sorted
with_alone Reading name s = record s { options = s.options ++ name ∷ [] }
with_alone Choice name s = record s { choices = s.choices ++ name ∷ [] }
with_alone Help name s = record s { help = true }
with_alone _ name s = s

-- with an option and its text
abbrev pub with_text : Kind → Word → Word → Sorted → Sorted
with_text ReadingText name text s = record s { options = s.options ++ name ∷ text ∷ [] }
with_text ChoiceText name text s = record s { choices = s.choices ++ name ∷ text ∷ [] }
with_text Section name text s = record s { section = Some text }
with_text Like name text s = record s { like = Some text }
with_text Encoding name text s = record s { encoding = Some text }
with_text _ name text s = s

-- the words sorted, after those that s has; None where a word looks like an option and is none, or where an
-- option lacks its text, or has one that takes none
abbrev mutual
  pub sorted : Sorted → List Word → Option Sorted
  sorted s [] = Some s
  sorted s (word ∷ words) =
      if bytes_eq word (codes "--") then Some (with_others words s)
      else option_map_or (λ k.
      if takes_text k
      then option_map_or (λ text. sorted (with_text k (spelled word).0 text s) words) (spelled word).1
      (sorted_text (λ text. with_text k (spelled word).0 text s) words)
      else if is_some (spelled word).1 then None
      else sorted (with_alone k (spelled word).0 s) words)
      (kind_of (spelled word).0)
      (if is_like_option word then None else sorted (with_other word s) words)

  -- the same after an option whose text is the next word
  pub sorted_text : (Word → Sorted) → List Word → Option Sorted
  sorted_text with [] = None
  sorted_text with (text ∷ words) = sorted (with text) words

-- how many arguments stand before the section of a command that has one
abbrev pub before_section : Word → Option ℕ
before_section command =
    if bytes_eq command (codes "keys") || bytes_eq command (codes "delete-section")
    || bytes_eq command (codes "add-section") then Some 1
    else if bytes_eq command (codes "get") || bytes_eq command (codes "delete")
    || bytes_eq command (codes "unset-all") || bytes_eq command (codes "comment")
    || bytes_eq command (codes "uncomment") then Some 2
    else if bytes_eq command (codes "set") || bytes_eq command (codes "add")
    || bytes_eq command (codes "rename-key") then Some 3
    else None

-- the command with so many arguments takes a section that is named by itself, if one is
abbrev pub takes_section : Word → ℕ → Bool → Bool
takes_section command count named =
    not named || option_map_or (λ before. before == count) (before_section command) false

-- where no dialect is named, this one
abbrev pub or_like : Option Word → Sorted → Sorted
or_like name s = record s { like = option_or s.like name }

-- the encoding that is named, if one is; None where no encoding has the name
abbrev pub encoding_asked : Sorted → Option (Option encodings.Encoding)
encoding_asked s = option_map_or (λ name. option_map Some (encoding_of name)) s.encoding (Some None)

-- the words that name a dialect
abbrev pub like_words : Option Word → List Word
like_words None = []
like_words (Some name) = codes "--like" ∷ name ∷ []

-- what stands before the command
unfoldable pub front_words : Sorted → List Word
front_words s = like_words s.like ++ s.options

-- the command sets a list of values
abbrev pub sets_all : Word → List Word → Bool
sets_all command choices =
    bytes_eq command (codes "set") && nat_lt 0 (count_by (λ word. bytes_eq word (codes "--all")) choices)

-- the words that name the section of such a command
abbrev pub section_words : Option Word → List Word
section_words None = []
section_words (Some name) = codes "--section" ∷ name ∷ []

-- such a command and its arguments in order, between the others
abbrev pub list_in_order : Sorted → Word → List Word → List Word
list_in_order s command arguments =
    front_words s ++ command ∷ (s.choices ++ (section_words s.section ++ codes "--" ∷ arguments))

-- the command and its arguments in order, between the others
abbrev pub in_order_after : Sorted → List Word → Option (List Word)
in_order_after s [] = None
in_order_after s (command ∷ arguments) =
    if sets_all command s.choices then Some (list_in_order s command arguments)
    else if takes_section command (length arguments) (is_some s.section)
    then Some (front_words s ++ command ∷ (s.choices ++ codes "--" ∷ (arguments ++ option_to_list s.section)))
    else None

-- sorted words in order; None where the command is missing, or doesn't take the section that is named
abbrev pub in_order : Sorted → Option (List Word)
in_order s = in_order_after s s.others

-- help is asked for, by an option or as a command
abbrev pub is_help : List Word → Bool
is_help [] = false
is_help (command ∷ arguments) = bytes_eq command (codes "help")

abbrev pub asks_help : Sorted → Bool
asks_help s = s.help || is_help s.others

-- the command that help is asked of; None where it is of all
abbrev pub helped : List Word → Option Word
helped [] = None
helped (command ∷ arguments) =
    if bytes_eq command (codes "help") then slice_get arguments 0 else Some command

abbrev pub command_of_help : Sorted → Option Word
command_of_help s = helped s.others

-- borrowed words
abbrev pub words_of : List (Bor (List ℕ)) → List Word
words_of words = map (λ word. word.now) words

-- sorted words that are kept as borrowed ones
abbrev pub sorted_of : sorted_words.Sorted → Sorted
sorted_of s = record {
  options = words_of s.options.items;
  choices = words_of s.choices.items;
  section = option_map (λ name. name.now) s.section;
  like = option_map (λ name. name.now) s.like;
  encoding = option_map (λ name. name.now) s.encoding;
  help = s.help;
  others = words_of s.others.items;
}
