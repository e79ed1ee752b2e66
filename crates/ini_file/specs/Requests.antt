-- What the program may be asked to do with a file.
use Rattle.std.specs.Prelude.{Bool, Option, None, Some, unwrap_or}
use Rattle.ini.specs.Texts.{Text, str_name, str_text}
use Rattle.ini_edit.specs.Editings.{Editing, editing_of}
use Rattle.ini_dialect.specs.Dialects.{Preset, shown}
use Rattle.ini_dialect.specs.declared.rule.Lookup.{Lookup}
use Rattle.ini_words.specs.Words.{Word}
use Rattle.ini_words.specs.declared.options.Options.{Options}
use Rattle.ini_file.specs.Choices.{Chosen, chosen_of}
use Rattle.ini_file.specs.Further.{FurtherEditing, further_of}
use Rattle.ini_file.specs.declared.words.Invocation.{Invocation}
use Rattle.ini_file.specs.declared.words.Command.{Command}
use Rattle.ini_file.specs.declared.words.Command.TheVariants as command
use Rattle.ini_file.specs.declared.words.Question.{Question}
use Rattle.ini_file.specs.declared.words.Question.TheVariants as question

-- Under a rule, which says which sections, values and keys count. Where no section is named it is the
-- general one. With `null` names, keys and values are written as they stand, with NUL after each; with
-- `all` each value of the key is got, and the name of each section listed; with a default that where there is
-- none.
pub data Asking : Type 0 where
  Rewrite : Asking
  Listing : (null : Bool) → Asking
  Sections : (rule : Lookup) (null all : Bool) → Asking
  Keys : (rule : Lookup) (null : Bool) (section : Option Text) → Asking
  Get : (rule : Lookup) (null all : Bool) (key : Text) (section default : Option Text) → Asking

-- to write something of the file's document, or to change its text
pub data Request : Type 0 where
  Ask : Asking → Request
  Change : Editing → Request
  Further : FurtherEditing → Request

abbrev pub asking_of : Question → Asking
asking_of (question.List null) = Listing null
asking_of (question.Sections rule null all) = Sections rule null all
asking_of (question.Keys rule section null) = Keys rule null (str_name section)
asking_of (question.Get l) =
    Get l.rule l.null l.all (str_text l.key) (str_name l.section) (str_name l.default)

-- the request that a command stands for
abbrev pub request_of : Command → Request
request_of command.Rewrite = Ask Rewrite
request_of (command.Ask q) = Ask (asking_of q)
request_of (command.Change e) = Change (editing_of e)
request_of (command.Further e) = Further (further_of e)

-- the change of the list that is asked for, if one is
abbrev pub edit_asked : Request → Option Editing
edit_asked (Ask q) = None
edit_asked (Change e) = Some e
edit_asked (Further e) = None

-- what the words of the program ask for
pub record Asks : Type 0 where
  pub dialect : Preset
  pub options : Options
  pub choices : Chosen
  pub file : Word
  pub request : Request

-- what stands between key and value of new lines
abbrev pub separator_asked : Asks → Word
separator_asked a = unwrap_or a.choices.separator a.dialect.kv_separator

abbrev pub asks_of : Invocation → Asks
asks_of a = record {
  dialect = shown a.dialect.now;
  options = a.options;
  choices = chosen_of a.choices;
  file = a.file.now;
  request = request_of a.command;
}
