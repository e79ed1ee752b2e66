-- What the program may be asked to do with a document.
use Rattle.std.specs.Prelude.{Option}
use Rattle.std.specs.Option.{option_map}
use Rattle.ini.specs.Texts.{Text, str_name, str_text}
use Rattle.ini_words.specs.declared.options.Options.{Options}
use Rattle.ini_tool.specs.declared.words.Change.{Change}
use Rattle.ini_tool.specs.declared.words.Change.TheVariants as change
use Rattle.ini_tool.specs.declared.words.Command.{Command}
use Rattle.ini_tool.specs.declared.words.Command.TheVariants.{Ask, Write}
use Rattle.ini_tool.specs.declared.words.Question.{Question}
use Rattle.ini_tool.specs.declared.words.Question.TheVariants as question

-- where no section is named it is the general one
pub data Request : Type 0 where
  Fmt : Request
  Listing : Request
  Get : (key : Text) (section : Option Text) → Request
  Set : (key value : Text) (section : Option Text) → Request
  Del : (key : Text) (section : Option Text) → Request

-- the request that a question stands for, that a change stands for, and that a command does
abbrev pub question_of : Question → Request
question_of question.List = Listing
question_of (question.Get key section) = Get (str_text key) (str_name section)

abbrev pub change_of : Change → Request
change_of change.Fmt = Fmt
change_of (change.Set key value section) = Set (str_text key) (str_text value) (str_name section)
change_of (change.Del key section) = Del (str_text key) (str_name section)

abbrev pub request_of : Command → Request
request_of (Ask question) = question_of question
request_of (Write change) = change_of change

-- what a parse of the words answers: the options, and the request that the command stands for
abbrev pub given_by : Option (Options × Command) → Option (Options × Request)
given_by parsed = option_map (λ p. (p.0, request_of p.1)) parsed
