-- Where and why reading a text stops, as C gets it.
use Rattle.std.specs.Prelude.{◌≡◌, ℕ, List, Some, take, length, min, slice_get}
use Rattle.std.specs.Cow.{cow_str_bytes}
use Rattle.ini.specs.Texts.{Text}
use Rattle.ini_text.specs.Errors.Messages.{HasMessage}
use Rattle.ini_text.specs.Grammar.Texts.{Stops}
use Rattle.ini_text.specs.Grammar.Positions.{column_of, line_of}
use Rattle.ini_text.specs.declared.error.ParseError.{ParseError}
use Rattle.ini_text.specs.declared.error.ParseKind.{ParseKind}
use Rattle.ini_text.specs.declared.error.ParseKind.TheVariants.{EndOfText, BrokenEscape, UnknownCharacter}
use Rattle.ini_text.specs.declared.error.ParseKind.TheVariants.{InlineComment, MissingKey, CrAlone}
use Rattle.ini_text.specs.declared.error.ParseKind.TheVariants.{HeaderEnd, NoSeparator}
use Rattle.ini_text.specs.declared.option.ParseOption.{ParseOption}
use Rattle.ini_c.specs.declared.fault.Fault.{Fault}

-- the number of a kind
abbrev pub kind_number : ParseKind → ℕ
kind_number EndOfText = 1
kind_number BrokenEscape = 2
kind_number UnknownCharacter = 3
kind_number InlineComment = 4
kind_number MissingKey = 5
kind_number CrAlone = 6
kind_number HeaderEnd = 7
kind_number NoSeparator = 8

-- how many bytes of the words are shown: there is room for 63, and a 0 after them
abbrev pub shown_count : List ℕ → ℕ
shown_count words = min (length words) 63

-- the words, as far as there is room, and a 0 after them
pub record ShowsWords (words bytes : List ℕ) : Type 0 where
  pub front : take (shown_count words) bytes ≡ take (shown_count words) words
  pub zero : slice_get bytes (shown_count words) ≡ Some 0

-- the fault tells kind, line, column and message of this one
pub record TellsParseError (stop : ParseError) (f : Fault) : Type 0 where
  pub kind : f.kind ≡ kind_number stop.kind
  pub line : f.line ≡ stop.line
  pub column : f.column ≡ stop.col
  pub message : ShowsWords (cow_str_bytes stop.msg) f.message

-- reading the text stops at the end of a front, and the fault tells kind, line, column and message
pub record IsStopAt (o : ParseOption) (T : Text) (f : Fault) : Type 0 where
  pub kind : ParseKind
  pub front : Text
  pub stops : Stops o T kind front
  pub number : f.kind ≡ kind_number kind
  pub line : f.line ≡ line_of front
  pub column : f.column ≡ column_of front
  pub words : List ℕ
  pub message : HasMessage kind words
  pub shows : ShowsWords words f.message
