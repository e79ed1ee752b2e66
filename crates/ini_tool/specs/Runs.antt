-- What a run of the program is, as a function of its words and of the bytes that it reads.
use Rattle.std.specs.Prelude.{◌≡◌, ℕ, Bool, true, false, List, Option, Some, Result, Ok, Err, ⊤, IfSome}
use Rattle.std.specs.Prelude.{◌++◌, codes, encode_utf8_all, map, string_bytes, String}
use Rattle.std.specs.Str.{IsUtf8}
use Rattle.std.specs.declared.alloc.Global.{Global}
use Rattle.ini_text.specs.Device.Watched.{WritesAll, WritesFront}
use Rattle.ini_text.specs.Parsing.ByteOrderMarks.{text_bytes}
use Rattle.ini_text.specs.declared.device.Watched.{Watched}
use Rattle.ini_text.specs.declared.error.Error.{Error}
use Rattle.ini_text.specs.declared.error.Error.TheVariants.{Io, Parse, Memory, NotUtf8, NoProgress}
use Rattle.ini_text.specs.declared.error.ParseError.{ParseError}
use Rattle.ini_text.specs.declared.write.option.WriteOption.{WriteOption}
use Rattle.ini.specs.Documents.{Document}
use Rattle.ini.specs.Loading.{IsDocumentOf, IsStopOf, IsTextWith}
use Rattle.ini.specs.Texts.{Text}
use Rattle.ini_words.specs.Words.{IsWriteOption, default_options}
use Rattle.ini_words.specs.declared.options.Options.{Options}
use Rattle.ini_tool.specs.Outputs.{output}
use Rattle.ini_tool.specs.Requests.{Request}
use Rattle.ini_tool.specs.Words.{asks_of_words}
use Rattle.ini_tool.specs.declared.run.Outcome.{Outcome}
use Rattle.ini_tool.specs.declared.run.Outcome.TheVariants.{Done, NotFound, Usage, Refused}

-- the options and the request of the words, if they are the program's
abbrev pub asked_by : List (String Global) → Option (Options × Request)
asked_by words = asks_of_words default_options (map string_bytes words)

-- what the words ask to be written of the document that the input gives without a mark;
-- no text where the pair that they ask for isn't there
pub record IsOutput (words : List (String Global)) (input : List ℕ) (out : Option Text) : Type 0 where
  pub options : Options
  pub request : Request
  pub option : WriteOption
  pub document : Document
  pub asks : asked_by words ≡ Some (options, request)
  pub is_option : IsWriteOption options option
  pub loaded : IsTextWith (λ T. IsDocumentOf options.reading T document) (text_bytes true input)
  pub is_output : out ≡ output option request document

-- the words' options stop reading the input's text where the error says
abbrev pub IsStop : List (String Global) → ParseError → List ℕ → Type 0
IsStop words e input =
    IfSome (asked_by words) (λ a. IsTextWith (λ T. IsStopOf a.0.reading T e) (text_bytes true input))

-- the input without a mark is UTF-8
abbrev pub IsText : List ℕ → Type 0
IsText bytes = IsUtf8 (text_bytes true bytes)

abbrev pub IsDone : Outcome → Type 0
IsDone Done = ⊤
IsDone _ = ⊥

abbrev pub IsNotFound : Outcome → Type 0
IsNotFound NotFound = ⊤
IsNotFound _ = ⊥

abbrev pub IsUsage : Outcome → Type 0
IsUsage Usage = ⊤
IsUsage _ = ⊥

-- what holds where the text was refused
abbrev pub OnParse : Outcome → (ParseError → Type 0) → Type 0
OnParse (Refused (Parse e)) P = P e
OnParse _ P = ⊤

-- what holds where the bytes were no text
abbrev pub OnNotUtf8 : Outcome → Type 0 → Type 0
OnNotUtf8 (Refused NotUtf8) P = P
OnNotUtf8 _ P = ⊤

-- what holds but where the run is done, or a device failed: there nothing may have been written
abbrev pub OnSilent : Outcome → Type 0 → Type 0
OnSilent Done P = ⊤
OnSilent (Refused (Io _)) P = ⊤
OnSilent (Refused NoProgress) P = ⊤
OnSilent _ P = P

-- the words ask for an output of the input, and P holds of its bytes
abbrev pub HasOutput : List (String Global) → (List ℕ → Type 0) → List ℕ → Type 0
HasOutput words P input = (text : Text) × IsOutput words input (Some text) × P (encode_utf8_all text)

module _ {W : Type 0} (contents : W → Option (List ℕ)) (words : List (String Global)) where
  -- the output was written, where it is known what is read; a front of it was
  abbrev pub WritesOutput : Option (List ℕ) → Watched W → Watched W → Type 0
  WritesOutput input old new = IfSome input (HasOutput words (WritesAll contents old new))

  abbrev pub WritesOutputFront : Option (List ℕ) → Watched W → Watched W → Type 0
  WritesOutputFront input old new = IfSome input (HasOutput words (WritesFront contents old new))

-- 1 where a device failed, else 0
abbrev pub failures_of : Outcome → ℕ
failures_of (Refused (Io _)) = 1
failures_of _ = 0

-- 1 where a write took no bytes, else 0
abbrev pub stalls_of : Outcome → ℕ
stalls_of (Refused NoProgress) = 1
stalls_of _ = 0

-- how a run ends whose command has answered
abbrev pub outcome_of : Result Bool Error → Outcome
outcome_of (Ok true) = Done
outcome_of (Ok false) = NotFound
outcome_of (Err refused) = Refused refused

-- the exit status
abbrev pub status_of : Outcome → ℕ
status_of Done = 0
status_of NotFound = 1
status_of Usage = 2
status_of (Refused (Parse _)) = 3
status_of (Refused NotUtf8) = 3
status_of (Refused (Io _)) = 4
status_of (Refused (Memory _)) = 4
status_of (Refused NoProgress) = 4

-- what is reported of words that are none of the program's
abbrev pub usage_line : List ℕ
usage_line =
    codes "usage: ini_tool [--noescape] [--noquote] [--multiline] [--indent] [--brackets] "
    ++ codes "[--raw-backslash] [--indented-comments] [--inline-comments] [--lone-lines NAME] "
    ++ codes "[--crlf] [--policy NAME] "
    ++ codes "fmt|list|get KEY [SECTION]|set KEY VALUE [SECTION]|del KEY [SECTION]\n"
