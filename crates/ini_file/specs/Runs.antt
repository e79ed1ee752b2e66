-- What a run of a command is, as a function of a file's bytes.
use Rattle.std.specs.Prelude.{◌≡◌, ℕ, List, Option, Some, None, ⊤, ◌++◌, codes, encode_utf8_all}
use Rattle.std.specs.Str.{IsUtf8}
use Rattle.std.specs.declared.alloc.Global.{Global}
use Rattle.std.specs.declared.vec.Vec.{Vec}
use Rattle.ini_text.specs.Parsing.ByteOrderMarks.{without_byte_order_mark}
use Rattle.ini_text.specs.declared.error.Error.TheVariants.{Io, Parse, Memory, NotUtf8, NoProgress}
use Rattle.ini_text.specs.declared.write.option.WriteOption.{WriteOption}
use Rattle.ini.specs.Documents.{Document}
use Rattle.ini.specs.Loading.{IsDocumentOf, IsStopOf, IsTextWith}
use Rattle.ini.specs.Texts.{Text}
use Rattle.ini_edit.specs.declared.error.EditError.{EditError}
use Rattle.ini_edit.specs.declared.error.EditError.TheVariants as refusal
use Rattle.ini_dialect.specs.declared.rule.Lookup.{Lookup}
use Rattle.ini_words.specs.Words.{Word}
use Rattle.ini_words.specs.declared.options.Options.{Options}
use Rattle.ini_file.specs.Bytes.{byte_order_mark_of}
use Rattle.ini_file.specs.Edits.{HasNothingBy, HasWritableWords, IsChanged, RefusesEdit}
use Rattle.ini_dialect.specs.Rules.{is_own}
use Rattle.ini_file.specs.Further.{HasNothingFurther, IsFurtherChanged, RefusesFurther}
use Rattle.ini_file.specs.Outputs.{output}
use Rattle.ini_file.specs.Requests.{Asking, Asks, Request, Ask, Change, Further, separator_asked}
use Rattle.ini_file.specs.Writing.{IsWriting, Separates}
use Rattle.ini_file.specs.declared.coding.CodingError.TheVariants as coded
use Rattle.ini_file.specs.declared.coding.FileError.{FileError}
use Rattle.ini_file.specs.declared.coding.FileError.TheVariants as file_refusal
use Rattle.ini_file.specs.declared.run.Outcome.{Outcome}
use Rattle.ini_file.specs.declared.run.Outcome.TheVariants.{Done, NotFound, Usage, Refused, Coding}

-- what a question is answered of the document that a text gives; no text where what it asks for isn't there
pub record IsAnswer (o : Options) (separator : Option Word) (q : Asking) (T : Text) (out : Option Text)
    : Type 0 where
  pub option : WriteOption
  pub document : Document
  pub is_option : IsWriting o separator option
  pub separates : Separates separator
  pub loaded : IsDocumentOf o.reading T document
  pub is_output : out ≡ output option q document

-- the bytes are what the request asks to be written of a file with this mark and text, edited under the rule
abbrev pub IsWritten : Lookup → Options → Option Word → Request → List ℕ → Text → List ℕ → Type 0
IsWritten rule o separator (Ask q) byte_order_mark T bytes =
    (out : Text) × IsAnswer o separator q T (Some out) × bytes ≡ encode_utf8_all out
IsWritten rule o separator (Change e) byte_order_mark T bytes =
    IsChanged rule o separator e byte_order_mark T bytes
IsWritten rule o separator (Further e) byte_order_mark T bytes =
    IsFurtherChanged rule o separator e byte_order_mark T bytes

-- what the request is about isn't in the text, and it has no word that can't be written
abbrev pub IsAbsent : Lookup → Options → Option Word → Request → Text → Type 0
IsAbsent rule o separator (Ask q) T = IsAnswer o separator q T None
IsAbsent rule o separator (Change e) T =
    HasNothingBy (is_own rule) rule o.reading e T
    × HasWritableWords (is_own rule) o.reading o.escape_policy e
IsAbsent rule o separator (Further e) T = HasNothingFurther rule o.reading e T

-- what a question is refused with: a separator that isn't read back, whatever the text is; else the text's
-- fault, or memory's
abbrev pub RefusesQuestion : Options → Option Word → Text → EditError → Type 0
RefusesQuestion o separator T refusal.Separator = ¬ Separates separator
RefusesQuestion o separator T (refusal.Text (Parse e)) = Separates separator × IsStopOf o.reading T e
RefusesQuestion o separator T (refusal.Text (Memory _)) = Separates separator
RefusesQuestion o separator T _ = ⊥

-- what a request is refused with
abbrev pub RefusesRequest : Lookup → Options → Option Word → Request → List ℕ → Text → EditError → Type 0
RefusesRequest rule o separator (Ask q) byte_order_mark T refused = RefusesQuestion o separator T refused
RefusesRequest rule o separator (Change e) byte_order_mark T refused =
    RefusesEdit rule o separator e byte_order_mark T refused
RefusesRequest rule o separator (Further e) byte_order_mark T refused =
    RefusesFurther rule o separator e byte_order_mark T refused

-- how a run ends that asks for the request of a file with this mark and text
abbrev pub EndsAs : Lookup → Options → Option Word → Request → List ℕ → Text → Outcome → Type 0
EndsAs rule o separator r byte_order_mark T (Done bytes) =
    IsWritten rule o separator r byte_order_mark T bytes.items
EndsAs rule o separator r byte_order_mark T NotFound = IsAbsent rule o separator r T
EndsAs rule o separator r byte_order_mark T Usage = ⊥
EndsAs rule o separator r byte_order_mark T (Refused refused) =
    RefusesRequest rule o separator r byte_order_mark T refused
EndsAs rule o separator r byte_order_mark T (Coding _) = ⊥

-- the same of a file's bytes, which may be no text
abbrev pub EndsOn : List ℕ → Asks → Outcome → Type 0
EndsOn input a (Refused (refusal.Text NotUtf8)) = ¬ (IsUtf8 (without_byte_order_mark input))
EndsOn input a end =
    IsTextWith (λ T. EndsAs a.dialect.lookup a.options (Some (separator_asked a)) a.request
    (byte_order_mark_of input) T end) (without_byte_order_mark input)

-- the bytes that a call answers are those that answer the question; none where what it asks for isn't there
abbrev pub IsAnsweredAs : Options → Option Word → Asking → Text → Option (Vec ℕ Global) → Type 0
IsAnsweredAs o separator q T None = IsAnswer o separator q T None
IsAnsweredAs o separator q T (Some bytes) =
    (out : Text) × IsAnswer o separator q T (Some out) × bytes.items ≡ encode_utf8_all out

abbrev pub IsDone : Outcome → Type 0
IsDone (Done _) = ⊤
IsDone _ = ⊥

abbrev pub IsNotFound : Outcome → Type 0
IsNotFound NotFound = ⊤
IsNotFound _ = ⊥

abbrev pub IsUsage : Outcome → Type 0
IsUsage Usage = ⊤
IsUsage _ = ⊥

-- the exit status
abbrev pub status_of : Outcome → ℕ
status_of (Done _) = 0
status_of NotFound = 1
status_of Usage = 2
status_of (Refused (refusal.Text (Parse _))) = 3
status_of (Refused (refusal.Text NotUtf8)) = 3
status_of (Refused (refusal.Text (Io _))) = 4
status_of (Refused (refusal.Text (Memory _))) = 4
status_of (Refused (refusal.Text NoProgress)) = 4
status_of (Refused refusal.NoPlace) = 3
status_of (Refused refusal.Name) = 2
status_of (Refused refusal.Key) = 2
status_of (Refused refusal.Value) = 2
status_of (Refused refusal.Separator) = 2
status_of (Coding (coded.Malformed _ _ _)) = 3
status_of (Coding (coded.NoBytes _ _ _ _)) = 2

-- how a run ends of which a file is refused
abbrev pub outcome_of : FileError → Outcome
outcome_of (file_refusal.Text refused) = Refused (refusal.Text refused)
outcome_of (file_refusal.Coding refused) = Coding refused

-- what is reported of words that are none of the program's
abbrev pub usage_line : List ℕ
usage_line =
    codes "usage: ini_file [--like NAME] [--encoding NAME] [--noescape] [--noquote] [--multiline] [--indent] "
    ++ codes "[--brackets] [--raw-backslash] [--indented-comments] [--inline-comments] [--lone-lines NAME] "
    ++ codes "[--crlf] [--policy NAME] "
    ++ codes "COMMAND [CHOICE].. [--] FILE [ARGUMENT]..\n"
