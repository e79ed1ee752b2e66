-- How a comparison of two files ends, and its exit status.
use Rattle.std.specs.Prelude.{◌≡◌, ◌==◌, ℕ, Bool, false, true, if◌then◌else◌, List, [], ◌++◌, flat_map, map}
use Rattle.std.specs.Prelude.{vec_len}
use Rattle.ini_text.specs.Parsing.ByteOrderMarks.{without_byte_order_mark}
use Rattle.ini_text.specs.declared.error.Error.{Error}
use Rattle.ini_text.specs.declared.option.ParseOption.{ParseOption}
use Rattle.ini.specs.Documents.{Document}
use Rattle.ini.specs.Loading.{IsTextWith}
use Rattle.ini_edit.specs.Sources.{Pieces}
use Rattle.ini_dialect.specs.Flattened.{flattened}
use Rattle.ini_layers.specs.Comments.{commented}
use Rattle.ini_layers.specs.Differences.{SettingChange, difference, setting_change}
use Rattle.ini_layers.specs.Settings.{flat_by}
use Rattle.ini_layers.specs.declared.change.Change.{Change}
use Rattle.ini_file.specs.ChangeLines.{change_line, comment_line}
use Rattle.ini_file.specs.EditLines.{edit_line}
use Rattle.ini_file.specs.JsonLines.{json_line}
use Rattle.ini_file.specs.Merges.{Loads, RefusesFile}
use Rattle.ini_file.specs.OtherValues.{others_told}
use Rattle.ini_file.specs.Ruled.{RuledBy}
use Rattle.ini_file.specs.ThreeWays.{AreOfText}
use Rattle.ini_file.specs.declared.compare.CompareEnd.{CompareEnd}
use Rattle.ini_file.specs.declared.compare.CompareEnd.TheVariants.{Done, From, To}
use Rattle.ini_file.specs.declared.compare.ComparedFiles.{ComparedFiles}
use Rattle.ini_file.specs.declared.compare.Telling.{Telling}
use Rattle.ini_file.specs.declared.manner.AnswerForm.{AnswerForm}
use Rattle.ini_file.specs.declared.manner.AnswerForm.TheVariants.{Edits, Json}

-- the lines of changes in JSON, of changes that are lent
pub record AreJsonLines (changes : List SettingChange) (lines : List ℕ) : Type 0 where
  pub lent : List Change
  pub are_lent : map setting_change lent ≡ changes
  pub are_lines : lines ≡ flat_map json_line lent

-- the lines of changes in a form; no other one is of `diff`
abbrev pub AreLinesOf : AnswerForm → Bool → List SettingChange → List ℕ → Type 0
AreLinesOf Json is_colored changes lines = AreJsonLines changes lines
AreLinesOf Edits is_colored changes lines = lines ≡ flat_map edit_line changes
AreLinesOf _ is_colored changes lines = lines ≡ flat_map (change_line is_colored) changes

-- those of the settings that differ between two documents, under the rule
abbrev pub AreChangeLines : RuledBy → Telling → (first second : Document) → List ℕ → Type 0
AreChangeLines r t first second lines = AreLinesOf t.form t.is_colored
    (difference (flat_by r.which r.rule first) (flat_by r.which r.rule second)) lines

-- the comments above the pairs of the file that count under the rule
pub record HasComments (r : RuledBy) (file : List ℕ) (comments : Document) : Type 0 where
  pub pieces : Pieces
  pub are_read : IsTextWith (λ T. AreOfText r.options.reading T pieces) (without_byte_order_mark file)
  pub are_comments : comments ≡ flattened r.rule (commented pieces)

-- the lines of those that differ
pub record HasCommentLines (r : RuledBy) (is_colored : Bool) (from to lines : List ℕ) : Type 0 where
  pub old : Document
  pub new : Document
  pub are_old : HasComments r from old
  pub are_new : HasComments r to new
  pub are_lines : lines ≡ flat_map (comment_line is_colored) (difference old new)

-- those that are told: none where they aren't asked for
abbrev pub AreCommentsTold : Bool → RuledBy → Bool → (from to lines : List ℕ) → Type 0
AreCommentsTold false r is_colored from to lines = lines ≡ []
AreCommentsTold true r is_colored from to lines = HasCommentLines r is_colored from to lines

-- what is told of files that have these documents
pub record AreTold (r : RuledBy) (t : Telling) (from to : List ℕ) (first second : Document)
    (files : ComparedFiles) : Type 0 where
  pub settings : List ℕ
  pub comments : List ℕ
  pub lines : files.lines.items ≡ settings ++ comments
  pub are_settings : AreChangeLines r t first second settings
  pub are_comments : AreCommentsTold t.with_comments r t.is_colored from to comments
  pub others : files.others.items ≡ others_told r.which r.rule first second

-- the files have documents, and that is told of them
pub record AreDifferences (r : RuledBy) (t : Telling) (from to : List ℕ) (files : ComparedFiles)
    : Type 0 where
  pub first : Document
  pub second : Document
  pub is_first : Loads r.options.reading from first
  pub is_second : Loads r.options.reading to second
  pub are_told : AreTold r t from to first second files

-- the second file has no document, and the first has one
pub record RefusesSecond (o : ParseOption) (from to : List ℕ) (e : Error) : Type 0 where
  pub first : Document
  pub is_first : Loads o from first
  pub is_refused : RefusesFile o to e

-- how a comparison of files with these bytes ends
abbrev pub HasComparison : RuledBy → Telling → (from to : List ℕ) → CompareEnd → Type 0
HasComparison r t from to (Done files) = AreDifferences r t from to files
HasComparison r t from to (From e) = RefusesFile r.options.reading from e
HasComparison r t from to (To e) = RefusesSecond r.options.reading from to e

-- the exit status: 1 where a setting or a comment differs, and 2 after a refusal
abbrev pub compare_status : CompareEnd → ℕ
compare_status (Done files) = if vec_len files.lines == 0 then 0 else 1
compare_status _ = 2
