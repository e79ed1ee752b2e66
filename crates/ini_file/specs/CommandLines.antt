-- What words ask for: which command they give, and what it is about.
use Rattle.std.specs.Prelude.{Bool, not, ◌&&◌, ◌||◌, ◌==◌, if◌then◌else◌, nat_lt, count_by, length}
use Rattle.std.specs.Prelude.{List, codes, Option, None, Some, is_none, is_some, option_and_then}
use Rattle.std.specs.Option.{option_map}
use Rattle.std.specs.Str.{bytes_eq}
use Rattle.ini_words.specs.Words.{Word}
use Rattle.ini_file.specs.CheckWords.{Checking, check_asked, checking_of}
use Rattle.ini_file.specs.Choices.{Chosen, are_of_saving, has_own_manner}
use Rattle.ini_file.specs.Fronts.{Called, Fronted, call_of, called, fronted}
use Rattle.ini_file.specs.MergeWords.{Merged, merge_asked, merging_of}
use Rattle.ini_file.specs.Requests.{Asks, asks_of}
use Rattle.ini_file.specs.SideWords.{Applied, Compared, ThreeFiles, applied_of, application_asked}
use Rattle.ini_file.specs.SideWords.{compared_of, comparison_asked, three_way_asked, three_way_of}
use Rattle.ini_file.specs.Words.{asks_of_call}
use Rattle.ini_file.specs.declared.command_line.CommandLine.{CommandLine}
use Rattle.ini_file.specs.declared.command_line.CommandLine.TheVariants as line

-- an answer of one file in a manner of its own is told; what else is asked of one file is `File`
pub data Line : Type 0 where
  Check : Checking → Line
  Merge : Merged → Line
  Layers : Called → Line
  Diff : Compared → Line
  Apply : Applied → Line
  MergeThree : ThreeFiles → Line
  Format : Called → Line
  Tell : Asks → Line
  File : Asks → Line

-- the command is over files alone
abbrev pub is_over_files : Word → Bool
is_over_files command = bytes_eq command (codes "merge") || bytes_eq command (codes "diff")
    || bytes_eq command (codes "apply") || bytes_eq command (codes "merge3")
    || bytes_eq command (codes "layers") || bytes_eq command (codes "format")

-- more than one of the files is standard input
abbrev pub reads_input_twice : List Word → Bool
reads_input_twice files = nat_lt 1 (count_by (λ file. bytes_eq file (codes "-")) files)

-- something is chosen that is about a file that is written
abbrev pub writes_file : Chosen → Bool
writes_file c = is_some c.output || (is_some c.wait || are_of_saving c.switches)

-- layers may be called so: of one file or folder at least
abbrev pub may_be_layers : Called → Bool
may_be_layers c = not (length c.words == 0)

-- a format may be called so: of one file at least, and of one alone where what is made goes to another; and
-- with `--check` no file is written
abbrev pub may_be_laid_out : Called → Bool
may_be_laid_out c =
    not (length c.words == 0) && ((is_none c.choices.output || length c.words == 1)
    && not (c.choices.switches.check && writes_file c.choices))

-- what is asked of one file
abbrev pub line_of_asks : Asks → Line
line_of_asks a = if has_own_manner a.choices then Tell a else File a

-- what a command over files asks for that is called so; of these one at most is standard input
abbrev pub line_over_files : Word → Called → Option Line
line_over_files command c =
    if reads_input_twice c.words then None
    else if bytes_eq command (codes "merge") then option_map Merge (merge_asked c)
    else if bytes_eq command (codes "diff") then option_map Diff (comparison_asked c)
    else if bytes_eq command (codes "apply") then option_map Apply (application_asked c)
    else if bytes_eq command (codes "merge3") then option_map MergeThree (three_way_asked c)
    else if bytes_eq command (codes "layers") then (if may_be_layers c then Some (Layers c) else None)
    else if bytes_eq command (codes "format") then (if may_be_laid_out c then Some (Format c) else None)
    else None

-- the same of any but a check
abbrev pub line_called : Word → Called → Option Line
line_called command c =
    if is_over_files command then line_over_files command c
    else option_map line_of_asks (asks_of_call command c)

-- the same after the front: a check has choices of its own
abbrev pub line_after : Fronted → Option Line
line_after f =
    if bytes_eq f.command (codes "check") then option_map Check (check_asked f)
    else option_and_then (line_called f.command) (called f)

-- what words ask for; None where they are none of the program's
abbrev pub line_asked : List Word → Option Line
line_asked words = option_and_then line_after (fronted words)

-- what is kept as borrowed words
abbrev pub line_of : CommandLine → Line
line_of (line.Check c) = Check (checking_of c)
line_of (line.Merge m) = Merge (merging_of m)
line_of (line.Layers c) = Layers (call_of c)
line_of (line.Diff c) = Diff (compared_of c)
line_of (line.Apply a) = Apply (applied_of a)
line_of (line.MergeThree m) = MergeThree (three_way_of m)
line_of (line.Format c) = Format (call_of c)
line_of (line.Tell a) = Tell (asks_of a)
line_of (line.File a) = File (asks_of a)
