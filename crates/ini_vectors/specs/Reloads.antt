-- What loading answers of a text's outcome.
use Rattle.std.specs.Prelude.{◌≡◌, Ok, Err, Result, count_by, ⊤}
use Rattle.ini_text.specs.Grammar.CharacterKinds.{is_line_feed}
use Rattle.ini_text.specs.declared.error.Error.{Error}
use Rattle.ini_text.specs.declared.error.Error.TheVariants.{NotUtf8, Parse}
use Rattle.ini_text.specs.declared.option.ParseOption.{ParseOption}
use Rattle.ini_text.specs.declared.write.option.WriteOption.{WriteOption}
use Rattle.ini.specs.Documents.{Document}
use Rattle.ini.specs.Outcomes.{HasOutcome, Outcome, after, loaded, refused}
use Rattle.ini.specs.Texts.{Text}
use Rattle.ini.specs.Written.{written}

-- neither the text nor its bytes were refused: memory was
abbrev pub IsNoRefusal : Error → Type 0
IsNoRefusal (Parse _) = ⊥
IsNoRefusal NotUtf8 = ⊥
IsNoRefusal _ = ⊤

-- the answer is this outcome, out of memory aside
abbrev pub TellsOutcome : Outcome → Result Document Error → Type 0
TellsOutcome (loaded d) (Ok e) = e ≡ d
TellsOutcome (refused kind line column) (Err (Parse fault)) =
    (fault.kind ≡ kind) × (fault.line ≡ line) × (fault.col ≡ column)
TellsOutcome (refused kind line column) (Ok e) = ⊥
TellsOutcome x (Err e) = IsNoRefusal e

-- the answer is what comes of the text
abbrev pub TellsOutcomeOf : ParseOption → Text → Result Document Error → Type 0
TellsOutcomeOf o T result = (x : Outcome) → HasOutcome o T x → TellsOutcome x result

-- the answer is what comes of the text Y, after the document
abbrev pub TellsOutcomeAfter : ParseOption → WriteOption → Document → Text → Result Document Error → Type 0
TellsOutcomeAfter o w d Y result =
    let lines = count_by is_line_feed (written d w) in
    (x : Outcome) → HasOutcome o Y x → TellsOutcome (after d lines x) result
