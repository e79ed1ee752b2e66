-- What a run that finds no pair of a key is told of its text.
use Rattle.std.specs.Prelude.{◌≡◌, Bool, true, false, if◌then◌else◌, List, [], ◌∷◌, Option, None, Some}
use Rattle.ini_text.specs.declared.option.ParseOption.{ParseOption}
use Rattle.ini.specs.Texts.{Text}
use Rattle.ini_check.specs.Warnings.{AreWarningsOf}
use Rattle.ini_check.specs.declared.warning.Trap.{Trap}
use Rattle.ini_check.specs.declared.warning.Trap.TheVariants.{CommentRunsOn, DroppedLine, HeaderInValue}
use Rattle.ini_check.specs.declared.warning.Trap.TheVariants.{JoinedLine, LoneCr, MarkBeginsKey, PairInValue}
use Rattle.ini_check.specs.declared.warning.Trap.TheVariants.{RunsOn, UnclosedBracket, UnclosedQuote}
use Rattle.ini_check.specs.declared.warning.Warning.{Warning}

-- the trap hides a key: it swallows the key's line, or a comment mark begins the key
abbrev pub hides_key : Trap → Bool
hides_key UnclosedBracket = true
hides_key UnclosedQuote = true
hides_key JoinedLine = true
hides_key RunsOn = true
hides_key CommentRunsOn = true
hides_key DroppedLine = true
hides_key LoneCr = true
hides_key HeaderInValue = true
hides_key PairInValue = true
hides_key MarkBeginsKey = true
hides_key _ = false

-- the first warning of such a trap
abbrev pub first_hint : List Warning → Option Warning
first_hint [] = None
first_hint (w ∷ ws) = if hides_key w.trap then Some w else first_hint ws

-- what is told of a text, if anything is
pub record IsHint (o : ParseOption) (T : Text) (hint : Option Warning) : Type 0 where
  pub warnings : List Warning
  pub are_warnings : AreWarningsOf o T warnings
  pub is_first : hint ≡ first_hint warnings
