-- Texts in which traps are mended: element by element, and only where that makes the text better.
use Rattle.std.specs.Prelude.{◌≡◌, ◌&&◌, ◌+◌, not, nat_lt, Bool, true, false, [], ◌∷◌, ◌++◌, ℕ, List}
use Rattle.std.specs.Prelude.{if◌then◌else◌, chars}
use Rattle.std.specs.Str.{bytes_eq}
use Rattle.ini_text.specs.Parsing.Places.{StandsBetween}
use Rattle.ini_text.specs.declared.error.ParseError.{ParseError}
use Rattle.ini_text.specs.declared.option.ParseOption.{ParseOption}
use Rattle.ini_text.specs.declared.parser.placed.Content.{Content}
use Rattle.ini_text.specs.declared.parser.placed.PlacedElement.{PlacedElement}
use Rattle.ini.specs.Loading.{IsStopOf}
use Rattle.ini.specs.Texts.{Text}
use Rattle.ini_check.specs.Kinds.{name}
use Rattle.ini_check.specs.Mends.Elements.{mended}
use Rattle.ini_check.specs.Warnings.{AreWarningsOf}
use Rattle.ini_check.specs.declared.warning.Trap.{Trap}
use Rattle.ini_check.specs.declared.warning.Trap.TheVariants as traps
use Rattle.ini_check.specs.declared.warning.Warning.{Warning}

-- the traps that have a mend, in the order in which they are mended
abbrev pub mended_traps : List Trap
mended_traps = traps.LoneCr ∷ traps.UnclosedBracket ∷ traps.UnclosedQuote ∷ traps.JoinedLine
    ∷ traps.CommentRunsOn ∷ traps.MarkBeginsKey ∷ traps.EscapeInName ∷ traps.EscapeInKey ∷ traps.Escape ∷ []

-- a trap that a mend must not make: lines are lost, or half of quotes is left, and no mend helps
abbrev pub hurts : Trap → Bool
hurts traps.RunsOn = true
hurts traps.DroppedLine = true
hurts traps.LoneCr = true
hurts traps.HeaderInValue = true
hurts traps.PairInValue = true
hurts traps.TextAfterQuote = true
hurts traps.HalfQuote = true
hurts _ = false

-- how many warnings are of the trap, and how many of traps that hurt
abbrev pub count_of : Trap → List Warning → ℕ
count_of trap [] = 0
count_of trap (w ∷ ws) =
    if bytes_eq (name w.trap) (name trap) then 1 + count_of trap ws else count_of trap ws

abbrev pub count_hurting : List Warning → ℕ
count_hurting [] = 0
count_hurting (w ∷ ws) = if hurts w.trap then 1 + count_hurting ws else count_hurting ws

-- fewer warnings are of the trap, and no more of traps that hurt
abbrev pub is_better : Trap → List Warning → List Warning → Bool
is_better trap olds news =
    nat_lt (count_of trap news) (count_of trap olds)
    && not (nat_lt (count_hurting olds) (count_hurting news))

-- whether the new text is better than the old one: both are read, and its warnings are better
pub data IsJudged (o : ParseOption) (trap : Trap) (old new : Text) : Bool → Type 0 where
  old_refused : (e : ParseError) → IsStopOf o old e → IsJudged o trap old new false
  new_refused : (e : ParseError) → IsStopOf o new e → IsJudged o trap old new false
  compared : (olds news : List Warning) → AreWarningsOf o old olds → AreWarningsOf o new news
      → IsJudged o trap old new (is_better trap olds news)

-- an element's source becomes the mended one, where that, read by itself, is better than the old one
pub data BecomesMended (o : ParseOption) (trap : Trap) (source : Text) (content : Content)
    : Text → Type 0 where
  unchanged : mended o trap source content ≡ source → BecomesMended o trap source content source
  judged : (is_so : Bool) → IsJudged o trap source (mended o trap source content) is_so
      → BecomesMended o trap source content (if is_so then mended o trap source content else source)

-- up to a front of the text T elements became mended ones, which make up the last text
pub data MendsUpTo (o : ParseOption) (trap : Trap) (T : Text) : Text → Text → Type 0 where
  front : MendsUpTo o trap T [] []
  following : {b c made : Text} (e : PlacedElement) (source : Text) → MendsUpTo o trap T b made
      → StandsBetween o T b c e → BecomesMended o trap (chars e.source.now) e.content source
      → MendsUpTo o trap T c (made ++ source)

-- each element of the text became the mended one of the other
abbrev pub AreMended : ParseOption → Trap → Text → Text → Type 0
AreMended o trap old new = MendsUpTo o trap old old new

-- The first text becomes the last one: trap after trap its elements are mended, each as often as the whole
-- text gets better by it. Where no warning is of the trap nothing is mended.
pub data IsMended (o : ParseOption) : List Trap → Text → Text → Type 0 where
  done : {T : Text} → IsMended o [] T T
  none : {trap : Trap} {traps : List Trap} {T last : Text} (ws : List Warning) → AreWarningsOf o T ws
      → count_of trap ws ≡ 0 → IsMended o traps T last → IsMended o (trap ∷ traps) T last
  better : {trap : Trap} {traps : List Trap} {old new last : Text} → AreMended o trap old new
      → IsJudged o trap old new true → IsMended o (trap ∷ traps) new last
      → IsMended o (trap ∷ traps) old last
  no_better : {trap : Trap} {traps : List Trap} {old new last : Text} → AreMended o trap old new
      → IsJudged o trap old new false → IsMended o traps old last → IsMended o (trap ∷ traps) old last
