-- The traps' names and levels, as users give them.
use Rattle.std.specs.Prelude.{codes, ℕ, List, Option, None, Some, if◌then◌else◌}
use Rattle.std.specs.Str.{bytes_eq}
use Rattle.ini_check.specs.declared.warning.Level.{Level}
use Rattle.ini_check.specs.declared.warning.Level.TheVariants.{LosesData, Surprises}
use Rattle.ini_check.specs.declared.warning.Trap.{Trap}
use Rattle.ini_check.specs.declared.warning.Trap.TheVariants.{AfterHeader, ColonSeparates, CommentRunsOn}
use Rattle.ini_check.specs.declared.warning.Trap.TheVariants.{DroppedLine, EmptyName, Escape, EscapeInKey}
use Rattle.ini_check.specs.declared.warning.Trap.TheVariants.{EscapeInName, HalfQuote, HeaderInValue}
use Rattle.ini_check.specs.declared.warning.Trap.TheVariants.{JoinedLine, KeyCase, LoneCr, MarkBeginsKey}
use Rattle.ini_check.specs.declared.warning.Trap.TheVariants.{MarkInValue, NotPlain, OddSpace, PairInValue}
use Rattle.ini_check.specs.declared.warning.Trap.TheVariants.{RepeatedKey, RepeatedSection, RunsOn}
use Rattle.ini_check.specs.declared.warning.Trap.TheVariants.{SectionCase, TextAfterQuote, UnclosedBracket}
use Rattle.ini_check.specs.declared.warning.Trap.TheVariants.{UnclosedQuote}

abbrev pub name : Trap → List ℕ
name UnclosedBracket = codes "unclosed-bracket"
name UnclosedQuote = codes "unclosed-quote"
name JoinedLine = codes "joined-line"
name RunsOn = codes "runs-on"
name CommentRunsOn = codes "comment-runs-on"
name DroppedLine = codes "dropped-line"
name LoneCr = codes "lone-cr"
name HeaderInValue = codes "header-in-value"
name PairInValue = codes "pair-in-value"
name RepeatedKey = codes "repeated-key"
name RepeatedSection = codes "repeated-section"
name AfterHeader = codes "after-header"
name EmptyName = codes "empty-name"
name SectionCase = codes "section-case"
name KeyCase = codes "key-case"
name MarkBeginsKey = codes "mark-begins-key"
name ColonSeparates = codes "colon-separates"
name EscapeInName = codes "escape-in-name"
name EscapeInKey = codes "escape-in-key"
name Escape = codes "escape"
name MarkInValue = codes "mark-in-value"
name TextAfterQuote = codes "text-after-quote"
name HalfQuote = codes "half-quote"
name OddSpace = codes "odd-space"
name NotPlain = codes "not-plain"

-- the trap of a name
abbrev pub trap_named : List ℕ → Option Trap
trap_named text =
    if bytes_eq text (codes "unclosed-bracket") then Some UnclosedBracket
    else if bytes_eq text (codes "unclosed-quote") then Some UnclosedQuote
    else if bytes_eq text (codes "joined-line") then Some JoinedLine
    else if bytes_eq text (codes "runs-on") then Some RunsOn
    else if bytes_eq text (codes "comment-runs-on") then Some CommentRunsOn
    else if bytes_eq text (codes "dropped-line") then Some DroppedLine
    else if bytes_eq text (codes "lone-cr") then Some LoneCr
    else if bytes_eq text (codes "header-in-value") then Some HeaderInValue
    else if bytes_eq text (codes "pair-in-value") then Some PairInValue
    else if bytes_eq text (codes "repeated-key") then Some RepeatedKey
    else if bytes_eq text (codes "repeated-section") then Some RepeatedSection
    else if bytes_eq text (codes "after-header") then Some AfterHeader
    else if bytes_eq text (codes "empty-name") then Some EmptyName
    else if bytes_eq text (codes "section-case") then Some SectionCase
    else if bytes_eq text (codes "key-case") then Some KeyCase
    else if bytes_eq text (codes "mark-begins-key") then Some MarkBeginsKey
    else if bytes_eq text (codes "colon-separates") then Some ColonSeparates
    else if bytes_eq text (codes "escape-in-name") then Some EscapeInName
    else if bytes_eq text (codes "escape-in-key") then Some EscapeInKey
    else if bytes_eq text (codes "escape") then Some Escape
    else if bytes_eq text (codes "mark-in-value") then Some MarkInValue
    else if bytes_eq text (codes "text-after-quote") then Some TextAfterQuote
    else if bytes_eq text (codes "half-quote") then Some HalfQuote
    else if bytes_eq text (codes "odd-space") then Some OddSpace
    else if bytes_eq text (codes "not-plain") then Some NotPlain
    else None

-- a line is swallowed or dropped, or a look-up doesn't find it
abbrev pub level : Trap → Level
level UnclosedBracket = LosesData
level UnclosedQuote = LosesData
level JoinedLine = LosesData
level RunsOn = LosesData
level CommentRunsOn = LosesData
level DroppedLine = LosesData
level LoneCr = LosesData
level HeaderInValue = LosesData
level PairInValue = LosesData
level RepeatedKey = LosesData
level RepeatedSection = LosesData
level _ = Surprises

abbrev pub level_name : Level → List ℕ
level_name LosesData = codes "loses-data"
level_name Surprises = codes "surprises"
