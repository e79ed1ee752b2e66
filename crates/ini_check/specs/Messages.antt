-- The traps in words, and what a warning prints.
use Rattle.std.specs.Prelude.{codes, ℕ, List, ◌∷◌, ◌++◌}
use Rattle.std.specs.Fmt.{decimal}
use Rattle.ini_check.specs.declared.warning.Trap.{Trap}
use Rattle.ini_check.specs.declared.warning.Trap.TheVariants.{AfterHeader, ColonSeparates, CommentRunsOn}
use Rattle.ini_check.specs.declared.warning.Trap.TheVariants.{DroppedLine, EmptyName, Escape, EscapeInKey}
use Rattle.ini_check.specs.declared.warning.Trap.TheVariants.{EscapeInName, HalfQuote, HeaderInValue}
use Rattle.ini_check.specs.declared.warning.Trap.TheVariants.{JoinedLine, KeyCase, LoneCr, MarkBeginsKey}
use Rattle.ini_check.specs.declared.warning.Trap.TheVariants.{MarkInValue, NotPlain, OddSpace, PairInValue}
use Rattle.ini_check.specs.declared.warning.Trap.TheVariants.{RepeatedKey, RepeatedSection, RunsOn}
use Rattle.ini_check.specs.declared.warning.Trap.TheVariants.{SectionCase, TextAfterQuote, UnclosedBracket}
use Rattle.ini_check.specs.declared.warning.Trap.TheVariants.{UnclosedQuote}
use Rattle.ini_check.specs.declared.warning.Warning.{Warning}

abbrev pub message : Trap → List ℕ
message UnclosedBracket =
    codes "this bracket isn't closed on its line and takes in the lines up to the next one that closes"
message UnclosedQuote =
    codes "this quote isn't closed on its line and takes in the lines up to the next one"
message JoinedLine = codes "this backslash joins the next line to this value"
message RunsOn = codes "this line has no separator and runs on into the next"
message CommentRunsOn = codes "an indented comment mark begins a key, which runs on into the next line"
message DroppedLine = codes "this last line is indented and has no separator, so it is dropped"
message LoneCr = codes "this CR without LF doesn't end the comment, which takes in the next line"
message HeaderInValue = codes "this line looks like a header and goes on with the value above"
message PairInValue = codes "this line looks like a pair and goes on with the value above"
message RepeatedKey = codes "this key was there before in its section"
message RepeatedSection = codes "a section of this name was there before"
message AfterHeader = codes "this stands on the line of a header"
message EmptyName = codes "the name of this section is empty"
message SectionCase = codes "a section was there before whose name differs in case alone"
message KeyCase = codes "a key was there before in its section that differs in case alone"
message MarkBeginsKey = codes "an indented comment mark begins a key"
message ColonSeparates = codes "this colon ends the key, before the equals sign"
message EscapeInName = codes "a backslash begins an escape in this name"
message EscapeInKey = codes "a backslash begins an escape in this key"
message Escape = codes "a backslash begins an escape in this value"
message MarkInValue = codes "a comment mark is part of this value"
message TextAfterQuote = codes "this text after the closing quote is part of the value"
message HalfQuote = codes "this value ends with a quote that nothing opens"
message OddSpace = codes "white space other than spaces and tabs around this value is taken off"
message NotPlain = codes "this may not be read back once it is written"

-- the line, a colon, the column, a colon, a space, the message
abbrev pub printed_warning : Warning → List ℕ
printed_warning w = decimal w.line ++ 0x3A ∷ decimal w.column ++ 0x3A ∷ 0x20 ∷ message w.trap
