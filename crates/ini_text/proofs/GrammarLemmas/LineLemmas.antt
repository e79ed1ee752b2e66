-- Lines without a note.
use Rattle.std.proofs.Common.{ℕ, Bool, List, append-nil, subst}
use Rattle.ini_text.specs.Grammar.Lines.{Line, LineTail, LineText}
use Rattle.ini_text.specs.Grammar.Strings.{Closes, plain_ends}
use Rattle.ini_text.specs.declared.option.ParseOption.{ParseOption}

-- a line's text before its line end, or the text's end, is the line
pub line_of_text : {o : ParseOption} {first : Bool} {t r v : List ℕ} → Closes plain_ends r
    → LineText o first t r v → Line o first t r v
line_of_text {o} {first} {t} {r} {v} closes given =
    subst (λ s. Line o first s r v) (append-nil t) (Line.line given (LineTail.none closes))
