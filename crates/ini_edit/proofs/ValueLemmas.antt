-- What closes a value's lines: with what it begins, and with what it doesn't.
use Rattle.std.proofs.Common.{◌≡◌, ℕ, Bool, true, false, not, ◌||◌, eqb, List, [], ◌∷◌, ◌++◌, refl, ap}
use Rattle.std.proofs.lemmas.Bool.{and_right}
use Rattle.std.specs.Char.{is_whitespace}
use Rattle.ini_text.specs.declared.option.ParseOption.{ParseOption}
use Rattle.ini_text.specs.Grammar.CharacterKinds.{BeginsWithNo, is_inline_white, is_line_end, is_quote_mark}
use Rattle.ini_text.specs.Grammar.Strings.{Closes, plain_ends, is_endpoint}
use Rattle.ini_text.specs.Grammar.Lines.{Line}
use Rattle.ini_text.specs.Grammar.Values.{LineEnd}
use Rattle.ini_text.specs.Grammar.Places.{TrailingLines}
use Rattle.ini_text.proofs.PlainLemmas.PlainPairLemmas.{line_end_no_mark}
use Rattle.ini_text.proofs.ReaderLemmas.NoteLemmas.{LineTail-closes}

pub closes_line_end : (c : ℕ) → is_endpoint plain_ends c ≡ true → is_line_end c ≡ true
closes_line_end c h = at (eqb c 0x0A) (eqb c 0x0D) h
  where
    at : (x y : Bool) → (x || (y || false)) ≡ true → (x || y) ≡ true
    at true y h = h
    at false true h = h
    at false false h = h

pub tail_closes : {o : ParseOption} {t r : List ℕ} → TrailingLines o t r → Closes plain_ends (t ++ r)
tail_closes (TrailingLines.line off h) = h
tail_closes (TrailingLines.end on) = refl
tail_closes (TrailingLines.lines on LineEnd.lf more all) = refl
tail_closes (TrailingLines.lines on LineEnd.cr_lf more all) = refl
tail_closes (TrailingLines.lines on (LineEnd.cr n) more all) = refl

pub closes_no_mark : (r : List ℕ) → Closes plain_ends r → BeginsWithNo is_quote_mark r
closes_no_mark [] h = tt
closes_no_mark (c ∷ r) h = line_end_no_mark c (closes_line_end c h)

pub closes_no_inline : (r : List ℕ) → Closes plain_ends r → BeginsWithNo is_inline_white r
closes_no_inline [] h = tt
closes_no_inline (c ∷ r) h = and_right (is_whitespace c) _ (ap not (closes_line_end c h))

pub line_closes : {o : ParseOption} {first : Bool} {l r v : List ℕ} → Line o first l r v
    → Closes plain_ends r
line_closes (Line.line front tail) = LineTail-closes tail
