use Rattle.std.proofs.Common.{ap, chars, subst, sym, ◌∙◌}
use Rattle.ini_text.specs.Inside.Reading.{Gives, found}
use Rattle.ini_text.specs.Parsing.Items.{cow_text}
use Rattle.ini_text.proofs.ReaderLemmas.ReaderLemmas.{from_nothing, passed}
use Rattle.ini_text.proofs.ReaderLemmas.LineReaderLemmas.{line_plain}
use Rattle.ini_text.proofs.parser.line.read_first_line.Goals as goal

pub returns-in-None : goal.returns-in-None
returns-in-None c = subst (Gives cow_text c.read_trimmed.result)
    (sym (line_plain c.args.read.now (chars c.args.text.now) c.in-None.ensures)) c.read_trimmed.ensures

pub returns-in_err-end-in-Some : goal.returns-in_err-end-in-Some
returns-in_err-end-in-Some c =
    passed _ _ _ c.from_residual.ensures.1 c.in_err-end-in-Some.ensures
    (λ r k h. sym (from_nothing _ c.clear.ensures.bytes) ∙ h)

pub returns-in_ok-value-in-Some : goal.returns-in_ok-value-in-Some
returns-in_ok-value-in-Some c =
    sym (from_nothing _ c.clear.ensures.bytes) ∙ c.in_ok-end-in-Some.ensures
    ∙ ap (λ bytes. found (chars bytes) (chars c.in_ok-end-in-Some.end.now))
    (sym (c.in_ok-value-in-Some.ensures.ok ∙ c.as_str.ensures.value))
