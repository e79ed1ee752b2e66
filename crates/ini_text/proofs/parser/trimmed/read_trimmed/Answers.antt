use Rattle.std.proofs.Common.{◌∙◌, sym, ap, chars}
use Rattle.ini_text.specs.Inside.Reading.{altered_answer, found}
use Rattle.ini_text.specs.Inside.Scans.{trimmed_at}
use Rattle.ini_text.proofs.ReaderLemmas.ReaderLemmas.{from_nothing, passed}
use Rattle.ini_text.proofs.parser.trimmed.read_trimmed.Goals as goal

pub returns-in_err-rest : goal.returns-in_err-rest
returns-in_err-rest c =
    passed _ _ _ c.from_residual.ensures.1 c.in_err-rest.ensures
    (λ r k h. ap (altered_answer (trimmed_at c.args.both)) (sym (from_nothing _ c.clear.ensures.bytes) ∙ h))

pub returns : goal.returns
returns c =
    ap (altered_answer (trimmed_at c.args.both))
    (sym (from_nothing _ c.clear.ensures.bytes) ∙ c.in_ok-rest.ensures)
    ∙ ap (λ v. found v (chars c.in_ok-rest.rest.now))
    (sym (ap chars c.in_ok-kept.ensures.ok ∙ c.trimmed-2.ensures
    ∙ ap (λ bytes. trimmed_at c.args.both (chars bytes)) c.as_str.ensures.value))
