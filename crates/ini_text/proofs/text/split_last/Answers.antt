use Rattle.std.proofs.Common.{◌∙◌, ap, sym, length, ◌++◌, encode_utf8}
use Rattle.ini_text.proofs.StringLemmas.PushLemmas.{no_characters}
use Rattle.ini_text.proofs.StringLemmas.ScanLemmas.{last_chars}
use Rattle.ini_text.proofs.text.split_last.Goals as goal

pub returns-in_err-last : goal.returns-in_err-last
returns-in_err-last c = rw c.from_residual.ensures
    (no_characters c.args.text.now (ap length (sym c.chars-characters.ensures.rest)
    ∙ c.in_err-last.ensures.steps.0))

pub returns : goal.returns
returns c = last_chars c.args.text.now c.as_str.result.now c.in_ok-last.last c.utf8.text c.as_str.utf8
    (sym c.chars-characters.ensures.rest ∙ c.in_ok-last.ensures.steps
    ∙ ap (λ x. x ++ encode_utf8 c.in_ok-last.last) (sym c.as_str.ensures))
