use Rattle.std.proofs.Common.{ap, chars, ◌∙◌}
use Rattle.ini_text.proofs.StringLemmas.TrimLemmas.{chars_trim, chars_trim_end}
use Rattle.ini_text.proofs.text.cut_ends.Goals as goal

pub returns-then-both : goal.returns-then-both
returns-then-both c =
    rw c.if-both.true (ap chars c.trim.ensures.trim ∙ chars_trim c.args.text.now c.utf8.text)

pub returns-else-both : goal.returns-else-both
returns-else-both c =
    rw c.if-both.false (ap chars c.trim_end.ensures.trim ∙ chars_trim_end c.args.text.now c.utf8.text)
