use Rattle.std.proofs.Common.{◌∙◌, ◌++◌, ap, chars}
use Rattle.ini.proofs.WritingLemmas.{chars-line_end}
use Rattle.ini_text.specs.Options.WriteOptions.{line_end}
use Rattle.ini_text.specs.Parsing.Items.{string_text}
use Rattle.ini_edit.proofs.LayoutLemmas.{line_ends_none, line_ends_step}
use Rattle.ini_edit.proofs.source.layout.lines.push_line_ends.Goals as goal

pub ends-preserved : goal.ends-preserved
ends-preserved c =
    line_ends_step (line_end c.args.end) c.ends.left (string_text c.ends.out) c.ends-test.true
    c.ends.invariant
    (c.in_ok-push_text.ensures.pushed
    ∙ ap (λ b. string_text c.ends.out ++ b) (ap chars c.as_str.ensures ∙ chars-line_end c.args.end))

pub returns-clause-pushed : goal.returns-clause-pushed
returns-clause-pushed c =
    line_ends_none (line_end c.args.end) c.ends.left c.ends-test.false c.ends.invariant
