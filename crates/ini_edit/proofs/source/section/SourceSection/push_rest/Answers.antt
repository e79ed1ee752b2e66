use Rattle.std.proofs.Common.{◌++◌, arith, chars}
use Rattle.std.proofs.lemmas.Result.{on_ok_weaker}
use Rattle.ini_edit.proofs.SourcePartLemmas.{rest_pushed}
use Rattle.ini_edit.proofs.source.section.SourceSection.push_rest.Goals as goal

pub returns-in-Some-clause-pushed : goal.returns-in-Some-clause-pushed
returns-in-Some-clause-pushed c =
    on_ok_weaker c.push_rest.result
    (rest_pushed c.args.read (chars c.args.line_end.now ++ chars c.args.lines.now) (chars c.args.gap.now)
    c.self.view_is c.in-Some.ensures (omega arith) c.index_mut.ensures.value)
    c.push_rest.ensures.pushed
