use Rattle.std.proofs.Common.{ap, chars, take}
use Rattle.std.proofs.lemmas.Result.{IfOk-weaker}
use Rattle.ini_edit.proofs.SourcePartLemmas.{before_index, rest_is_put}
use Rattle.ini_edit.proofs.source.section.SourceSection.rest_put.Goals as goal

pub returns-in-Some-clause-put : goal.returns-in-Some-clause-put
returns-in-Some-clause-put c =
    let s = c.args.self.now in
    IfOk-weaker c.with_rest.result _ _
    (λ new put. rest_is_put new s c.args.read (chars c.args.lines.now) (chars c.args.gap.now)
    (take c.args.index s.pairs) (take c.in-Some.before s.pairs) c.index.result.now
    (before_index c.in-Some.ensures c.requires (ap (λ s. s.pairs) c.self.view_is) c.index.ensures) put)
    c.with_rest.ensures.put
