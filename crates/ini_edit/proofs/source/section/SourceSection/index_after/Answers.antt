use Rattle.std.proofs.Common.{ap, arith, length}
use Rattle.ini_edit.proofs.source.section.SourceSection.index_after.Goals as goal

pub returns : goal.returns
returns c = omega (arith, c.self.inside.pairs.ok.0, ap (λ s. length s.pairs) c.self.view_is)
