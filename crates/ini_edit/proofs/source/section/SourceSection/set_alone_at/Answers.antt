use Rattle.std.proofs.lemmas.Result.{on_ok_weaker}
use Rattle.ini_edit.proofs.SetAloneLemmas.{alone_already}
use Rattle.ini_edit.proofs.source.section.SourceSection.set_alone_at.Goals as goal

pub returns-in_default-clause-set : goal.returns-in_default-clause-set
returns-in_default-clause-set c = λ p at.
    on_ok_weaker c.set_at.result (alone_already at c.in_default.ensures) (c.set_at.ensures.set p at)
