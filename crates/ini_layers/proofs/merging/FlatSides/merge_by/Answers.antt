use Rattle.std.proofs.Common.{◌≡◌, arith, map, subst}
use Rattle.ini_edit.specs.Sources.{document_in}
use Rattle.ini_layers.specs.Differences.{setting_change}
use Rattle.ini_layers.specs.Merging.{taken_changes}
use Rattle.ini_layers.specs.SourceChanges.{AreMadeBy}
use Rattle.ini_layers.proofs.MadeLemmas.{made-values, none_made}
use Rattle.ini_layers.proofs.MergeLemmas.{taken-merged}
use Rattle.ini_layers.proofs.merging.FlatSides.merge_by.Goals as goal

pub returns-in-Err-clause-refused : goal.returns-in-Err-clause-refused
returns-in-Err-clause-refused c =
    rw (c.refused_at.ensures, c.into.ensures, c.in-Err.ensures.only_memory)
    (none_made c.args.which c.args.rule c.args.write.now (taken_changes c.args.side c.args.self.now.base
    c.args.self.now.ours c.args.self.now.theirs) c.args.theirs.now)

pub returns-clause-made : goal.returns-clause-made
returns-clause-made c =
    let is : map setting_change c.as_slice.result.now ≡ taken_changes c.args.side c.args.self.now.base
    c.args.self.now.ours c.args.self.now.theirs = grind arith in
    subst (λ cs. AreMadeBy c.args.which c.args.rule c.args.write.now c.args.theirs.now cs c.in_ok-new.new) is
    c.in_ok-new.ensures.made

pub returns-clause-merged : goal.returns-clause-merged
returns-clause-merged c = λ base ours is.
    taken-merged c.args.which c.args.rule c.args.side base ours (document_in c.args.theirs.now) _
    (made-values c.args.which c.args.rule c.args.write.now
    (subst (λ s. AreMadeBy c.args.which c.args.rule c.args.write.now c.args.theirs.now
    (taken_changes c.args.side s.base s.ours s.theirs) c.in_ok-new.new) is (returns-clause-made c)))
