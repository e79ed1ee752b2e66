use Rattle.std.proofs.Common.{◌∙◌, ap, filter, map, subst, sym}
use Rattle.ini_layers.specs.Differences.{setting_change}
use Rattle.ini_layers.specs.Merging.{HasConflictsOf, conflicts_with, with_theirs}
use Rattle.ini_layers.proofs.MergeLemmas.{conflicts-have, conflicts-none}
use Rattle.ini_layers.proofs.merging.FlatSides.conflicts.Goals as goal

pub returns-clause-conflicts : goal.returns-clause-conflicts
returns-clause-conflicts c =
    let theirs = c.args.self.now.theirs in
    c.in_ok-conflicts.ensures.conflicts
    ∙ ap (λ l. map (with_theirs theirs) (filter (conflicts_with theirs) l))
    (ap (map setting_change) c.as_slice.ensures.value ∙ c.in_ok-changes.ensures.changes)

pub returns-clause-each : goal.returns-clause-each
returns-clause-each c =
    let theirs = c.args.self.now.theirs in
    subst (HasConflictsOf c.args.self.now.base c.args.self.now.ours theirs) (sym (returns-clause-conflicts c))
    (conflicts-have c.args.self.now.base c.args.self.now.ours theirs)

pub returns-clause-none : goal.returns-clause-none
returns-clause-none c =
    conflicts-none c.args.self.now.base c.args.self.now.ours c.args.self.now.theirs _ (returns-clause-each c)
