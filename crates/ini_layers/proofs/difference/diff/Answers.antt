use Rattle.std.proofs.Common.{subst, sym}
use Rattle.ini_layers.specs.Differences.{HasChangesOf}
use Rattle.ini_layers.proofs.DifferenceLemmas.{difference-has, none-shown}
use Rattle.ini_layers.proofs.ListingLemmas.{listed-both}
use Rattle.ini_layers.proofs.difference.diff.Goals as goal

pub returns-clause-changes : goal.returns-clause-changes
returns-clause-changes c =
    listed-both c.args.from.now c.args.to.now _ _ _ c.new-changes.ensures.items
    c.in_ok-push_changes.ensures.listed c.in_ok-push_changes-2.ensures.listed

pub returns-clause-each : goal.returns-clause-each
returns-clause-each c =
    subst (HasChangesOf c.args.from.now c.args.to.now) (sym (returns-clause-changes c))
    (difference-has c.args.from.now c.args.to.now)

pub returns-clause-none : goal.returns-clause-none
returns-clause-none c =
    none-shown c.args.from.now c.args.to.now c.push_changes-2.new.changes.items (returns-clause-each c)
