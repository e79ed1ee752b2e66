use Rattle.std.proofs.Common.{◌∙◌, ap, filter, map}
use Rattle.ini_layers.specs.Differences.{setting_change}
use Rattle.ini_layers.specs.Merging.{is_taken}
use Rattle.ini_layers.proofs.merging.FlatSides.taken.Goals as goal

pub returns-clause-taken : goal.returns-clause-taken
returns-clause-taken c =
    c.in_ok-taken.ensures.taken
    ∙ ap (filter (is_taken c.args.side c.args.self.now.theirs))
    (ap (map setting_change) c.as_slice.ensures.value ∙ c.in_ok-changes.ensures.changes)
