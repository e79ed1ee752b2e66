use Rattle.std.proofs.Common.{◌∙◌, List, ap, map, reverse}
use Rattle.std.proofs.lemmas.List.{take_all}
use Rattle.ini_layers.specs.Differences.{setting_change}
use Rattle.ini_file.specs.Applications.{undone}
use Rattle.ini_file.specs.EditLines.{change_read}
use Rattle.ini_file.specs.declared.edit_reading.OwnedChange.{OwnedChange}
use Rattle.ini_file.proofs.ApplyLemmas.{map_reverse}
use Rattle.ini_file.proofs.apply.undoing_changes.Goals as goal

pub returns : goal.returns
returns c =
    ap (map setting_change) c.reverse.ensures.items
    ∙ map_reverse setting_change c.loop-change.changes.items
    ∙ ap reverse (c.loop-change.invariant ∙ ap (λ (l : List OwnedChange). map undone (map change_read l))
    (take_all c.loop-change.change-index c.args.read.now c.loop-change-test.false))
