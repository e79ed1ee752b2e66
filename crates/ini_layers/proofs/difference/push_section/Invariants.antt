use Rattle.std.proofs.Common.{map}
use Rattle.ini.specs.Texts.{str_name}
use Rattle.ini_layers.specs.Differences.{setting_change}
use Rattle.ini_layers.proofs.ListingLemmas.{ListsKeys}
use Rattle.ini_layers.proofs.difference.push_section.Given as goal

abbrev pub invariant-loop-key : goal.invariant-loop-key
invariant-loop-key l =
    ListsKeys l.which l.from l.to (str_name l.name) l.initial.key-iterator l.key-iterator l.seen
    (map setting_change l.initial.changes.items) (map setting_change l.changes.items)
