use Rattle.std.proofs.Common.{map, take}
use Rattle.ini_edit.specs.Editings.{editing_of}
use Rattle.ini_file.specs.RuledMerges.{AreSettingsMade}
use Rattle.ini_file.proofs.ruled_merge.set_each.Given as goal

-- what the edits so far set
abbrev pub invariant-loop-index : goal.invariant-loop-index
invariant-loop-index l =
    AreSettingsMade l.rule l.write (map editing_of (take l.index l.edits)) l.fn.source l.source
