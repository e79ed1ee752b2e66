use Rattle.std.proofs.Common.{map, take}
use Rattle.ini_edit.specs.Editings.{editing_of}
use Rattle.ini_edit.specs.SourceEditsList.{AreMadeOf}
use Rattle.ini_edit.proofs.source.Source.make_each.Given as goal

abbrev pub invariant-loop-index : goal.invariant-loop-index
invariant-loop-index l =
    AreMadeOf l.write l.later l.fn.self (map editing_of (take l.index l.edits)) l.found.items l.self
