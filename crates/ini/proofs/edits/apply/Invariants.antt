use Rattle.std.proofs.Common.{◌≡◌, take}
use Rattle.ini.specs.EditLists.{edited}
use Rattle.ini.proofs.edits.apply.Given as goal

abbrev pub invariant-edits : goal.invariant-edits
invariant-edits l = l.doc ≡ edited l.fn.doc (take l.edit-index l.edits)
