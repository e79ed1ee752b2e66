use Rattle.std.proofs.Common.{◌≡◌, flat_map, map, ◌++◌}
use Rattle.ini_edit.specs.Editings.{editing_of}
use Rattle.ini_file.specs.Settings.{settings_of}
use Rattle.ini_file.proofs.settings.settings_of.Given as goal

-- with those of the documents that are left they are the whole
abbrev pub invariant-loop-document : goal.invariant-loop-document
invariant-loop-document l =
    map editing_of l.edits.items ++ flat_map settings_of l.document-iterator
    ≡ flat_map settings_of l.documents
