use Rattle.std.proofs.Common.{◌≡◌, ◌++◌, flat_map, map}
use Rattle.ini_edit.specs.Editings.{editing_of}
use Rattle.ini_file.specs.Settings.{settings_named, settings_of}
use Rattle.ini_file.proofs.settings.push_document.Given as goal

-- with those of the names that are left they are the whole
abbrev pub invariant-loop-name : goal.invariant-loop-name
invariant-loop-name l =
    map editing_of l.edits.items ++ flat_map (settings_named l.document) l.name-iterator
    ≡ map editing_of l.initial.edits.items ++ settings_of l.document
