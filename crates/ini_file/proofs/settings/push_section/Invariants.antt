use Rattle.std.proofs.Common.{◌≡◌, ◌++◌, map}
use Rattle.ini.specs.Texts.{str_name}
use Rattle.ini_edit.specs.Editings.{editing_of}
use Rattle.ini_file.specs.Settings.{setting_of, settings_in}
use Rattle.ini_file.proofs.settings.push_section.Given as goal

-- with those of the pairs that are left they are the whole
abbrev pub invariant-loop-key : goal.invariant-loop-key
invariant-loop-key l =
    map editing_of l.edits.items ++ map (setting_of (str_name l.name) l.section) l.key-iterator
    ≡ map editing_of l.initial.edits.items ++ settings_in (str_name l.name) l.section
