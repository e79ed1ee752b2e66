use Rattle.std.proofs.Common.{◌≡◌, drop}
use Rattle.ini_edit.specs.Inside.SourceLayouts.{all_same}
use Rattle.ini_edit.specs.Inside.Sortings.{says_same_section_unit}
use Rattle.ini_edit.proofs.source.layout.sort.say_same_sections.Given as goal

abbrev pub invariant-loop-i : goal.invariant-loop-i
invariant-loop-i l =
    all_same says_same_section_unit (drop l.i l.units) (drop l.i l.fn.others)
    ≡ all_same says_same_section_unit l.units l.fn.others
