use Rattle.std.proofs.Common.{◌≡◌, drop}
use Rattle.ini_edit.specs.Inside.SourceLayouts.{all_same, says_same_section}
use Rattle.ini_edit.proofs.source.layout.entries.say_same_sections.Given as goal

abbrev pub invariant-loop-i : goal.invariant-loop-i
invariant-loop-i l =
    all_same says_same_section (drop l.i l.sections) (drop l.i l.fn.others)
    ≡ all_same says_same_section l.sections l.fn.others
