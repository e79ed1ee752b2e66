use Rattle.std.proofs.Common.{◌≡◌, drop, map}
use Rattle.ini_edit.specs.Sources.{given_section}
use Rattle.ini_file.specs.Uncomment.{is_document}
use Rattle.ini_file.proofs.uncomment.is_document.Given as goal

abbrev pub invariant-loop-i : goal.invariant-loop-i
invariant-loop-i l =
    is_document (map given_section (drop l.i l.sections)) (map given_section (drop l.i l.fn.others))
    ≡ is_document (map given_section l.sections) (map given_section l.fn.others)
