use Rattle.std.proofs.Common.{◌≡◌, ◌++◌, drop}
use Rattle.ini_edit.specs.Prevailing.{forms_in}
use Rattle.ini_edit.proofs.source.layout.prevailing.prevailing_style.Given as goal

abbrev pub invariant-loop-section : goal.invariant-loop-section
invariant-loop-section l =
    l.forms.items ++ forms_in l.fn.aligned (drop l.section-index l.sections)
    ≡ forms_in l.fn.aligned l.sections
