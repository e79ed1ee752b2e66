use Rattle.std.proofs.Common.{drop}
use Rattle.ini_text.proofs.WriteLemmas.SendLemmas.{Sending}
use Rattle.ini_edit.specs.Sources.{sections_text}
use Rattle.ini_edit.proofs.source.send_sections.Given as goal

abbrev pub invariant-loop-section : goal.invariant-loop-section
invariant-loop-section g l =
    Sending g.W.Write.contents l.fn.out l.out l.fn.lines l.lines
    (sections_text l.sections) (sections_text (drop l.section-index l.sections))
