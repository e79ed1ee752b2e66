use Rattle.std.proofs.Common.{◌≡◌, ◌++◌, drop, map}
use Rattle.ini_edit.specs.Sources.{document_in, given_section}
use Rattle.ini_layers.proofs.documents.to_document.Given as goal

-- with what is left it is the whole
abbrev pub invariant-loop-section : goal.invariant-loop-section
invariant-loop-section l =
    l.document ++ map given_section (drop l.section-index l.section-items) ≡ document_in l.source
