use Rattle.std.proofs.Common.{◌≡◌, drop, fold, map}
use Rattle.ini_edit.specs.Sources.{document_in, given_section}
use Rattle.ini_c.specs.Inside.Gathered.{contents}
use Rattle.ini_c.specs.Listings.{document_listed, with_section}
use Rattle.ini_c.proofs.pieces.listing.list_sections.Given as goal

-- with what is left it is the whole
abbrev pub invariant-loop-section : goal.invariant-loop-section
invariant-loop-section l =
    fold with_section (contents l.listing) (map given_section (drop l.section-index l.section-items))
    ≡ document_listed (document_in l.source)
