use Rattle.std.proofs.Common.{◌≡◌, fold}
use Rattle.ini_c.specs.Inside.Gathered.{contents}
use Rattle.ini_c.specs.Listings.{document_listed, with_section}
use Rattle.ini_c.proofs.listing.list_document.Given as goal

-- with what is left it is the whole
abbrev pub invariant-loop-name : goal.invariant-loop-name
invariant-loop-name l = fold with_section (contents l.listing) l.name-iterator ≡ document_listed l.document
