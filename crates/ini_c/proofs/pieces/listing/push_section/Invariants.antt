use Rattle.std.proofs.Common.{◌≡◌, drop, fold, map}
use Rattle.ini_edit.specs.Sources.{given_pair, given_section}
use Rattle.ini_c.specs.Inside.Gathered.{contents}
use Rattle.ini_c.specs.Listings.{with_pair, with_section}
use Rattle.ini_c.proofs.pieces.listing.push_section.Given as goal

-- with what is left it is the whole
abbrev pub invariant-loop-pair : goal.invariant-loop-pair
invariant-loop-pair l =
    fold with_pair (contents l.listing) (map given_pair (drop l.pair-index l.pair-items))
    ≡ with_section (contents l.fn.listing) (given_section l.section)
