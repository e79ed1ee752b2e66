use Rattle.std.proofs.Common.{◌≡◌, drop, fold, map}
use Rattle.ini_edit.specs.Sources.{given_pair}
use Rattle.ini_c.specs.Inside.Gathered.{contents}
use Rattle.ini_c.specs.Listings.{pairs_listed, with_pair}
use Rattle.ini_c.proofs.pieces.listing.list_pairs.Given as goal

-- with what is left it is the whole
abbrev pub invariant-loop-pair : goal.invariant-loop-pair
invariant-loop-pair l =
    fold with_pair (contents l.listing) (map given_pair (drop l.pair-index l.pair-items))
    ≡ pairs_listed (map given_pair l.section.pairs)
