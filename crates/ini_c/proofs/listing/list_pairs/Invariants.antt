use Rattle.std.proofs.Common.{◌≡◌, fold}
use Rattle.ini_c.specs.Inside.Gathered.{contents}
use Rattle.ini_c.specs.Listings.{pairs_listed, with_pair}
use Rattle.ini_c.proofs.listing.list_pairs.Given as goal

-- with what is left it is the whole
abbrev pub invariant-loop-key : goal.invariant-loop-key
invariant-loop-key l = fold with_pair (contents l.listing) l.key-iterator ≡ pairs_listed l.section
