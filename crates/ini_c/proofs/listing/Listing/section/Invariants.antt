use Rattle.std.proofs.Common.{◌≡◌, fold}
use Rattle.ini.specs.Texts.{str_name}
use Rattle.ini_c.specs.Inside.Gathered.{contents}
use Rattle.ini_c.specs.Listings.{with_pair, with_section}
use Rattle.ini_c.proofs.listing.Listing.section.Given as goal

-- with what is left it is the whole
abbrev pub invariant-loop-key : goal.invariant-loop-key
invariant-loop-key l =
    fold with_pair (contents l.self) l.key-iterator
    ≡ with_section (contents l.fn.self) (str_name l.name, l.section)
