use Rattle.std.proofs.Common.{◌≡◌, chars, fold}
use Rattle.ini.specs.Properties.{values}
use Rattle.ini_c.specs.Inside.Gathered.{contents}
use Rattle.ini_c.specs.Listings.{values_listed, with_text}
use Rattle.ini_c.proofs.listing.list_values.Given as goal

-- with what is left it is the whole
abbrev pub invariant-loop-value : goal.invariant-loop-value
invariant-loop-value l =
    fold with_text (contents l.listing) l.value-iterator ≡ values_listed (values (chars l.key) l.section)
