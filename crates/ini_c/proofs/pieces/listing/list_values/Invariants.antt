use Rattle.std.proofs.Common.{◌≡◌, drop, fold, map}
use Rattle.ini.specs.Texts.{str_text}
use Rattle.ini_c.specs.Inside.Gathered.{contents}
use Rattle.ini_c.specs.Listings.{values_listed, with_text}
use Rattle.ini_c.proofs.pieces.listing.list_values.Given as goal

-- with what is left it is the whole
abbrev pub invariant-loop-value : goal.invariant-loop-value
invariant-loop-value l =
    fold with_text (contents l.listing) (map str_text (drop l.value-index l.values))
    ≡ values_listed (map str_text l.values)
