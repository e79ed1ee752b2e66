-- What a listing holds.
use Rattle.ini_c.specs.Listings.{Listed}
use Rattle.ini_c.specs.declared.listing.Listing.{Listing}

abbrev pub contents : Listing → Listed
contents l = record { bytes = l.bytes.items; counts = l.counts.items }
