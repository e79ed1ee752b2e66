use Rattle.std.proofs.Common.{◌≡◌, fold}
use Rattle.ini_file.specs.LayerOrigins.{places_in, with_element}
use Rattle.ini_file.proofs.pair_places.places_of.Given as goal

-- with the elements that are left it is the whole
abbrev pub invariant-loop-element : goal.invariant-loop-element
invariant-loop-element l =
    fold (with_element l.null l.file) l.placing l.element-iterator ≡ places_in l.null l.file l.source
