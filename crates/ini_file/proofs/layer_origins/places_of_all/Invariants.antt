use Rattle.std.proofs.Common.{map, string_bytes, take}
use Rattle.ini_file.specs.LayerOrigins.{ArePlaced}
use Rattle.ini_file.specs.Merges.{bytes_of}
use Rattle.ini_file.proofs.layer_origins.places_of_all.Given as goal

-- the files before have their places
abbrev pub invariant-loop-index : goal.invariant-loop-index
invariant-loop-index l =
    ArePlaced l.read l.null (map string_bytes l.names) (bytes_of (take l.index l.files)) l.placed
