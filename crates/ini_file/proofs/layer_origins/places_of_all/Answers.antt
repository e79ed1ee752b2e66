use Rattle.std.proofs.Common.{map, string_bytes, subst}
use Rattle.ini_file.specs.LayerOrigins.{ArePlaced, IsPlaced}
use Rattle.ini_file.proofs.PlacedLemmas.{one_more_placed}
use Rattle.ini_file.proofs.layer_origins.places_of_all.Goals as goal

pub loop-index-init : goal.loop-index-init
loop-index-init c = rw c.new-placed.ensures ArePlaced.none

pub loop-index-preserved : goal.loop-index-preserved
loop-index-preserved c =
    let places = c.in_ok-places.places in
    one_more_placed c.args.read c.args.null (map string_bytes c.args.names.now) c.args.files.now
    c.loop-index.index c.index-files-index.result c.loop-index-test.true c.index-files-index.is
    c.loop-index.invariant places
    (subst (λ name. IsPlaced c.args.read c.args.null name c.index-files-index.result.items places)
    c.name_at.ensures (subst (λ bytes. IsPlaced c.args.read c.args.null c.name_at.result.now bytes places)
    c.as_slice.ensures.value c.in_ok-places.ensures))
    c.in_ok-push_layer.ensures
