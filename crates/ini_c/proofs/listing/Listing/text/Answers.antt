use Rattle.std.proofs.Common.{◌++◌, ◌∙◌, ap}
use Rattle.ini_c.proofs.ListingLemmas.{text_listed}
use Rattle.ini_c.specs.Inside.Gathered.{contents}
use Rattle.ini_c.proofs.listing.Listing.text.Goals as goal

pub returns : goal.returns
returns c =
    let before = contents c.args.self.now in
    text_listed before c.args.text.now c.extend_from_slice.new.self.items c.push.new.self.items
    c.push-2.new.self.items c.utf8.text
    (c.in_ok-extend_from_slice.ensures.items ∙ ap (λ t. before.bytes ++ t) c.as_bytes.ensures.value)
    c.in_ok-push.ensures.items c.in_ok-push-2.ensures.items
