use Rattle.std.proofs.Common.{◌∙◌, ap, not}
use Rattle.ini_multimap.proofs.LeadingLemmas.{hole_read, leading_more}
use Rattle.ini_multimap.proofs.slots.take.count_leading.Goals as goal

pub loop-leading-preserved : goal.loop-leading-preserved
loop-leading-preserved g c =
    let ks = c.args.keys.now in
    let n = c.loop-leading.leading in
    leading_more ks n c.loop-leading.invariant c.loop-leading-test.true
    (hole_read ks n c.index-keys-leading.result c.loop-leading-test.true c.index-keys-leading.is
    (c.is_none.ensures ∙ ap not c.if-is_none.true))
