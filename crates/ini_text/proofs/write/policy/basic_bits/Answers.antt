use Rattle.ini_text.specs.Escaping.Policies.{is_basic}
use Rattle.ini_text.proofs.StringLemmas.LaneLemmas.{below, bits, either, equal}
use Rattle.ini_text.proofs.write.policy.basic_bits.Goals as goal

pub returns : goal.returns
returns c =
    let v = c.args.lanes in
    let long = c.fits-lanes.0 in
    bits is_basic v
    long (either _ _ v (either _ _ v (equal 0x5C v long) (below 0x20 v long)) (equal 0x7F v long))
