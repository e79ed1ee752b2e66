use Rattle.ini_text.specs.Escaping.Policies.{is_reserved}
use Rattle.ini_text.proofs.StringLemmas.LaneLemmas.{bits, either, equal}
use Rattle.ini_text.proofs.write.policy.reserved_bits.Goals as goal

pub returns : goal.returns
returns c =
    let v = c.args.lanes in
    let long = c.fits-lanes.0 in
    bits is_reserved v long (either _ _ v (either _ _ v (equal 0x3B v long) (equal 0x23 v long))
    (either _ _ v (equal 0x3D v long) (equal 0x3A v long)))
