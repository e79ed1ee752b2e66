use Rattle.ini_text.specs.Inside.Lanes.{is_one_of}
use Rattle.ini_text.proofs.StringLemmas.LaneLemmas.{bits, either, equal}
use Rattle.ini_text.proofs.lanes.ThreeMarks.find.Goals as goal

pub returns : goal.returns
returns c =
    let v = c.args.lanes in
    let long = c.fits-lanes.0 in
    let three = c.args.self.now in
    bits (is_one_of three.0 three.1 three.2) v long
    (either _ _ v (either _ _ v (equal three.0 v long) (equal three.1 v long)) (equal three.2 v long))
