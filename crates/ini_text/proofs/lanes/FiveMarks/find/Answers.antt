use Rattle.ini_text.specs.Inside.Lanes.{is_one_of_five}
use Rattle.ini_text.proofs.StringLemmas.LaneLemmas.{bits, either, equal}
use Rattle.ini_text.proofs.lanes.FiveMarks.find.Goals as goal

pub returns : goal.returns
returns c =
    let v = c.args.lanes in
    let long = c.fits-lanes.0 in
    let five = c.args.self.now in
    let three = five.0 in
    bits (is_one_of_five three.0 three.1 three.2 five.1 five.2) v long
    (either _ _ v (either _ _ v
    (either _ _ v (either _ _ v (equal three.0 v long) (equal three.1 v long)) (equal three.2 v long))
    (equal five.1 v long)) (equal five.2 v long))
