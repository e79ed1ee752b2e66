use Rattle.std.proofs.Common.{◌≤◌, ◌<◌, ◌∙◌, arith, length, sym}
use Rattle.ini.specs.Equality.{is_pair}
use Rattle.ini_edit.specs.Sources.{given_pair}
use Rattle.ini_file.proofs.UncommentLemmas.{apart, same_end, same_ends, same_more}
use Rattle.ini_file.proofs.uncomment.is_pairs.Goals as goal

pub returns-then-pairs-others : goal.returns-then-pairs-others
returns-then-pairs-others c = apart is_pair given_pair c.args.pairs.now c.args.others.now c.if-pairs-others.true

pub loop-i-preserved : goal.loop-i-preserved
loop-i-preserved c =
    let within : c.loop-i.i < length c.args.others.now =
    omega (arith, c.loop-i-test.true, c.if-pairs-others.false) in
    same_more is_pair given_pair c.args.pairs.now c.args.others.now c.loop-i.i c.index-pairs-i.result c.index-others-i.result
    c.loop-i-test.true c.index-pairs-i.is within c.index-others-i.is
    (sym c.is_pair.ensures ∙ c.if-not-is_pair.false) c.loop-i.invariant

pub returns-then-not-is_pair : goal.returns-then-not-is_pair
returns-then-not-is_pair c =
    let within : c.loop-i.i < length c.args.others.now =
    omega (arith, c.loop-i-test.true, c.if-pairs-others.false) in
    same_ends is_pair given_pair c.args.pairs.now c.args.others.now c.loop-i.i c.index-pairs-i.result c.index-others-i.result
    c.loop-i-test.true c.index-pairs-i.is within c.index-others-i.is
    (sym c.is_pair.ensures ∙ c.if-not-is_pair.true) c.loop-i.invariant

pub returns : goal.returns
returns c =
    let all : length c.args.others.now ≤ c.loop-i.i =
    omega (arith, c.loop-i-test.false, c.if-pairs-others.false) in
    same_end is_pair given_pair c.args.pairs.now c.args.others.now c.loop-i.i c.loop-i-test.false all c.loop-i.invariant
