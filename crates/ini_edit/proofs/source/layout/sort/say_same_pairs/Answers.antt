use Rattle.std.proofs.Common.{◌≤◌, ◌<◌, ◌∙◌, arith, length, sym}
use Rattle.ini_edit.specs.Inside.Sortings.{says_same_pair_unit}
use Rattle.ini_edit.proofs.SourceEntriesLemmas.{apart, same_end, same_ends, same_more}
use Rattle.ini_edit.proofs.source.layout.sort.say_same_pairs.Goals as goal

pub returns-then-units-others-clause-same : goal.returns-then-units-others-clause-same
returns-then-units-others-clause-same c =
    apart says_same_pair_unit c.args.units.now c.args.others.now c.if-units-others.true

pub loop-i-preserved : goal.loop-i-preserved
loop-i-preserved c =
    let within : c.loop-i.i < length c.args.others.now =
    omega (arith, c.loop-i-test.true, c.if-units-others.false) in
    same_more says_same_pair_unit c.args.units.now c.args.others.now c.loop-i.i c.index-units-i.result
    c.index-others-i.result c.loop-i-test.true c.index-units-i.is within c.index-others-i.is
    (sym c.in_ok-says_same_pair.ensures.same ∙ c.if-not-branch.false) c.loop-i.invariant

pub returns-then-not-branch-clause-same : goal.returns-then-not-branch-clause-same
returns-then-not-branch-clause-same c =
    let within : c.loop-i.i < length c.args.others.now =
    omega (arith, c.loop-i-test.true, c.if-units-others.false) in
    same_ends says_same_pair_unit c.args.units.now c.args.others.now c.loop-i.i c.index-units-i.result
    c.index-others-i.result c.loop-i-test.true c.index-units-i.is within c.index-others-i.is
    (sym c.in_ok-says_same_pair.ensures.same ∙ c.if-not-branch.true) c.loop-i.invariant

pub returns-clause-same : goal.returns-clause-same
returns-clause-same c =
    let all : length c.args.others.now ≤ c.loop-i.i =
    omega (arith, c.loop-i-test.false, c.if-units-others.false) in
    same_end says_same_pair_unit c.args.units.now c.args.others.now c.loop-i.i c.loop-i-test.false all
    c.loop-i.invariant
