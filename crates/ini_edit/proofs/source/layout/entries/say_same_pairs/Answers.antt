use Rattle.std.proofs.Common.{◌≤◌, ◌<◌, ◌∙◌, arith, length, sym}
use Rattle.ini_edit.specs.Inside.SourceLayouts.{says_same_pair}
use Rattle.ini_edit.proofs.SourceEntriesLemmas.{apart, same_end, same_ends, same_more}
use Rattle.ini_edit.proofs.source.layout.entries.say_same_pairs.Goals as goal

pub returns-then-pairs-others-clause-same : goal.returns-then-pairs-others-clause-same
returns-then-pairs-others-clause-same c =
    apart says_same_pair c.args.pairs.now c.args.others.now c.if-pairs-others.true

pub loop-i-preserved : goal.loop-i-preserved
loop-i-preserved c =
    let within : c.loop-i.i < length c.args.others.now =
    omega (arith, c.loop-i-test.true, c.if-pairs-others.false) in
    same_more says_same_pair c.args.pairs.now c.args.others.now c.loop-i.i c.index-pairs-i.result
    c.index-others-i.result c.loop-i-test.true c.index-pairs-i.is within c.index-others-i.is
    (sym c.in_ok-says_same_pair.ensures.same ∙ c.if-not-branch.false) c.loop-i.invariant

pub returns-then-not-branch-clause-same : goal.returns-then-not-branch-clause-same
returns-then-not-branch-clause-same c =
    let within : c.loop-i.i < length c.args.others.now =
    omega (arith, c.loop-i-test.true, c.if-pairs-others.false) in
    same_ends says_same_pair c.args.pairs.now c.args.others.now c.loop-i.i c.index-pairs-i.result
    c.index-others-i.result c.loop-i-test.true c.index-pairs-i.is within c.index-others-i.is
    (sym c.in_ok-says_same_pair.ensures.same ∙ c.if-not-branch.true) c.loop-i.invariant

pub returns-clause-same : goal.returns-clause-same
returns-clause-same c =
    let all : length c.args.others.now ≤ c.loop-i.i =
    omega (arith, c.loop-i-test.false, c.if-pairs-others.false) in
    same_end says_same_pair c.args.pairs.now c.args.others.now c.loop-i.i c.loop-i-test.false all
    c.loop-i.invariant
