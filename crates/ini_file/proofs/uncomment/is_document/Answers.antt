use Rattle.std.proofs.Common.{◌≤◌, ◌<◌, ◌∙◌, arith, length, sym}
use Rattle.ini_edit.specs.Sources.{given_section}
use Rattle.ini_file.specs.Uncomment.{is_section}
use Rattle.ini_file.proofs.UncommentLemmas.{apart, same_end, same_ends, same_more}
use Rattle.ini_file.proofs.uncomment.is_document.Goals as goal

pub returns-then-sections-others : goal.returns-then-sections-others
returns-then-sections-others c = apart is_section given_section c.args.sections.now c.args.others.now c.if-sections-others.true

pub loop-i-preserved : goal.loop-i-preserved
loop-i-preserved c =
    let within : c.loop-i.i < length c.args.others.now =
    omega (arith, c.loop-i-test.true, c.if-sections-others.false) in
    same_more is_section given_section c.args.sections.now c.args.others.now c.loop-i.i c.index-sections-i.result c.index-others-i.result
    c.loop-i-test.true c.index-sections-i.is within c.index-others-i.is
    (sym c.is_section.ensures ∙ c.if-not-is_section.false) c.loop-i.invariant

pub returns-then-not-is_section : goal.returns-then-not-is_section
returns-then-not-is_section c =
    let within : c.loop-i.i < length c.args.others.now =
    omega (arith, c.loop-i-test.true, c.if-sections-others.false) in
    same_ends is_section given_section c.args.sections.now c.args.others.now c.loop-i.i c.index-sections-i.result c.index-others-i.result
    c.loop-i-test.true c.index-sections-i.is within c.index-others-i.is
    (sym c.is_section.ensures ∙ c.if-not-is_section.true) c.loop-i.invariant

pub returns : goal.returns
returns c =
    let all : length c.args.others.now ≤ c.loop-i.i =
    omega (arith, c.loop-i-test.false, c.if-sections-others.false) in
    same_end is_section given_section c.args.sections.now c.args.others.now c.loop-i.i c.loop-i-test.false all c.loop-i.invariant
