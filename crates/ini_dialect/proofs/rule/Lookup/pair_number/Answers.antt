use Rattle.std.proofs.Common.{ap, arith, length, chars}
use Rattle.ini.specs.Texts.{Text}
use Rattle.ini_dialect.specs.Lookups.{text_fits}
use Rattle.ini_dialect.specs.Walks.{any_section}
use Rattle.ini_dialect.proofs.EditLemmas.{searches-ends_found, searches-ends_none, searches-finds}
use Rattle.ini_dialect.proofs.EditLemmas.{none_left, searches-goes_on, searches-starts}
use Rattle.ini_dialect.proofs.rule.Lookup.pair_number.Goals as goal

pub loop-number-init : goal.loop-number-init
loop-number-init c =
    let test = λ (p : Text × Text). text_fits c.args.self.case (chars c.args.key.now) p.0 in (
      omega (
        arith,
        c.len-len.ensures,
        ap length c.pairs-pairs.ensures,
      ),
      searches-starts test c.args.self.values (any_section c.args.section) _ c.pairs-pairs.ensures,
    )

pub loop-number-preserved : goal.loop-number-preserved
loop-number-preserved c =
    let test = λ (p : Text × Text). text_fits c.args.self.case (chars c.args.key.now) p.0 in (
      omega (arith, ap length c.in-Some.ensures.steps),
      searches-goes_on test c.args.self.values (any_section c.args.section) _ _ _ c.loop-number.number _
          c.loop-number.found _
          c.fits-passes.result c.ends_at.result c.loop-number.invariant.1 c.in-Some.ensures.steps
          c.fits-passes.ensures c.ends_at.ensures c.if-ends_at.false (omega arith) c.latest-found.ensures,
    )

pub returns-then-ends_at-clause-found : goal.returns-then-ends_at-clause-found
returns-then-ends_at-clause-found c =
    let test = λ (p : Text × Text). text_fits c.args.self.case (chars c.args.key.now) p.0 in
    searches-finds test c.args.self.values (any_section c.args.section) _ _ _ c.loop-number.number
    c.loop-number.found c.fits-passes.result c.ends_at.result c.loop-number.invariant.1
    c.in-Some.ensures.steps c.fits-passes.ensures c.ends_at.ensures c.if-ends_at.true

pub returns-clause-found : goal.returns-clause-found
returns-clause-found c =
    let test = λ (p : Text × Text). text_fits c.args.self.case (chars c.args.key.now) p.0 in
    searches-ends_found test c.args.self.values (any_section c.args.section) _ _ c.loop-number.found
    c.loop-number.invariant.1
    (none_left _ c.loop-number.number _ c.loop-number.invariant.0 (omega arith))

pub returns-clause-none : goal.returns-clause-none
returns-clause-none c =
    let test = λ (p : Text × Text). text_fits c.args.self.case (chars c.args.key.now) p.0 in
    searches-ends_none test c.args.self.values (any_section c.args.section) _ _ c.loop-number.found
    c.loop-number.invariant.1
    (none_left _ c.loop-number.number _ c.loop-number.invariant.0 (omega arith))
