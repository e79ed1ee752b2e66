use Rattle.std.proofs.Common.{ap, arith, length}
use Rattle.ini.specs.Texts.{str_name}
use Rattle.ini_dialect.specs.Numbers.{passes_key}
use Rattle.ini_dialect.specs.Walks.{any_document}
use Rattle.ini_dialect.proofs.EditLemmas.{searches-ends_found, searches-ends_none, searches-finds}
use Rattle.ini_dialect.proofs.EditLemmas.{none_left, searches-goes_on, searches-starts}
use Rattle.ini_dialect.proofs.rule.Lookup.section_number.Goals as goal

pub loop-number-init : goal.loop-number-init
loop-number-init c =
    let test = passes_key c.args.self (str_name c.args.name) (str_name c.args.key) in (
      omega (
        arith,
        c.len-len.ensures,
        ap length c.sections-sections.ensures,
      ),
      searches-starts test c.args.order (any_document c.args.document) _ c.sections-sections.ensures,
    )

pub loop-number-preserved : goal.loop-number-preserved
loop-number-preserved c =
    let test = passes_key c.args.self (str_name c.args.name) (str_name c.args.key) in (
      omega (arith, ap length c.in-Some.ensures.steps),
      searches-goes_on test c.args.order (any_document c.args.document) _ _ _ c.loop-number.number _
          c.loop-number.found _
          c.is_section-passes.result c.ends_at.result c.loop-number.invariant.1 c.in-Some.ensures.steps
          c.is_section-passes.ensures c.ends_at.ensures c.if-ends_at.false (omega arith)
          c.latest-found.ensures,
    )

pub returns-then-ends_at-clause-found : goal.returns-then-ends_at-clause-found
returns-then-ends_at-clause-found c =
    let test = passes_key c.args.self (str_name c.args.name) (str_name c.args.key) in
    searches-finds test c.args.order (any_document c.args.document) _ _ _ c.loop-number.number
    c.loop-number.found c.is_section-passes.result c.ends_at.result c.loop-number.invariant.1
    c.in-Some.ensures.steps c.is_section-passes.ensures c.ends_at.ensures c.if-ends_at.true

pub returns-clause-found : goal.returns-clause-found
returns-clause-found c =
    let test = passes_key c.args.self (str_name c.args.name) (str_name c.args.key) in
    searches-ends_found test c.args.order (any_document c.args.document) _ _ c.loop-number.found
    c.loop-number.invariant.1
    (none_left _ c.loop-number.number _ c.loop-number.invariant.0 (omega arith))

pub returns-clause-none : goal.returns-clause-none
returns-clause-none c =
    let test = passes_key c.args.self (str_name c.args.name) (str_name c.args.key) in
    searches-ends_none test c.args.order (any_document c.args.document) _ _ c.loop-number.found
    c.loop-number.invariant.1
    (none_left _ c.loop-number.number _ c.loop-number.invariant.0 (omega arith))
