use Rattle.std.proofs.Common.{◌≡◌, ◌∙◌, arith, false, true}
use Rattle.ini.specs.Texts.{str_name}
use Rattle.ini_dialect.specs.Lookups.{name_fits}
use Rattle.ini_dialect.proofs.KeyLemmas.{kept-known, kept-new}
use Rattle.ini_dialect.proofs.rule.Lookup.sections.Goals as goal

pub loop-name-preserved-in-Continue-1 : goal.loop-name-preserved-in-Continue-1
loop-name-preserved-in-Continue-1 c =
    let new : c.is_among_names.result ≡ false = grind arith in
    kept-new (name_fits c.args.self.case) str_name c.loop-name.names.items c.as_slice.result.now
    c.in-Some.name _ _ _
    c.is_among_names.result c.in-Some.ensures.steps c.as_slice.ensures.value c.is_among_names.ensures _ new
    c.in_ok-push.ensures.items
    ∙ c.loop-name.invariant

pub loop-name-preserved : goal.loop-name-preserved
loop-name-preserved c =
    let known : c.is_among_names.result ≡ true = grind arith in
    kept-known (name_fits c.args.self.case) str_name c.loop-name.names.items c.as_slice.result.now
    c.in-Some.name _ _ _
    c.is_among_names.result c.in-Some.ensures.steps c.as_slice.ensures.value c.is_among_names.ensures known
    ∙ c.loop-name.invariant
