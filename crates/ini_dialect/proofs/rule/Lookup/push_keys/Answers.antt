use Rattle.std.proofs.Common.{◌≡◌, ◌∙◌, arith, false, true}
use Rattle.ini.specs.Texts.{str_text}
use Rattle.ini_dialect.specs.Lookups.{text_fits}
use Rattle.ini_dialect.proofs.KeyLemmas.{kept-known, kept-new}
use Rattle.ini_dialect.proofs.rule.Lookup.push_keys.Goals as goal

pub loop-key-preserved-in-Continue-1 : goal.loop-key-preserved-in-Continue-1
loop-key-preserved-in-Continue-1 c =
    let new : c.is_among.result ≡ false = grind arith in
    kept-new (text_fits c.args.self.case) str_text c.loop-key.keys.items c.as_slice.result.now
    c.in-Some.key _ _ _
    c.is_among.result c.in-Some.ensures.steps c.as_slice.ensures.value c.is_among.ensures _ new
    c.in_ok-push.ensures.items
    ∙ c.loop-key.invariant

pub loop-key-preserved : goal.loop-key-preserved
loop-key-preserved c =
    let known : c.is_among.result ≡ true = grind arith in
    kept-known (text_fits c.args.self.case) str_text c.loop-key.keys.items c.as_slice.result.now
    c.in-Some.key _ _ _
    c.is_among.result c.in-Some.ensures.steps c.as_slice.ensures.value c.is_among.ensures known
    ∙ c.loop-key.invariant
