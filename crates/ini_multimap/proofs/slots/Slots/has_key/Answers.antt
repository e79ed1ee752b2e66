use Rattle.std.proofs.Common.{sym, ◌∙◌, ap}
use Rattle.ini_multimap.proofs.SlotLemmas.{code_within}
use Rattle.ini_multimap.proofs.WalkLemmas.{any_before, back_misses, back_starts, before_hit, candidate}
use Rattle.ini_multimap.proofs.WalkLemmas.{is_more}
use Rattle.ini_multimap.proofs.slots.Slots.has_key.Goals as goal

pub candidate_before-before-requires : goal.candidate_before-before-requires
candidate_before-before-requires g c =
    code_within g.K.MapKey.key_code c.args.self.now.keys c.args.at (g.K.MapKey.key_code c.args.key.now)
    c.requires

pub loop-before-init : goal.loop-before-init
loop-before-init g c =
    let slots = c.args.self.now in
    let code = g.K.MapKey.key_code in
    let k = code c.args.key.now in
    back_starts (λ p f. sym (g.met.K.MapKey.equal_codes c.args.key.now p f)) slots.is_chained slots.keys
    slots.values c.candidate_before-before.result c.args.at
    (c.candidate_before-before.ensures k
    (candidate slots.is_chained code k slots.keys c.args.at c.requires))

pub returns-then-is_some : goal.returns-then-is_some
returns-then-is_some g c =
    let slots = c.args.self.now in
    let test = g.K.PartialEq.eq c.args.key.now in
    let now = rw c.in-Some.is at c.loop-before.invariant in
    sym (any_before test slots.keys slots.values c.args.at ∙ ap is_more (now.2
    ∙ before_hit test slots.keys slots.values c.in-Some.s
    (sym (c.if-is_some.ensures ∙ c.fitting_value.ensures.fits))))

pub loop-before-preserved : goal.loop-before-preserved
loop-before-preserved g c =
    let slots = c.args.self.now in
    let now = rw c.in-Some.is at c.loop-before.invariant in
    back_misses (λ p f. sym (g.met.K.MapKey.equal_codes c.args.key.now p f)) slots.is_chained slots.keys
    slots.values c.candidate_before-before-in-Some.result c.args.at c.in-Some.s now
    (c.candidate_before-before-in-Some.ensures (g.K.MapKey.key_code c.args.key.now) now.0)
    (sym (c.if-is_some.ensures ∙ c.fitting_value.ensures.fits))

pub returns : goal.returns
returns g c =
    let slots = c.args.self.now in
    sym (any_before (g.K.PartialEq.eq c.args.key.now) slots.keys slots.values c.args.at
    ∙ ap is_more (rw c.in_default.is at c.loop-before.invariant))
