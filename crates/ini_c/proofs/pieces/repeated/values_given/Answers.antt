use Rattle.std.proofs.Common.{rules, ◌∙◌, ap, get_or, map, refl, subst, sym}
use Rattle.std.proofs.lemmas.List.{map_push}
use Rattle.ini.specs.Texts.{str_text}
use Rattle.ini_c.proofs.GivenLemmas.{GivenUpTo, given_end, given_start, none_given, one_more, values_end}
use Rattle.ini_c.proofs.pieces.repeated.values_given.Goals as goal

pub loop-count-init : goal.loop-count-init
loop-count-init c =
    subst (λ l. GivenUpTo c.args.bytes.now c.args.counts.now 0 c.args.bytes.now (map str_text l))
    (sym c.new-values.ensures.items) (given_start c.args.bytes.now c.args.counts.now)

pub returns-in_default-clause-not_utf8 : goal.returns-in_default-clause-not_utf8
returns-in_default-clause-not_utf8 c = λ _.
    none_given c.args.bytes.now c.args.counts.now c.loop-count.invariant
    (get_or c.args.counts.now c.loop-count.count-index 0) c.loop-count-test.true refl (search rules)

pub loop-count-preserved : goal.loop-count-preserved
loop-count-preserved c =
    subst (GivenUpTo c.args.bytes.now c.args.counts.now _ _)
    (sym (map_push str_text c.loop-count.values.items c.in-Some.value)
    ∙ ap (map str_text) (sym c.in-Ok.ensures.items))
    (one_more c.args.bytes.now c.args.counts.now c.loop-count.invariant _ c.loop-count-test.true
    (search rules) (search rules) c.in-Some.ensures.text c.in-Some.ensures.rest)

pub returns-clause-values : goal.returns-clause-values
returns-clause-values c =
    values_end c.args.bytes.now c.args.counts.now c.loop-count.invariant c.loop-count-test.false

pub returns-clause-given : goal.returns-clause-given
returns-clause-given c =
    given_end c.args.bytes.now c.args.counts.now c.loop-count.invariant c.loop-count-test.false
