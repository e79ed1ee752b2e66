use Rattle.std.proofs.Common.{◌∙◌, chars}
use Rattle.ini_dialect.proofs.EditLemmas.{valued-counts}
use Rattle.ini_dialect.proofs.rule.Lookup.set_in_pairs.Goals as goal

pub returns-in_ok-pairs-in-Some-clause-set : goal.returns-in_ok-pairs-in-Some-clause-set
returns-in_ok-pairs-in-Some-clause-set c =
    c.in_ok-pairs-in-Some.ensures.set
    ∙ valued-counts c.args.self (chars c.args.key.now) (chars c.args.value.now) c.args.section.now
    c.in-Some.number c.in-Some.ensures.found
