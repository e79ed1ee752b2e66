use Rattle.std.proofs.Common.{chars, refl}
use Rattle.std.proofs.lemmas.Result.{IfOk-weaker}
use Rattle.ini.specs.Texts.{str_name}
use Rattle.ini_dialect.proofs.PutUnderLemmas.{refuses_so, sets_there}
use Rattle.ini_dialect.proofs.rule.Lookup.set_existing_in_source.Goals as goal

pub returns-in_default-clause-set : goal.returns-in_default-clause-set
returns-in_default-clause-set c = (refl, c.in_default.ensures.none)

pub returns-clause-set : goal.returns-clause-set
returns-clause-set c =
    IfOk-weaker c.set_at.result _ _
    (λ found set. sets_there c.args.self (str_name c.args.name) (chars c.args.key.now)
    c.args.source.now.option c.args.policy (chars c.args.value.now) c.args.source.now c.set_at.new.self found
    c.in-Some.ensures.found set) c.set_at.ensures.set

pub returns-clause-refused : goal.returns-clause-refused
returns-clause-refused c =
    refuses_so c.args.source.now.option c.args.policy (chars c.args.value.now) c.set_at.result
    c.set_at.ensures.value c.set_at.ensures.only
