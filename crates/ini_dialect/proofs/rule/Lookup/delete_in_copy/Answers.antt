use Rattle.std.proofs.Common.{chars}
use Rattle.ini.specs.Texts.{str_name}
use Rattle.ini_dialect.proofs.EditLemmas.{copied-more, delete-step}
use Rattle.ini_dialect.proofs.rule.Lookup.delete_in_copy.Goals as goal

pub loop-other-preserved : goal.loop-other-preserved
loop-other-preserved c =
    let step =
    delete-step c.args.self (str_name c.args.name) (chars c.args.key.now) _ _ c.loop-other.looking _
    c.names_fit-named.result c.both.result _ _ _ c.in-Some.ensures.steps c.names_fit-named.ensures
    c.both.ensures
    c.in_ok-pairs.ensures.copied c.looks_on-looking.ensures in
    copied-more c.loop-other.edited _ _ _ _ _ c.loop-other.invariant step
    c.in_ok-append_section.ensures.appended
