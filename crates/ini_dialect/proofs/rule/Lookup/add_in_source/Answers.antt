use Rattle.std.proofs.Common.{chars}
use Rattle.std.proofs.lemmas.Result.{IfErr-weaker, on_ok_weaker}
use Rattle.ini.specs.Texts.{str_name}
use Rattle.ini_dialect.specs.SourceLookups.{RefusesUnder}
use Rattle.ini_dialect.proofs.PutUnderLemmas.{adds_anew}
use Rattle.ini_dialect.proofs.rule.Lookup.add_in_source.Goals as goal

pub add_in_section-requires : goal.add_in_section-requires
add_in_section-requires c = c.in-Some.ensures.found

pub returns-in-None-clause-added : goal.returns-in-None-clause-added
returns-in-None-clause-added c =
    on_ok_weaker c.add.result
    (λ added. adds_anew c.args.self (str_name c.args.name) (chars c.args.key.now) c.in-None.ensures.none
    added) c.add.ensures.added

pub returns-in-None-clause-refused : goal.returns-in-None-clause-refused
returns-in-None-clause-refused c =
    IfErr-weaker c.add.result _ _ (λ e refused. RefusesUnder.in_new_section c.in-None.ensures.none refused)
    c.add.ensures.refused
