use Rattle.std.proofs.Common.{chars}
use Rattle.ini.specs.Texts.{str_name}
use Rattle.ini_dialect.specs.Walks.{any_document}
use Rattle.ini_dialect.proofs.EditLemmas.{setting-by_first, setting-by_last, setting-holder}
use Rattle.ini_dialect.proofs.rule.Lookup.setting_number.Goals as goal

pub returns-in-First : goal.returns-in-First
returns-in-First c =
    setting-by_first c.args.self (str_name c.args.name) (chars c.args.key.now) (any_document c.args.document)
    c.section_number.result c.in-First.is c.section_number.ensures.found c.section_number.ensures.none

pub returns-in-Some : goal.returns-in-Some
returns-in-Some c =
    setting-holder c.args.self (str_name c.args.name) (chars c.args.key.now) (any_document c.args.document)
    c.in-Some.number c.in-Joined.is c.in-Some.ensures.found

pub returns-in-None : goal.returns-in-None
returns-in-None c =
    setting-by_last c.args.self (str_name c.args.name) (chars c.args.key.now) (any_document c.args.document)
    c.section_number-in-None.result c.in-Joined.is c.in-None.ensures.none
    c.section_number-in-None.ensures.found c.section_number-in-None.ensures.none
