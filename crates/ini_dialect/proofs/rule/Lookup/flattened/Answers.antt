use Rattle.std.proofs.Common.{◌∙◌, ap}
use Rattle.ini.specs.Documents.{value_in}
use Rattle.ini_dialect.specs.Flattened.{told, told_name}
use Rattle.ini_dialect.specs.Walks.{any_document}
use Rattle.ini_dialect.proofs.FlattenedLemmas.{flat-answers}
use Rattle.ini_dialect.proofs.rule.Lookup.flattened.Goals as goal

pub returns-clause-answers : goal.returns-clause-answers
returns-clause-answers c name key =
    ap (value_in (told_name c.args.self.case name) (told c.args.self.case key)) c.in_ok-flat.ensures.put
    ∙ flat-answers c.args.self (any_document c.args.document) name key
