use Rattle.std.proofs.Common.{◌≡◌, ◌∙◌, ap, rules}
use Rattle.ini.specs.Documents.{value_in}
use Rattle.ini_dialect.specs.Flattened.{listed, told, told_name}
use Rattle.ini_dialect.specs.Walks.{any_document}
use Rattle.ini_dialect.proofs.FlattenedLemmas.{lists-answer}
use Rattle.ini_dialect.proofs.rule.Lookup.listed.Goals as goal

pub returns-clause-answers : goal.returns-clause-answers
returns-clause-answers c name key =
    let is : c.loop-name.lists ≡ listed c.args.self (any_document c.args.document) = search rules in
    ap (value_in (told_name c.args.self.case name) (told c.args.self.case key)) is
    ∙ lists-answer c.args.self (any_document c.args.document) name key
