use Rattle.std.proofs.Common.{◌∙◌, ap, chars, sym}
use Rattle.ini.specs.Documents.{value_in}
use Rattle.ini.specs.Texts.{str_name}
use Rattle.ini_layers.proofs.FindingLemmas.{nothing_there}
use Rattle.ini_layers.proofs.finder.Finder.find.Goals as goal

pub returns-in-Nothing-clause-found : goal.returns-in-Nothing-clause-found
returns-in-Nothing-clause-found c =
    let name = str_name c.args.name in
    let key = chars c.args.key.now in
    nothing_there name key c.args.source.now.sections
    (ap (value_in name key) (sym c.requires.document) ∙ c.in-Nothing.ensures)
