use Rattle.std.proofs.Common.{◌∙◌, chars, sym}
use Rattle.ini.specs.Texts.{str_name}
use Rattle.ini_edit.specs.SourcePlaces.{pair_place}
use Rattle.ini_edit.proofs.SourceFoundLemmas.{found_nothing}
use Rattle.ini_edit.proofs.WholeTextLemmas.{lacks_pair, read_in_pieces}
use Rattle.ini_edit.proofs.whole_text.delete.Goals as goal

pub returns-clause-edited : goal.returns-clause-edited
returns-clause-edited c =
    let read = c.in_ok-source.ensures in
    let name = str_name c.args.name in
    let key = chars c.args.key.now in
    lacks_pair (read_in_pieces read.option read.text read.placed read.document) name key
    (found_nothing (pair_place name key 0 c.in_ok-source.source.sections)
    (sym c.if-branch.false ∙ c.in_ok-delete.ensures.found))
