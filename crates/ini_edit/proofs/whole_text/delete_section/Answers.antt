use Rattle.std.proofs.Common.{◌∙◌, Some, chars, sym}
use Rattle.ini_edit.specs.SourcePlaces.{section_place}
use Rattle.ini_edit.proofs.SourceFoundLemmas.{found_nothing}
use Rattle.ini_edit.proofs.WholeTextLemmas.{lacks_section, read_in_pieces}
use Rattle.ini_edit.proofs.whole_text.delete_section.Goals as goal

pub returns-clause-edited : goal.returns-clause-edited
returns-clause-edited c =
    let read = c.in_ok-source.ensures in
    let name = Some (chars c.args.name.now) in
    lacks_section (read_in_pieces read.option read.text read.placed read.document) name
    (found_nothing (section_place name c.in_ok-source.source.sections)
    (sym c.if-branch.false ∙ c.in_ok-delete_section.ensures.found))
