use Rattle.std.proofs.Common.{◌∙◌, ap, sym}
use Rattle.ini.specs.Texts.{str_name}
use Rattle.ini.specs.Documents.{sections_named}
use Rattle.ini.proofs.SectionLemmas.{sections_named-sections}
use Rattle.ini.proofs.document.Ini.section_all.Goals as goal

pub returns-clause-sections : goal.returns-clause-sections
returns-clause-sections c =
    c.new.ensures
    ∙ c.get_all.ensures.values
    ∙ sym (sections_named-sections c.self.inside.sections c.args.name c.name_is_text.ensures)
    ∙ ap (sections_named (str_name c.args.name)) c.self.view_is
