use Rattle.std.proofs.Common.{◌∙◌, ap, arith, length, sym}
use Rattle.ini.specs.Texts.{str_name}
use Rattle.ini.specs.Documents.{sections_named}
use Rattle.ini.proofs.SectionLemmas.{sections_named-sections}
use Rattle.ini.proofs.document.Ini.section_all_mut.Goals as goal

pub returns : goal.returns
returns c = record {
  sections =
      c.new.ensures
      ∙ c.get_all_mut.ensures.values
      ∙ sym (sections_named-sections c.self.inside.sections c.args.name c.name_is_text.ensures)
      ∙ ap (sections_named (str_name c.args.name)) c.self.view_is;
  countable = omega (arith, ap length c.new.ensures, c.get_all_mut.ensures.countable);
}
