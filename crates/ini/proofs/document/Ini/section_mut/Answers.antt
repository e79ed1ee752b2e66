use Rattle.std.proofs.Common.{◌∙◌, ap, sym}
use Rattle.std.specs.Map.{set_value}
use Rattle.std.specs.Option.{ghost_name_of, option_copied_mut}
use borrow.Follows.Closed.{read_of}
use Rattle.ini.specs.Texts.{is_name, str_name}
use Rattle.ini.specs.Documents.{first_section}
use Rattle.ini.specs.Properties.{Pairs}
use Rattle.ini.proofs.EditLemmas.{if_none, set_section-none}
use Rattle.ini.proofs.SectionLemmas.{first_section-sections, set-sections}
use Rattle.ini.proofs.document.Ini.section_mut.Goals as goal

pub returns : goal.returns
returns c =
    let name = c.args.name in
    let sections = c.self.inside.sections in
    let text = c.name_is_text.ensures in
    let section = c.get_mut.ensures.value
    ∙ sym (first_section-sections sections name text)
    ∙ ap (first_section (str_name name)) c.self.view_is in
    let set = λ (ps : Pairs). sym (set-sections sections name text ps)
    ∙ ap (λ d. set_value (is_name (str_name name)) d ps) c.self.view_is in (
      (λ j. read_of (ghost_name_of c.get_mut.result) (λ ps. set ps j) (c.self.view_is j)),
      record {
        writes_back = tt;
        section = section;
        none_to_set = if_none c.get_mut.result
            (λ none pairs. set_section-none (str_name name) c.args.self.now pairs
            (sym section ∙ ap option_copied_mut none));
      },
    )
