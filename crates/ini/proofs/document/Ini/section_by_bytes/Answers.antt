use Rattle.std.proofs.Common.{◌∙◌, ap, sym, Option, None, Some, IsSome, is_some}
use Rattle.std.specs.Borrow.{Bor}
use Rattle.std.specs.Option.{option_copied}
use Rattle.ini.specs.Documents.{first_section}
use Rattle.ini.specs.Texts.{str_name}
use Rattle.ini.proofs.SectionLemmas.{first_section-sections, found_by_text}
use Rattle.ini.proofs.document.Ini.section_by_bytes.Goals as goal

copied_is_some : {T : Type 0} (r : Option (Bor T)) → IsSome r → IsSome (option_copied r)
copied_is_some None h = h
copied_is_some (Some x) h = h

pub returns-clause-text : goal.returns-clause-text
returns-clause-text c some = found_by_text c.args.bytes c.self.inside.sections
    (ap is_some (sym c.get.ensures) ∙ copied_is_some c.get.result some)

pub returns-clause-section : goal.returns-clause-section
returns-clause-section c utf8 =
    c.get.ensures
    ∙ sym (first_section-sections c.self.inside.sections c.args.bytes (record { utf8 = utf8 }))
    ∙ ap (first_section (str_name c.args.bytes)) c.self.view_is
