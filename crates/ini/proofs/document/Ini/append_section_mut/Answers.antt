use Rattle.std.proofs.Common.{inl}
use Rattle.ini.specs.Texts.{name_of}
use Rattle.ini.proofs.LastSectionLemmas.{last_pushed, value_pushed}
use Rattle.ini.proofs.document.Ini.append_section_mut.Goals as goal

pub returns-in-Ok : goal.returns-in-Ok
returns-in-Ok c =
    let d = c.args.self.now in
    let name = name_of c.args.name in
    let pushed = c.in-Ok.ensures.appended in (
      (λ j.
          inl (
            c.last_section_mut.result.ghost_name,
            λ w. last_pushed name c.args.section d c.append_section.new.self pushed w j,
          )),
      record {
        writes_back = tt;
        value = value_pushed name c.args.section d c.append_section.new.self pushed
            c.last_section_mut.result.now c.last_section_mut.ensures.section;
        handed_back = tt;
      },
    )
