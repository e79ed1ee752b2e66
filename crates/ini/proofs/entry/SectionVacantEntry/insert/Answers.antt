use Rattle.std.proofs.Common.{[], ◌∷◌, sym}
use Rattle.std.specs.Borrow.{name_if_ok}
use borrow.Follows.Closed.{read_of}
use Rattle.ini.specs.Texts.{name_of}
use Rattle.ini.proofs.EditLemmas.{edit_section-last}
use Rattle.ini.proofs.entry.SectionVacantEntry.insert.Goals as goal

pub returns : goal.returns
returns c =
    let name = name_of c.args.self.name in
    let d = c.args.self.ini.now in (
      (λ j. read_of (name_if_ok (λ x. x.ghost_name) c.append_section_mut.result)
          (λ w. sym (edit_section-last name (λ _. w) ((name, w) ∷ []) d c.args.self.absent) j) d),
      record {
        writes_back = tt;
        value = c.append_section_mut.ensures.value;
        handed_back = c.append_section_mut.ensures.handed_back;
      },
    )
