use Rattle.std.proofs.Common.{[], ◌∷◌, refl, sym}
use Rattle.ini.specs.Texts.{name_of}
use Rattle.ini.proofs.EditLemmas.{edit_section-there}
use Rattle.ini.proofs.entry.SectionOccupiedEntry.into_mut.Goals as goal

pub returns : goal.returns
returns c =
    let name = name_of c.args.self.name in
    let section = c.first_section_mut.ensures.section in (
      (
        refl,
        λ w.
            sym (edit_section-there name (λ _. w) ((name, w) ∷ []) c.args.self.ini.now
            c.first_section_mut.result.now section),
      ),
      record { writes_back = tt; section = section },
    )
