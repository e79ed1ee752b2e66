use Rattle.ini.specs.Texts.{name_of}
use Rattle.ini.proofs.EditLemmas.{stays_there}
use Rattle.ini.proofs.entry.SectionOccupiedEntry.append.Goals as goal

pub invariant_of-self : goal.invariant_of-self
invariant_of-self c =
    let appended = c.append_section.ensures in
    record {
      present = stays_there c.append_section.result (name_of c.args.self.now.name)
          c.args.self.now.ini.now _ c.append_section.new.self appended.appended appended.unchanged
          c.args.self.now.present;
    }
