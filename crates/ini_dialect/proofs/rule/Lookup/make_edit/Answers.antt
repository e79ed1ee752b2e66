use Rattle.ini_dialect.proofs.rule.Lookup.make_edit.Goals as goal

pub returns-in-SetExisting-clause-refused : goal.returns-in-SetExisting-clause-refused
returns-in-SetExisting-clause-refused c = rw c.in-SetExisting.is c.set_existing_in_text.ensures.refused

pub returns-in-RenameSection-clause-refused : goal.returns-in-RenameSection-clause-refused
returns-in-RenameSection-clause-refused c =
    rw c.in-RenameSection.is c.rename_section_in_text.ensures.refused

pub returns-in-RenameKey-clause-refused : goal.returns-in-RenameKey-clause-refused
returns-in-RenameKey-clause-refused c = rw c.in-RenameKey.is c.rename_key_in_text.ensures.refused
