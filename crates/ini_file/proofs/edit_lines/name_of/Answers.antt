use Rattle.ini_file.proofs.ChangeLemmas.{of-no_name, of-name}
use Rattle.ini_file.proofs.edit_lines.name_of.Goals as goal

pub returns-in-Some : goal.returns-in-Some
returns-in-Some c = rw c.in-Some.is (of-name c.in-Some.name.now)

pub returns-in-None : goal.returns-in-None
returns-in-None c = rw c.in-None.is of-no_name
