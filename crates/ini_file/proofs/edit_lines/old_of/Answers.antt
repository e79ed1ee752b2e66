use Rattle.ini_file.proofs.ChangeLemmas.{of-no_value, of-old}
use Rattle.ini_file.proofs.edit_lines.old_of.Goals as goal

pub returns-in-Some : goal.returns-in-Some
returns-in-Some c = rw c.in-Some.is (of-old c.in-Some.value.now)

pub returns-in-None : goal.returns-in-None
returns-in-None c = rw c.in-None.is of-no_value
