use Rattle.ini_file.proofs.ChangeLemmas.{of-no_value, of-new_value}
use Rattle.ini_file.proofs.edit_lines.new_of.Goals as goal

pub returns-in-Some : goal.returns-in-Some
returns-in-Some c = rw c.in-Some.is (of-new_value c.in-Some.value.now)

pub returns-in-None : goal.returns-in-None
returns-in-None c = rw c.in-None.is of-no_value
