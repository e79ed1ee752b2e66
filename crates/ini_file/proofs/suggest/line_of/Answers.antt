use Rattle.std.proofs.Common.{append_assoc}
use Rattle.ini_file.proofs.suggest.line_of.Goals as goal

pub returns : goal.returns
returns c = simp append_assoc c.in_ok-format.ensures.ok
