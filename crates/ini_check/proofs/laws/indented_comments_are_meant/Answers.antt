use Rattle.std.proofs.Common.{refl}
use Rattle.std.proofs.Math.Bool.{and-false}
use Rattle.ini_check.specs.Traps.Keys.{has_line_end}
use Rattle.ini_check.proofs.CommentLemmas.{indented_unwarned, key_unmarked, note_unwarned}
use Rattle.ini_check.proofs.laws.indented_comments_are_meant.Goals as goal

pub returns-clause-runs_on : goal.returns-clause-runs_on
returns-clause-runs_on c o b k r key on front = rw (key_unmarked o on front) (and-false (has_line_end k))

pub returns-clause-begins : goal.returns-clause-begins
returns-clause-begins c o b k r key on front = rw (key_unmarked o on front) refl

pub returns-clause-indented : goal.returns-clause-indented
returns-clause-indented c b w s r ind n = indented_unwarned b w ind n

pub returns-clause-after_cr : goal.returns-clause-after_cr
returns-clause-after_cr c b s r n = note_unwarned b n
