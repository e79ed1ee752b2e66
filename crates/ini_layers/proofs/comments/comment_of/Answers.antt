use Rattle.std.proofs.Common.{[], ap, unwrap_or}
use Rattle.std.proofs.lemmas.Str.{chars-nil}
use Rattle.ini_layers.proofs.comments.comment_of.Goals as goal

pub returns-in-Some : goal.returns-in-Some
returns-in-Some c = ap (λ o. unwrap_or o []) (rw c.in-Some.is at c.comment_at.ensures)

pub returns-in-None : goal.returns-in-None
returns-in-None c = rw chars-nil (ap (λ o. unwrap_or o []) (rw c.in-None.is at c.comment_at.ensures))
