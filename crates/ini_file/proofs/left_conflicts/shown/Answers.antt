use Rattle.std.proofs.Common.{refl}
use Rattle.std.proofs.lemmas.Str.{chars-nil}
use Rattle.ini_file.proofs.ChangeLemmas.{chars-colon, chars-has_none}
use Rattle.ini_file.proofs.left_conflicts.shown.Goals as goal

pub returns-in-Some : goal.returns-in-Some
returns-in-Some c = λ side. rw (c.in-Some.is, chars-colon) refl

pub returns-in-None : goal.returns-in-None
returns-in-None c = λ side. rw (c.in-None.is, chars-has_none, chars-nil) refl
