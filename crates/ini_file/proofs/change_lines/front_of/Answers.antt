use Rattle.std.proofs.Common.{refl}
use Rattle.std.proofs.lemmas.Str.{chars-nil}
use Rattle.ini_file.proofs.ChangeLemmas.{chars-close, chars-open}
use Rattle.ini_file.proofs.change_lines.front_of.Goals as goal

pub returns-in-Some : goal.returns-in-Some
returns-in-Some c = rw (c.in-Some.is, chars-open, chars-close) refl

pub returns-in-None : goal.returns-in-None
returns-in-None c = rw (c.in-None.is, chars-nil) refl
