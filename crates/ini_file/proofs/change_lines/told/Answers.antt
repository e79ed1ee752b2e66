use Rattle.std.proofs.Common.{refl}
use Rattle.std.proofs.lemmas.Str.{chars-nil}
use Rattle.ini_file.proofs.ChangeLemmas.{chars-has_none, chars-is}
use Rattle.ini_file.proofs.change_lines.told.Goals as goal

pub returns-in-Some : goal.returns-in-Some
returns-in-Some c = rw (c.in-Some.is, chars-is) refl

pub returns-in-None : goal.returns-in-None
returns-in-None c = rw (c.in-None.is, chars-has_none, chars-nil) refl
