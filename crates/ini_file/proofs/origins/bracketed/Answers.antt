use Rattle.std.proofs.Common.{refl}
use Rattle.std.proofs.lemmas.Str.{chars-nil}
use Rattle.ini.proofs.WritingLemmas.{chars-close_bracket, chars-open_bracket}
use Rattle.ini_file.proofs.OriginLemmas.{nothing-in}
use Rattle.ini_file.proofs.origins.bracketed.Goals as goal

pub returns-in-Some : goal.returns-in-Some
returns-in-Some c = rw (c.in-Some.is, chars-open_bracket, chars-close_bracket) refl

pub returns-in-None : goal.returns-in-None
returns-in-None c = rw (c.in-None.is, chars-nil, nothing-in) refl
