use Rattle.std.proofs.Common.{[], refl}
use Rattle.std.proofs.lemmas.Bool.{both_ways}
use Rattle.ini_edit.proofs.key.key_start.Goals as goal

pub returns-then-read : goal.returns-then-read
returns-then-read c = record {
  begins = record { white = []; whole = refl; all = refl };
  kept = λ _. refl;
  no_more = λ off. absurd (both_ways c.args.read.enabled_preserve_key_leading_whitespace off c.if-read.true);
}
