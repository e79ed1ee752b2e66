use Rattle.std.proofs.Common.{chars, map, take}
use Rattle.ini_dialect.specs.Dialects.{named_shown}
use Rattle.ini_dialect.specs.Guesses.{AreGuesses}
use Rattle.ini_dialect.proofs.guessing.guesses.Given as goal

abbrev pub invariant-loop-place : goal.invariant-loop-place
invariant-loop-place l = AreGuesses (chars l.text) (map named_shown (take l.place l.all)) l.guesses.items
