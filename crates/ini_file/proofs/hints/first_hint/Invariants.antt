use Rattle.std.proofs.Common.{◌≡◌, length}
use Rattle.ini_file.specs.Hints.{first_hint}
use Rattle.ini_file.proofs.hints.first_hint.Given as goal

abbrev pub invariant-warnings : goal.invariant-warnings
invariant-warnings l = first_hint l.rest ≡ first_hint l.warnings

abbrev pub decreases-warnings : goal.decreases-warnings
decreases-warnings l = length l.rest
