use Rattle.std.proofs.Common.{◌≡◌, length, map, string_bytes}
use Rattle.ini_file.specs.CheckWords.{is_reported}
use Rattle.ini_file.proofs.reported.is_reported.Given as goal

abbrev pub invariant-words : goal.invariant-words
invariant-words l = is_reported l.trap l.is_so (map string_bytes l.rest)
    ≡ is_reported l.trap l.before (map string_bytes l.choices)

abbrev pub decreases-words : goal.decreases-words
decreases-words l = length l.rest
