use Rattle.std.proofs.Common.{◌≡◌, flat_map, take}
use Rattle.ini_file.specs.Suggestions.{suggestion}
use Rattle.ini_file.proofs.suggest.lines_of.Given as goal

abbrev pub invariant-loop-guess : goal.invariant-loop-guess
invariant-loop-guess l = l.lines.items ≡ flat_map (suggestion l.file) (take l.guess-index l.found)
