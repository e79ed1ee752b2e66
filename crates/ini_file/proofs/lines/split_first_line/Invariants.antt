use Rattle.std.proofs.Common.{◌≡◌, ℕ, ◌<◌, get_or}
use Rattle.ini_text.specs.Grammar.CharacterKinds.{line_feed}
use Rattle.ini_file.proofs.lines.split_first_line.Given as goal

abbrev pub invariant-loop-at : goal.invariant-loop-at
invariant-loop-at l = (k : ℕ) → k < l.at → get_or l.bytes k 0 ≡ line_feed → ⊥
