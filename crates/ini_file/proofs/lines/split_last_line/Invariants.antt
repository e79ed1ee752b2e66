use Rattle.std.proofs.Common.{◌≡◌, ℕ, ◌+◌, ◌<◌, ◌≤◌, get_or, length}
use Rattle.ini_text.specs.Grammar.CharacterKinds.{line_feed}
use Rattle.ini_file.proofs.lines.split_last_line.Given as goal

abbrev pub invariant-back : goal.invariant-back
invariant-back l =
    (l.at < length l.bytes)
    × ((k : ℕ) → l.at ≤ k → k + 1 < length l.bytes → get_or l.bytes k 0 ≡ line_feed → ⊥)

abbrev pub decreases-back : goal.decreases-back
decreases-back l = l.at
