use Rattle.std.proofs.Common.{◌≡◌, ℕ, ◌<◌, get_or, false}
use Rattle.std.specs.Char.{is_ascii_alphabetic}
use Rattle.ini_dialect.proofs.typed.number_len.Given as goal

-- no letter so far
abbrev pub invariant-loop-i : goal.invariant-loop-i
invariant-loop-i l = (k : ℕ) → k < l.i → is_ascii_alphabetic (get_or l.text k 0) ≡ false
