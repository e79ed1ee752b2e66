-- Bytes that are gathered in a block.
use Rattle.std.proofs.Common.{◌≡◌, ℕ, ◌+◌, ◌/◌, ◌%◌, ◌<◌, ◌≤◌, List, [], ◌∷◌, ◌++◌, refl, ◌∙◌, arith, ltb}
use Rattle.std.proofs.Common.{true, false}
use Rattle.std.proofs.lemmas.Bool.Decides.{nat_tests}
use lib.Utf8.{encode}

-- the two bytes of a character
pub two_bytes : {new : List ℕ} (old : List ℕ) (a b c : ℕ) → new ≡ old ++ a ∷ b ∷ [] → a ≡ 192 + c / 64
    → b ≡ 128 + c % 64 → 128 ≤ c → c < 2048 → new ≡ old ++ encode c
unfolding encode
two_bytes old a b c is is_a is_b high low =
    let past : ltb c 128 ≡ false = grind (arith, nat_tests) in
    let below : ltb c 2048 ≡ true = grind (arith, nat_tests) in
    is ∙ rw (past, below) (rw (is_a, is_b) refl)
