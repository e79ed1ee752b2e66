-- A text may be cut before its first letter.
use Rattle.std.proofs.Common.{◌≡◌, ℕ, ◌<◌, ◌≤◌, true, List, arith, get_or, length, IsCharBoundary, not}
use Rattle.std.proofs.lemmas.Bool.Decides.{nat_tests}
use Rattle.std.proofs.lemmas.List.Sums.{passes_at_first, prefix_len-le-length}
use Rattle.std.specs.Char.{is_ascii_alphabetic}
use Rattle.std.specs.List.{position_or_len}

first_within : (bs : List ℕ) → position_or_len is_ascii_alphabetic bs ≤ length bs
first_within bs = prefix_len-le-length (λ c. not (is_ascii_alphabetic c)) bs

low_letter : (c : ℕ) → is_ascii_alphabetic c ≡ true → c < 128
low_letter c letter = grind (arith, nat_tests, letter)

pub letter_boundary : (bs : List ℕ) → IsCharBoundary bs (position_or_len is_ascii_alphabetic bs)
letter_boundary bs = (
  first_within bs,
  λ inside high.
      let low : get_or bs (position_or_len is_ascii_alphabetic bs) 0 < 128 =
      low_letter _ (passes_at_first is_ascii_alphabetic bs 0 inside) in
      let more : 128 ≤ get_or bs (position_or_len is_ascii_alphabetic bs) 0 = high in
      absurd (omega (arith, low, more)),
)
