-- Tables of bytes, held against their definitions at each byte, by computing.
use Rattle.std.proofs.Common.{◌≡◌, ◌≢◌, ℕ, ◌<◌, Bool, true, false, not, ◌&&◌, ◌||◌, List, get_or, nat_eq}
use Rattle.std.proofs.Common.{nat_lt, unwrap_or, refl, ap, ◌∙◌, arith, lt-ltb, eqb-true}
use Rattle.std.specs.Char.{digit_value}
use Rattle.std.proofs.lemmas.Bool.{agree_below, agree_below_at, and_parts}
use Rattle.std.proofs.lemmas.Bool.Decides.{nat_tests}
use Rattle.ini_text.specs.declared.parser.tables.TheConstants.{DIGITS, LETTERS}
use Rattle.ini_text.specs.Grammar.EscapeSequences.{control}

-- a test that holds of the entry at each byte below n holds of the entry at b
pub tested : (test : ℕ → ℕ → Bool) (table : List ℕ) (n b e : ℕ)
    → agree_below (λ k. test (get_or table k 0) k) (λ k. true) n ≡ true → b < n → e ≡ get_or table b 0
    → test e b ≡ true
tested test table n b e all within is =
    ap (λ x. test x b) is ∙ agree_below_at (λ k. test (get_or table k 0) k) (λ k. true) n b all within

pub past_not : (x y : Bool) → (not x || y) ≡ true → x ≡ true → y ≡ true
past_not true y h q = h
past_not false y h q = cc

abbrev is_digit_of : ℕ → ℕ → Bool
is_digit_of e b = not (nat_lt e 16) || (nat_eq e (digit_value b) && nat_lt b 128)

pub digit_found : (b e : ℕ) → b < 256 → e ≡ get_or DIGITS b 0 → e < 16 → (e ≡ digit_value b) × (b < 128)
digit_found b e within is small =
    let both = and_parts (nat_eq e (digit_value b)) (nat_lt b 128)
    (past_not _ _ (tested is_digit_of DIGITS 256 b e refl within is) (lt-ltb e 16 small)) in
    (eqb-true e (digit_value b) both.0, grind (arith, nat_tests))

abbrev is_letter_of : ℕ → ℕ → Bool
is_letter_of e b =
    not (nat_lt e 128)
    || (nat_eq e (unwrap_or (control b) b) && (nat_lt b 128 && (not (nat_eq b 120) && not (nat_eq b 10))))

pub letter_found : (b e : ℕ) → b < 256 → e ≡ get_or LETTERS b 0 → e < 128
    → (e ≡ unwrap_or (control b) b) × ((b < 128) × (b ≢ 120) × (b ≢ 10))
letter_found b e within is small =
    let both =
    and_parts _ _
    (past_not _ _ (tested is_letter_of LETTERS 256 b e refl within is) (lt-ltb e 128 small)) in (
      eqb-true e (unwrap_or (control b) b) both.0,
      (grind (arith, nat_tests), grind (arith, nat_tests), grind (arith, nat_tests)),
    )
