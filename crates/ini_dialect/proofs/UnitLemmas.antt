-- Units of UTF-16 and their bytes, and the one byte of other encodings.
use Rattle.std.proofs.Common.{◌≡◌, ◌∙◌, ℕ, ◌+◌, ◌-◌, ◌*◌, ◌/◌, ◌%◌, ◌<◌, ◌≤◌, Bool, true, false, List, []}
use Rattle.std.proofs.Common.{◌∷◌, ◌++◌, flat_map, length, ap, arith, inl, inr, refl, sym, subst, ltb, ◌⊎◌}
use Rattle.std.proofs.lemmas.Bool.{cases_Bool}
use Rattle.std.proofs.lemmas.Bool.Decides.{nat_tests}
use lib.Utf8.{scalar_cases}
use Rattle.std.specs.Char.{IsScalar}
use Rattle.std.specs.Char.Escape.{encode_utf16}
use Rattle.ini_dialect.specs.Inside.Coding.{BeginsNoUnits, BeginsWithUnits, CompletesNoPair}
use Rattle.ini_dialect.specs.Inside.Coding.{CompletesPair, IsNoPair, unit_in, units_in}

same_unit : (u v : ℕ) → u % 256 ≡ v % 256 → u / 256 ≡ v / 256 → u ≡ v
same_unit u v low high = omega arith

-- two units whose bytes begin alike
pub one_unit : (order : Bool) (u v : ℕ) (xs ys : List ℕ) → unit_in order u ++ xs ≡ unit_in order v ++ ys
    → (u ≡ v) × (xs ≡ ys)
one_unit true u v xs ys h =
    let low : u % 256 ≡ v % 256 = cc in
    let high : u / 256 ≡ v / 256 = cc in
    let rest : xs ≡ ys = cc in
    (same_unit u v low high, rest)
one_unit false u v xs ys h =
    let low : u % 256 ≡ v % 256 = cc in
    let high : u / 256 ≡ v / 256 = cc in
    let rest : xs ≡ ys = cc in
    (same_unit u v low high, rest)

-- a character is one unit, or two
pub data Units (c : ℕ) : Type 0 where
  alone : c < 65536 → encode_utf16 c ≡ c ∷ [] → Units c
  pair : 65536 ≤ c
      → encode_utf16 c ≡ (55296 + (c - 65536) / 1024) ∷ (56320 + (c - 65536) % 1024) ∷ []
      → Units c

pub units : (c : ℕ) → Units c
units c =
    elim (cases_Bool (ltb c 65536)) [
      | inl low ↦ alone (grind (arith, nat_tests, low)) (rw low refl)
      | inr high ↦ pair (grind (arith, nat_tests, high)) (rw high refl)
    ]

units-one : (order : Bool) (u : ℕ) (more : List ℕ)
    → flat_map (unit_in order) (u ∷ []) ++ more ≡ unit_in order u ++ more
units-one true u more = refl
units-one false u more = refl

units-two : (order : Bool) (u v : ℕ) (more : List ℕ)
    → flat_map (unit_in order) (u ∷ v ∷ []) ++ more ≡ unit_in order u ++ (unit_in order v ++ more)
units-two true u v more = refl
units-two false u v more = refl

-- the first unit of a character and what follows it, among bytes that begin with the character's
units-bytes : (order : Bool) (c : ℕ) (us more bytes : List ℕ) → encode_utf16 c ≡ us
    → bytes ≡ units_in order c ++ more → bytes ≡ flat_map (unit_in order) us ++ more
units-bytes order c us more bytes is h = h ∙ ap (λ l. flat_map (unit_in order) l ++ more) is

alone-bytes : (order : Bool) (c : ℕ) (more bytes : List ℕ) → encode_utf16 c ≡ c ∷ []
    → bytes ≡ units_in order c ++ more → bytes ≡ unit_in order c ++ more
alone-bytes order c more bytes is h =
    units-bytes order c (c ∷ []) more bytes is h ∙ units-one order c more

pair-bytes : (order : Bool) (c u v : ℕ) (more bytes : List ℕ) → encode_utf16 c ≡ u ∷ v ∷ []
    → bytes ≡ units_in order c ++ more → bytes ≡ unit_in order u ++ (unit_in order v ++ more)
pair-bytes order c u v more bytes is h =
    units-bytes order c (u ∷ v ∷ []) more bytes is h ∙ units-two order u v more

-- a surrogate is no scalar
surrogate : (u : ℕ) → IsScalar u → 55296 ≤ u → u < 57344 → ⊥
surrogate u scalar low high =
    elim (scalar_cases u scalar) [ inl below ↦ absurd (omega arith) | inr above ↦ absurd (omega arith) ]

-- a scalar's high unit
high_low : (c : ℕ) → IsScalar c → 55296 + (c - 65536) / 1024 < 56320
high_low c scalar =
    elim (scalar_cases c scalar) [ inl below ↦ omega arith | inr above ↦ omega arith ]

-- characters whose units begin alike are one
pub one_character : (order : Bool) (c d : ℕ) (x y : List ℕ) → IsScalar c → IsScalar d
    → units_in order c ++ x ≡ units_in order d ++ y → (c ≡ d) × (x ≡ y)
one_character order c d x y scalar_c scalar_d h = at (units c) (units d)
  where
    at : Units c → Units d → (c ≡ d) × (x ≡ y)
    at (alone low is) (alone low' is') =
        one_unit order c d x y (
        sym (alone-bytes order c x _ is refl) ∙ h ∙ alone-bytes order d y _ is' refl)
    at (alone low is) (pair high is') =
        let same =
        one_unit order c _ x _ (
        sym (alone-bytes order c x _ is refl) ∙ h ∙ pair-bytes order d _ _ y _ is' refl) in
        let first = same.0 in
        let bound = high_low d scalar_d in
        absurd (surrogate c scalar_c (omega (arith, first)) (omega (arith, first, bound)))
    at (pair high is) (alone low' is') =
        let same =
        one_unit order _ d _ y (
        sym (pair-bytes order c _ _ x _ is refl) ∙ h ∙ alone-bytes order d y _ is' refl) in
        let first = same.0 in
        let bound = high_low c scalar_c in
        absurd (surrogate d scalar_d (omega (arith, first)) (omega (arith, first, bound)))
    at (pair high is) (pair high' is') =
        let same =
        one_unit order _ _ _ _ (
        sym (pair-bytes order c _ _ x _ is refl) ∙ h ∙ pair-bytes order d _ _ y _ is' refl) in
        let later = one_unit order _ _ x y same.1 in
        let first = same.0 in
        let second = later.0 in
        let number : c ≡ d = omega (arith, first, second, high, high') in
        (number, later.1)

-- a unit takes two bytes
unit-length : (order : Bool) (u : ℕ) (xs : List ℕ) → length (unit_in order u ++ xs) ≡ 2 + length xs
unit-length true u xs = omega arith
unit-length false u xs = omega arith

too_short : (order : Bool) (bytes : List ℕ) → length bytes < 2 → (u : ℕ) (more : List ℕ)
    → bytes ≡ unit_in order u ++ more → ⊥
too_short order bytes short u more h = absurd (omega (arith, ap length h ∙ unit-length order u more))

pub short-no_units : (order : Bool) (bytes : List ℕ) → length bytes < 2 → BeginsNoUnits order bytes
short-no_units order bytes short c more scalar h = at (units c)
  where
    at : Units c → ⊥
    at (alone low is) = too_short order bytes short c more (alone-bytes order c more bytes is h)
    at (pair high is) = too_short order bytes short _ _ (pair-bytes order c _ _ more bytes is h)

-- a character has some bytes
pub units-some : (order : Bool) (c : ℕ) → units_in order c ≡ [] → ⊥
units-some order c none = at (units c)
  where
    whole : [] ≡ units_in order c ++ []
    whole = ap (λ l. l ++ []) (sym none)

    at : Units c → ⊥
    at (alone low is) = too_short order [] (omega arith) c [] (alone-bytes order c [] [] is whole)
    at (pair high is) = too_short order [] (omega arith) _ _ (pair-bytes order c _ _ [] [] is whole)

pub short-no_pair : (order : Bool) (high : ℕ) (bytes : List ℕ) → length bytes < 2
    → CompletesNoPair order high bytes
short-no_pair order high bytes short low more h = absurd (too_short order bytes short low more h)

pub other-no_pair : (order : Bool) (high low : ℕ) (bytes rest : List ℕ) → bytes ≡ unit_in order low ++ rest
    → IsNoPair high low → CompletesNoPair order high bytes
other-no_pair order high low bytes rest h none low' more h' =
    let same = one_unit order low low' rest more (sym h ∙ h') in
    subst (IsNoPair high) same.0 none

-- a unit that is no character, and no half of one
pub unit-no_units : (order : Bool) (unit : ℕ) (bytes rest : List ℕ) → bytes ≡ unit_in order unit ++ rest
    → (IsScalar unit → ⊥) → CompletesNoPair order unit rest → BeginsNoUnits order bytes
unit-no_units order unit bytes rest h lone none c more scalar h' = at (units c)
  where
    at : Units c → ⊥
    at (alone low is) =
        let same = one_unit order unit c rest more (sym h ∙ alone-bytes order c more bytes is h') in
        lone (subst (λ u. IsScalar u) (sym same.0) scalar)
    at (pair high is) =
        let same = one_unit order unit _ rest _ (sym h ∙ pair-bytes order c _ _ more bytes is h') in
        none (56320 + (c - 65536) % 1024) more same.1 c scalar (
        is ∙ ap (λ u. u ∷ (56320 + (c - 65536) % 1024) ∷ []) (sym same.0))

-- a unit that is a character
pub unit-units : (order : Bool) (unit : ℕ) (bytes rest : List ℕ) → bytes ≡ unit_in order unit ++ rest
    → unit < 65536 → IsScalar unit → BeginsWithUnits order bytes unit rest
unit-units order unit bytes rest h small scalar = record { split = at (units unit); scalar = scalar }
  where
    at : Units unit → bytes ≡ units_in order unit ++ rest
    at (alone low is) =
        h ∙ sym (units-one order unit rest) ∙ ap (λ l. flat_map (unit_in order) l ++ rest) (sym is)
    at (pair high is) = absurd (omega arith)

-- and one that is half of one
pub pair-units : (order : Bool) (high : ℕ) (bytes after : List ℕ) (character : ℕ) (rest : List ℕ)
    → bytes ≡ unit_in order high ++ after → CompletesPair order high after character rest
    → BeginsWithUnits order bytes character rest
pair-units order high bytes after character rest h p = record {
  split =
      h ∙ ap (λ l. unit_in order high ++ l) p.split
      ∙ sym (units-two order high p.low rest)
      ∙ ap (λ l. flat_map (unit_in order) l ++ rest) (sym p.pair);
  scalar = p.scalar;
}

-- two units
pub pair-is : (high low : ℕ) → 55296 ≤ high → high < 56320 → 56320 ≤ low → low < 57344
    → encode_utf16 (65536 + ((high - 55296) * 1024 + (low - 56320))) ≡ high ∷ low ∷ []
pair-is high low a b c d = at (units (65536 + ((high - 55296) * 1024 + (low - 56320))))
  where
    at : Units (65536 + ((high - 55296) * 1024 + (low - 56320)))
        → encode_utf16 (65536 + ((high - 55296) * 1024 + (low - 56320))) ≡ high ∷ low ∷ []
    at (alone small is) = absurd (omega arith)
    at (pair large is) =
        let first :
        55296 + (65536 + ((high - 55296) * 1024 + (low - 56320)) - 65536) / 1024 ≡ high = omega arith in
        let second :
        56320 + (65536 + ((high - 55296) * 1024 + (low - 56320)) - 65536) % 1024 ≡ low = omega arith in
        is
        ∙ ap (λ u. u ∷ (56320 + (65536 + ((high - 55296) * 1024 + (low - 56320)) - 65536) % 1024) ∷ []) first
        ∙ ap (λ v. high ∷ v ∷ []) second

pub no_pair : (high low : ℕ) → (high < 55296) ⊎ (56320 ≤ high) ⊎ (low < 56320) ⊎ (57344 ≤ low)
    → IsNoPair high low
no_pair high low outside c scalar h = at (units c)
  where
    at : Units c → ⊥
    at (alone small is) =
        let none : ⊥ = cc in
        none
    at (pair large is) =
        let first : 55296 + (c - 65536) / 1024 ≡ high = cc in
        let second : 56320 + (c - 65536) % 1024 ≡ low = cc in
        let bound = high_low c scalar in
        absurd (grind (arith, outside, first, second, bound))
