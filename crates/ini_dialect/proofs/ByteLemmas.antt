-- Encodings of one byte a character, and what holds of all encodings.
use Rattle.std.proofs.Common.{◌≡◌, ◌∙◌, ℕ, ◌+◌, ◌-◌, ◌<◌, Bool, true, false, ◌&&◌, ◌||◌, cond, List, [], ◌∷◌}
use Rattle.std.proofs.Common.{◌++◌, length, Option, None, Some, ap, arith, inl, inr, refl, sym, ltb, leb, eqb}
use Rattle.std.proofs.Common.{eqb-true, zero, suc, get_or, position, encode_utf8}
use Rattle.std.proofs.lemmas.Str.{encode_same, len_utf8_bounds, length-encode}
use Rattle.std.proofs.lemmas.Bool.{and_parts, cases_Bool}
use Rattle.std.proofs.lemmas.Bool.Decides.{nat_tests}
use Rattle.std.proofs.lemmas.List.Sums.{passes_at_first}
use Rattle.std.specs.Char.{IsScalar}
use Rattle.std.specs.List.{position_or_len}
use Rattle.std.specs.Option.{option_eq, option_map}
use Rattle.ini_dialect.specs.Encodings.{bytes_of, windows_byte, windows_characters}
use Rattle.ini_dialect.specs.Inside.Coding.{units_in}
use Rattle.ini_dialect.specs.declared.encoding.Encoding.{Encoding}
use Rattle.ini_dialect.specs.declared.encoding.Encoding.TheVariants.{Latin1, Utf16Be, Utf16Le, Utf8}
use Rattle.ini_dialect.specs.declared.encoding.Encoding.TheVariants.{Windows1252}
use Rattle.ini_dialect.proofs.UnitLemmas.{one_character, units-some}

-- the one byte of a character
pub record OneByte (character : ℕ) (own : List ℕ) (byte : ℕ) : Type 0 where
  pub is : own ≡ byte ∷ []

latin_own : (c : ℕ) (own : List ℕ) → bytes_of Latin1 c ≡ Some own → own ≡ c ∷ []
latin_own c own h =
    elim (cases_Bool (ltb c 256)) [
      | inl small ↦ let same : Some (c ∷ []) ≡ Some own = rw small at h in cc
      | inr large ↦ let none : None ≡ Some own = rw large at h in absurd cc
    ]

windows_own : (c : ℕ) (own : List ℕ) → bytes_of Windows1252 c ≡ Some own
    → (b : ℕ) × (windows_byte c ≡ Some b) × (own ≡ b ∷ [])
windows_own c own h = at (windows_byte c) refl h
  where
    at : (o : Option ℕ) → windows_byte c ≡ o → option_map (λ b. b ∷ []) o ≡ Some own
        → (b : ℕ) × (windows_byte c ≡ Some b) × (own ≡ b ∷ [])
    at None is h = absurd cc
    at (Some b) is h =
        let same : own ≡ b ∷ [] = cc in
        (b, is, same)

-- the character of a byte in windows-1252
abbrev pub windows_character_of : ℕ → ℕ
windows_character_of b = cond (ltb b 128 || leb 160 b) b (get_or windows_characters (b - 128) 0)

abbrev in_table : ℕ → ℕ
in_table c = position_or_len (λ w. eqb w c) windows_characters

table-back : (c b : ℕ) → option_map (λ i. 128 + i) (position (λ w. eqb w c) windows_characters) ≡ Some b
    → windows_character_of b ≡ c
table-back c b h =
    elim (cases_Bool (ltb (in_table c) 32)) [
      | inl there ↦
          let place : in_table c < 32 = grind (arith, nat_tests, there) in
          let same : Some (128 + in_table c) ≡ Some b = rw there at h in
          let number : b ≡ 128 + in_table c = cc in
          let passes = passes_at_first (λ w. eqb w c) windows_characters 0 place in
          let found : get_or windows_characters (in_table c) 0 ≡ c = grind (arith, nat_tests, passes) in
          let test : (ltb b 128 || leb 160 b) ≡ false = grind (arith, nat_tests, number, place) in
          let left : b - 128 ≡ in_table c = omega (arith, number) in
          rw (test, left) found
      | inr none ↦ let no : None ≡ Some b = rw none at h in absurd cc
    ]

pub windows-back : (c b : ℕ) → windows_byte c ≡ Some b → windows_character_of b ≡ c
windows-back c b h =
    elim (cases_Bool (ltb c 128 || (leb 160 c && ltb c 256))) [
      | inl plain ↦
          let same : Some c ≡ Some b = rw plain at h in
          let number : b ≡ c = cc in
          let test : (ltb b 128 || leb 160 b) ≡ true = grind (arith, nat_tests, plain, number) in
          rw test number
      | inr other ↦ table-back c b (rw other at h)
    ]

-- every character of the table has its byte
checks : ℕ → List ℕ → Bool
checks i [] = true
checks i (w ∷ ws) = option_eq eqb (windows_byte w) (Some (128 + i)) && checks (i + 1) ws

some_same : (o : Option ℕ) (n : ℕ) → option_eq eqb o (Some n) ≡ true → o ≡ Some n
some_same None n h = absurd cc
some_same (Some m) n h = ap Some (eqb-true m n h)

checks-at : (i : ℕ) (ws : List ℕ) (k : ℕ) → checks i ws ≡ true → k < length ws
    → windows_byte (get_or ws k 0) ≡ Some (128 + (i + k))
unfolding checks
checks-at i [] k h small = absurd (omega arith)
checks-at i (w ∷ ws) zero h small =
    let both = and_parts (option_eq eqb (windows_byte w) (Some (128 + i))) (checks (i + 1) ws) h in
    let same : i ≡ i + 0 = omega arith in
    some_same (windows_byte w) (128 + i) both.0 ∙ ap (λ n. Some (128 + n)) same
checks-at i (w ∷ ws) (suc k) h small =
    let both = and_parts (option_eq eqb (windows_byte w) (Some (128 + i))) (checks (i + 1) ws) h in
    let same : i + 1 + k ≡ i + suc k = omega arith in
    checks-at (i + 1) ws k both.1 (omega arith) ∙ ap (λ n. Some (128 + n)) same

pub table-byte : (i : ℕ) → i < 32 → windows_byte (get_or windows_characters i 0) ≡ Some (128 + i)
unfolding checks
table-byte i small =
    let same : 0 + i ≡ i = omega arith in
    checks-at 0 windows_characters i refl small ∙ ap (λ n. Some (128 + n)) same

-- no encoding has a character without bytes that has some
pub some_bytes : (encoding : Encoding) (c : ℕ) (own : List ℕ) → bytes_of encoding c ≡ Some own → own ≡ [] → ⊥
some_bytes Utf8 c own h none =
    let same : encode_utf8 c ≡ [] = cc in
    absurd (omega (arith, ap length same, length-encode c, len_utf8_bounds c))
some_bytes Utf16Le c own h none = let same : units_in true c ≡ [] = cc in units-some true c same
some_bytes Utf16Be c own h none = let same : units_in false c ≡ [] = cc in units-some false c same
some_bytes Latin1 c own h none = let is = latin_own c own h in absurd cc
some_bytes Windows1252 c own h none = let w = windows_own c own h in absurd cc

pub one_front : (encoding : Encoding) (c d : ℕ) (own other x y : List ℕ) → IsScalar c → IsScalar d
    → bytes_of encoding c ≡ Some own → bytes_of encoding d ≡ Some other → own ++ x ≡ other ++ y
    → (c ≡ d) × (x ≡ y)
one_front Utf8 c d own other x y s t is is' h =
    let one : own ≡ encode_utf8 c = cc in
    let two : other ≡ encode_utf8 d = cc in
    encode_same c d x y (ap (λ l. l ++ x) (sym one) ∙ h ∙ ap (λ l. l ++ y) two)
one_front Utf16Le c d own other x y s t is is' h =
    let one : own ≡ units_in true c = cc in
    let two : other ≡ units_in true d = cc in
    one_character true c d x y s t (ap (λ l. l ++ x) (sym one) ∙ h ∙ ap (λ l. l ++ y) two)
one_front Utf16Be c d own other x y s t is is' h =
    let one : own ≡ units_in false c = cc in
    let two : other ≡ units_in false d = cc in
    one_character false c d x y s t (ap (λ l. l ++ x) (sym one) ∙ h ∙ ap (λ l. l ++ y) two)
one_front Latin1 c d own other x y s t is is' h =
    let one = latin_own c own is in
    let two = latin_own d other is' in
    let all : c ∷ x ≡ d ∷ y = ap (λ l. l ++ x) (sym one) ∙ h ∙ ap (λ l. l ++ y) two in
    let first : c ≡ d = cc in
    let rest : x ≡ y = cc in
    (first, rest)
one_front Windows1252 c d own other x y s t is is' h =
    let one = windows_own c own is in
    let two = windows_own d other is' in
    let all : one.0 ∷ x ≡ two.0 ∷ y = ap (λ l. l ++ x) (sym one.2) ∙ h ∙ ap (λ l. l ++ y) two.2 in
    let byte : one.0 ≡ two.0 = cc in
    let rest : x ≡ y = cc in
    (sym (windows-back c one.0 one.1) ∙ ap windows_character_of byte ∙ windows-back d two.0 two.1, rest)
