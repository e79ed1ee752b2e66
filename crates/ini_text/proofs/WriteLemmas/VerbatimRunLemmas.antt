-- Where the run at the front of a text ends that a policy leaves as it is, found by the bytes.
use Rattle.std.proofs.Common.{◌≡◌, ℕ, ◌+◌, ◌/◌, ◌<◌, ◌≤◌, Bool, true, false, not, ◌||◌, List, [], ◌∷◌, ◌++◌}
use Rattle.std.proofs.Common.{refl, sym, ap, ◌∙◌, length, take, drop, get_or, arith, cond, inl, inr, IsUtf8}
use Rattle.std.proofs.Common.{IsCharBoundary, chars, encode_utf8_all, get_or-drop, length-drop}
use Rattle.std.proofs.Common.{take-append-drop, one-add, add-zero}
use lib.Utf8.{encode, next}
use Rattle.std.specs.List.{list_all, position_or_len}
use Rattle.std.proofs.lemmas.Bool.{cases_lt, and_parts}
use Rattle.std.proofs.lemmas.Bool.Decides.{nat_tests}
use Rattle.std.proofs.lemmas.Grind.{flat_map-append}
use Rattle.std.proofs.lemmas.List.Folds.{list_all-append}
use Rattle.std.proofs.lemmas.List.Sums.{passes_at_first, prefix_len-le-length}
use Rattle.std.proofs.lemmas.Str.{IsUtf8-drop, IsUtf8-take, chars-append, encode_ascii, encodes-append}
use Rattle.std.proofs.lemmas.Str.{encodes-chars}
use Rattle.ini_text.specs.Grammar.CharacterKinds.{BeginsWithNo}
use Rattle.ini_text.specs.Escaping.EscapedTexts.{escape, escaped, escaped_bytes}
use Rattle.ini_text.specs.Escaping.Policies.{is_basic, is_escaped, is_reserved}
use Rattle.ini_text.specs.Inside.Verbatim.{begins_escaped}
use Rattle.ini_text.specs.declared.write.policy.EscapePolicy.{EscapePolicy}
use Rattle.ini_text.specs.declared.write.policy.EscapePolicy.TheVariants.{Nothing, Basics, Reserved}

is_escaped-unicode : (policy : EscapePolicy) (c : ℕ) → 0x80 ≤ c → c < 0x1_0000
    → is_escaped policy 0x80 ≡ is_escaped policy c
is_escaped-unicode Nothing c low high = refl
is_escaped-unicode policy c low high = grind (arith, nat_tests)

is_escaped-extended : (policy : EscapePolicy) (c : ℕ) → 0x1_0000 ≤ c
    → is_escaped policy 0x1_0000 ≡ is_escaped policy c
is_escaped-extended Nothing c low = refl
is_escaped-extended policy c low = grind (arith, nat_tests)

-- the policies that escape nothing beyond ASCII
pub begins-basic : (byte : ℕ) → begins_escaped Basics byte ≡ is_basic byte
begins-basic byte = grind (arith, nat_tests)

pub begins-reserved : (byte : ℕ) → begins_escaped Reserved byte ≡ (is_basic byte || is_reserved byte)
begins-reserved byte = grind (arith, nat_tests)

-- the first byte of a character tells whether it is escaped
record HasFirst (policy : EscapePolicy) (c : ℕ) : Type 0 where
  first : ℕ
  others : List ℕ
  all : encode c ≡ first ∷ others
  tells : begins_escaped policy first ≡ is_escaped policy c

first_of_two : (policy : EscapePolicy) (c : ℕ) → 0x80 ≤ c → c < 0x800 → HasFirst policy c
unfolding encode
first_of_two policy c low high =
    let lead : begins_escaped policy (192 + c / 64) ≡ is_escaped policy 0x80 = grind (arith, nat_tests) in
    record {
      first = 192 + c / 64;
      others = next c ∷ [];
      all = grind (arith, nat_tests);
      tells = lead
          ∙ is_escaped-unicode policy c low (omega arith);
    }

first_of_three : (policy : EscapePolicy) (c : ℕ) → 0x800 ≤ c → c < 0x1_0000 → HasFirst policy c
unfolding encode
first_of_three policy c low high =
    let lead : begins_escaped policy (224 + c / 4096) ≡ is_escaped policy 0x80 = grind (arith, nat_tests) in
    record {
      first = 224 + c / 4096;
      others = next (c / 64) ∷ next c ∷ [];
      all =
          grind (arith, nat_tests);
      tells = lead ∙ is_escaped-unicode policy c (omega arith) high;
    }

first_of_four : (policy : EscapePolicy) (c : ℕ) → 0x1_0000 ≤ c → HasFirst policy c
unfolding encode
first_of_four policy c low =
    let lead : begins_escaped policy (240 + c / 262144) ≡ is_escaped policy 0x1_0000 =
    grind (arith, nat_tests) in
    record {
      first = 240 + c / 262144;
      others = next (c / 4096) ∷ next (c / 64) ∷ next c ∷ [];
      all =
          grind (arith, nat_tests);
      tells = lead ∙ is_escaped-extended policy c low;
    }

first_of : (policy : EscapePolicy) (c : ℕ) → HasFirst policy c
first_of policy c =
    elim (cases_lt c 0x80) [
      | inl below ↦
          record { first = c; others = []; all = encode_ascii c below; tells = grind (arith, nat_tests) }
      | inr above ↦ elim (cases_lt c 0x800) [
        | inl below ↦ first_of_two policy c above below
        | inr above ↦ elim (cases_lt c 0x1_0000) [
          | inl below ↦ first_of_three policy c above below
          | inr above ↦ first_of_four policy c above
        ]
      ]
    ]

-- characters none of whose bytes begins one that is escaped
escaped-passed : (policy : EscapePolicy) (text : List ℕ)
    → list_all (λ b. not (begins_escaped policy b)) (encode_utf8_all text) ≡ true
    → escaped policy text ≡ text
escaped-passed policy [] passed = refl
escaped-passed policy (c ∷ text) passed =
    let test : ℕ → Bool = λ b. not (begins_escaped policy b) in
    let by = first_of policy c in
    let both = and_parts (list_all test (encode c)) (list_all test (encode_utf8_all text))
    (sym (list_all-append test (encode c) (encode_utf8_all text)) ∙ passed) in
    let first =
    (and_parts (test by.first) (list_all test by.others) (ap (list_all test) (sym by.all) ∙ both.0)).0 in
    let is : is_escaped policy c ≡ false = grind (arith, by.tells) in
    ap (λ b. cond b (escape c) (c ∷ []) ++ escaped policy text) is
    ∙ ap (λ l. c ∷ l) (escaped-passed policy text both.1)

-- characters whose first byte, if there is one, begins one that is escaped
begins-stopped : (policy : EscapePolicy) (text bytes : List ℕ) → encode_utf8_all text ≡ bytes
    → (0 < length bytes → begins_escaped policy (get_or bytes 0 0) ≡ true)
    → BeginsWithNo (λ c. not (is_escaped policy c)) text
begins-stopped policy [] bytes is stopped = tt
begins-stopped policy (c ∷ text) bytes is stopped =
    let by = first_of policy c in
    let parts : bytes ≡ by.first ∷ (by.others ++ encode_utf8_all text) =
    sym is ∙ ap (λ l. l ++ encode_utf8_all text) by.all in
    let first : begins_escaped policy by.first ≡ true =
    ap (λ l. begins_escaped policy (get_or l 0 0)) (sym parts) ∙ stopped (rw parts (omega arith)) in
    ap not (sym by.tells ∙ first)

list_all-step : (p : ℕ → Bool) (b : Bool) (n x : ℕ) (xs : List ℕ) → not (p x) ≡ b
    → list_all (λ y. not (p y)) (take n xs) ≡ true
    → list_all (λ y. not (p y)) (take (cond b (1 + n) 0) (x ∷ xs)) ≡ true
list_all-step p true n x xs is passed = rw (one-add n) (rw (is, passed) refl)
list_all-step p false n x xs is passed = refl

list_all-position : (p : ℕ → Bool) (xs : List ℕ)
    → list_all (λ x. not (p x)) (take (position_or_len p xs) xs) ≡ true
list_all-position p [] = refl
list_all-position p (x ∷ xs) =
    list_all-step p (not (p x)) (position_or_len p xs) x xs refl (list_all-position p xs)

-- A text's bytes, cut where the search stops.
module _ (policy : EscapePolicy) (bytes : List ℕ) (n : ℕ)
    (at : n ≡ position_or_len (begins_escaped policy) bytes) (is_text : IsUtf8 bytes) where
  stopped : n < length bytes → begins_escaped policy (get_or bytes n 0) ≡ true
  stopped within = rw at (passes_at_first (begins_escaped policy) bytes 0 (rw at at within))

  pub IsCharBoundary-run : IsCharBoundary bytes n
  IsCharBoundary-run =
      let within : n ≤ length bytes =
      rw at (prefix_len-le-length (λ b. not (begins_escaped policy b)) bytes) in
      (within, λ below high. let stop = stopped below in grind (arith, nat_tests))

  pub escaped_bytes-run : (front back : List ℕ) → front ≡ take n bytes → back ≡ drop n bytes
      → escaped_bytes policy bytes ≡ front ++ escaped_bytes policy back
  escaped_bytes-run front back is_front is_back =
      let front_is_text : IsUtf8 front = rw is_front (IsUtf8-take bytes n is_text IsCharBoundary-run) in
      let parts : bytes ≡ front ++ back = rw (is_front, is_back, take-append-drop) refl in
      let passed = escaped-passed policy (chars front)
      (rw (encodes-chars front front_is_text, is_front, at)
      (list_all-position (begins_escaped policy) bytes)) in
      rw (
        parts,
        chars-append front back front_is_text,
        flat_map-append,
        encodes-append,
        passed,
        encodes-chars front front_is_text,
      ) refl

  pub begins-run : (back : List ℕ) → back ≡ drop n bytes
      → BeginsWithNo (λ c. not (is_escaped policy c)) (chars back)
  begins-run back is_back =
      let back_is_text : IsUtf8 back = rw is_back (IsUtf8-drop bytes n is_text IsCharBoundary-run) in
      begins-stopped policy (chars back) back (encodes-chars back back_is_text) (λ some.
      let below : n < length bytes = omega (arith, length-drop n bytes, ap length is_back) in
      rw (is_back, get_or-drop, add-zero) (stopped below))
