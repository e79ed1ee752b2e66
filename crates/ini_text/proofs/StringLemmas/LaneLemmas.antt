-- Runs that are seen sixteen bytes at a time.
use Rattle.std.proofs.Common.{◌≡◌, ℕ, zero, suc, ◌+◌, ◌-◌, ◌*◌, ◌/◌, ◌%◌, ◌^◌, ◌<◌, ◌≤◌, Bool, true, false}
use Rattle.std.proofs.Common.{not, ◌&&◌, ◌||◌, cond, eqb, ltb, max, List, [], ◌∷◌, map, length, take}
use Rattle.std.proofs.Common.{take_all, drop, replicate, ◌++◌, get_or, length-append, inl, inr, subst, refl}
use Rattle.std.proofs.Common.{sym, ap, ap₂, ◌∙◌, arith}
use Rattle.std.proofs.lemmas.Simd.{chunk-drop, get_or-chunk, length-chunk, leading_from_mask_l, put_chunk_is}
use Rattle.std.proofs.lemmas.Simd.{trailing_mask_l, zip2_splat, zip2_of_maps, map-map, mask_l-mod}
use Rattle.std.proofs.lemmas.List.{get_or_append_left, get_or-append-add, length-drop, length-map}
use Rattle.std.proofs.lemmas.List.{length-take-le, take-append-le}
use Rattle.std.proofs.Math.Seq.{take-append-add}
use Rattle.std.proofs.lemmas.List.Folds.{prefix_len-append}
use Rattle.std.proofs.lemmas.List.Sums.{prefix_len-le-length, prefix_len_is, prefix_len_passes}
use Rattle.std.proofs.lemmas.Bool.{cases_lt, eq-eqb, ne_eqb}
use Rattle.std.proofs.Math.Nat.{div-div-eq-div-mul, div-one, mul_comm, pow-suc, zero-div}
use Rattle.std.specs.List.{prefix_len, position_or_len}
use lib.Bits.{bit_or, or_step}
use lib.Lanes.{chunk, mask_l, put_chunk, top, zip2}
use lib.Count.{count_trailing_zeros}
use Rattle.ini_text.specs.Inside.Lanes.{Tells}

-- a lane that passes a test is full
abbrev pub full : Bool → ℕ
full b = cond b 255 0

full_or : (a b : Bool) → bit_or (full a) (full b) ≡ full (a || b)
full_or true true = refl
full_or true false = refl
full_or false true = refl
full_or false false = refl

full_top : (b : Bool) → top 7 (full b) ≡ b
full_top true = refl
full_top false = refl

pub map_same : {X : Type 0} (f g : ℕ → X) → ((x : ℕ) → f x ≡ g x) → (xs : List ℕ) → map f xs ≡ map g xs
map_same f g same [] = refl
map_same f g same (x ∷ xs) = ap₂ (λ y ys. y ∷ ys) (same x) (map_same f g same xs)

-- the lanes that pass one of two tests
pub either : (p q : ℕ → Bool) (v : List ℕ) {a b : List ℕ} → a ≡ map (λ x. full (p x)) v
    → b ≡ map (λ x. full (q x)) v
    → zip2 bit_or a b ≡ map (λ x. full (p x || q x)) v
either p q v is_a is_b =
    zip2_of_maps bit_or (λ x. full (p x)) (λ x. full (q x)) v is_a is_b
    ∙ map_same _ _ (λ x. full_or (p x) (q x)) v

-- the bits of the lanes that pass a test
pub bits : (p : ℕ → Bool) (v : List ℕ) {a : List ℕ} → length v ≡ 16 → a ≡ map (λ x. full (p x)) v
    → mask_l (map (top 7) a) % 2 ^ 64 ≡ mask_l (map p v)
bits p v long is =
    ap (λ l. mask_l l % 2 ^ 64)
    (ap (map (top 7)) is ∙ map-map (top 7) (λ x. full (p x)) v ∙ map_same _ _ (λ x. full_top (p x)) v)
    ∙ mask_l-mod (map p v) 64 (omega (arith, length-map v p))

pub equal : (y : ℕ) (v : List ℕ) → length v ≡ 16
    → zip2 (λ a b. full (eqb a b)) v (replicate 16 y) ≡ map (λ x. full (eqb x y)) v
equal y v long = zip2_splat (λ a b. full (eqb a b)) v 16 y long

pub below : (y : ℕ) (v : List ℕ) → length v ≡ 16
    → zip2 (λ a b. full (ltb a b)) v (replicate 16 y) ≡ map (λ x. full (ltb x y)) v
below y v long = zip2_splat (λ a b. full (ltb a b)) v 16 y long

-- A run of bytes up to the first that passes the test p.
pub run_within : (p : ℕ → Bool) (bytes : List ℕ) (at : ℕ) → at ≤ length bytes
    → at + position_or_len p (drop at bytes) ≤ length bytes
run_within p bytes at h =
    omega (arith, prefix_len-le-length (λ x. not (p x)) (drop at bytes), length-drop at bytes)

none_fails : (b : Bool) (n l m : ℕ) → n ≤ l → cond (not b) (1 + n) 0 ≡ 1 + l → (n ≡ l → m ≡ 0)
    → cond b 1 0 + 2 * m ≡ 0
none_fails true n l m le e more = let no : ⊥ = omega arith in absurd no
none_fails false n l m le e more = let z = more (omega arith) in omega arith

pub same_run : (p q : ℕ → Bool) → ((x : ℕ) → p x ≡ q x) → (xs : List ℕ) → prefix_len p xs ≡ prefix_len q xs
same_run p q same [] = refl
same_run p q same (x ∷ xs) = ap₂ (λ b n. cond b (1 + n) 0) (same x) (same_run p q same xs)

module _ (p : ℕ → Bool) where
  pub no_bits : (xs : List ℕ) → position_or_len p xs ≡ length xs → mask_l (map p xs) ≡ 0
  no_bits [] e = refl
  no_bits (x ∷ xs) e =
      none_fails (p x) _ (length xs) _ (prefix_len-le-length (λ y. not (p y)) xs) (omega arith) (no_bits xs)

  split : (bytes : List ℕ) (at n : ℕ) → position_or_len p (drop at bytes)
      ≡ cond (eqb (position_or_len p (chunk at n bytes)) (length (chunk at n bytes)))
      (length (chunk at n bytes) + position_or_len p (drop (at + n) bytes))
      (position_or_len p (chunk at n bytes))
  split bytes at n = ap (position_or_len p) (chunk-drop at n bytes)
      ∙ prefix_len-append (λ x. not (p x)) (chunk at n bytes) (drop (at + n) bytes)

  -- a block without marks is passed
  pub passed : (bytes : List ℕ) (at n : ℕ) → at + n ≤ length bytes → mask_l (map p (chunk at n bytes)) ≡ 0
      → position_or_len p (drop at bytes) ≡ n + position_or_len p (drop (at + n) bytes)
  passed bytes at n room none =
      let c = chunk at n bytes in
      let rest = position_or_len p (drop (at + n) bytes) in
      split bytes at n ∙ ap (λ b. cond b (length c + rest) (position_or_len p c))
      (eq-eqb _ _ (leading_from_mask_l p c none)) ∙ ap (λ k. k + rest) (length-chunk at n bytes room)

  -- in a block with marks the lowest ends the run
  pub stopped : (bytes : List ℕ) (at n : ℕ) → at + n ≤ length bytes → n ≤ 64
      → 0 < mask_l (map p (chunk at n bytes))
      → position_or_len p (drop at bytes) ≡ count_trailing_zeros 64 (mask_l (map p (chunk at n bytes)))
  stopped bytes at n room short some =
      let c = chunk at n bytes in
      let rest = position_or_len p (drop (at + n) bytes) in
      split bytes at n ∙ ap (λ b. cond b (length c + rest) (position_or_len p c))
      (ne_eqb _ _ (λ (e : position_or_len p c ≡ length c). omega (arith, no_bits c e)))
      ∙ sym (trailing_mask_l p 64 c (omega (arith, length-chunk at n bytes room)) some)

-- a character that is no mark, where the first of the marks is a backslash
pub no_marks : (a b c : Bool) → (not a && not (b || c || false)) ≡ not (a || b || c)
no_marks true b c = refl
no_marks false true c = refl
no_marks false false true = refl
no_marks false false false = refl

pub no_key_marks : (a b c d e : Bool)
    → (not a && not (b || (c || (d || (e || false))))) ≡ not (a || b || c || d || e)
no_key_marks true b c d e = refl
no_key_marks false true c d e = refl
no_key_marks false false true d e = refl
no_key_marks false false false true e = refl
no_key_marks false false false false true = refl
no_key_marks false false false false false = refl

-- one mark three times
pub not_three : (a : Bool) → not (a || a || a) ≡ not a
not_three true = refl
not_three false = refl

none_marked : (p : ℕ → Bool) (v : List ℕ) → mask_l (map p v) ≡ 0 → (k : ℕ) → k < length v
    → p (get_or v k 0) ≡ false
none_marked p v none k within =
    not-true (p (get_or v k 0))
    (prefix_len_passes (λ x. not (p x)) v k 0 (omega (arith, leading_from_mask_l p v none)))
  where
    not-true : (b : Bool) → not b ≡ true → b ≡ false
    not-true true h = cc
    not-true false h = refl

-- eight to sixteen bytes, of which neither the first eight nor the last eight are marked
pub unmarked : (p : ℕ → Bool) (bytes : List ℕ) → 8 ≤ length bytes → length bytes ≤ 16
    → mask_l (map p (chunk 0 8 bytes ++ chunk (length bytes - 8) 8 bytes)) ≡ 0
    → position_or_len p bytes ≡ length bytes
unmarked p bytes some few none =
    let back = length bytes - 8 in
    let a = chunk 0 8 bytes in
    let b = chunk back 8 bytes in
    let long-a : length a ≡ 8 = length-chunk 0 8 bytes (omega arith) in
    let long-b : length b ≡ 8 = length-chunk back 8 bytes (omega arith) in
    let free = none_marked p (a ++ b) none in
    prefix_len_is (λ x. not (p x)) bytes (length bytes) 0 (omega arith)
    (λ k within. ap not (elim (cases_lt k 8) [
      | inl low ↦
          let place : 0 + k ≡ k = omega arith in
          subst (λ x. p x ≡ false) (get_or_append_left a b 0 k (omega arith)
          ∙ get_or-chunk 0 8 bytes k 0 low ∙ ap (λ i. get_or bytes i 0) place)
          (free k (omega (arith, length-append a b)))
      | inr high ↦
          let j = k - back in
          let place : back + j ≡ k = omega arith in
          subst (λ x. p x ≡ false) (get_or-append-add a b j 0 ∙ get_or-chunk back 8 bytes j 0 (omega arith)
          ∙ ap (λ i. get_or bytes i 0) place) (free (length a + j) (omega (arith, length-append a b)))
    ]))
    (λ past. absurd (omega arith))

halved : (b : Bool) (n : ℕ) → (cond b 1 0 + 2 * n) / 2 ≡ n
halved true n = omega arith
halved false n = omega arith

lowest : (b : Bool) (n : ℕ) → (cond b 1 0 + 2 * n) % 2 ≡ cond b 1 0
lowest true n = omega arith
lowest false n = omega arith

or_bit : (a b : Bool) (k : ℕ) → k * 2 + max (cond a 1 0) (cond b 1 0) ≡ cond (a || b) 1 0 + 2 * k
or_bit true true k = omega arith
or_bit true false k = omega arith
or_bit false true k = omega arith
or_bit false false k = omega arith

-- the bits of the elements that pass one of two tests
pub mask_either : (p q : ℕ → Bool) (xs : List ℕ)
    → bit_or (mask_l (map p xs)) (mask_l (map q xs)) ≡ mask_l (map (λ x. p x || q x) xs)
mask_either p q [] = refl
mask_either p q (x ∷ xs) =
    let m = mask_l (map p xs) in
    let n = mask_l (map q xs) in
    or_step (cond (p x) 1 0 + 2 * m) (cond (q x) 1 0 + 2 * n)
    ∙ ap₂ (λ a b. a * 2 + b) (ap₂ bit_or (halved (p x) m) (halved (q x) n))
    (ap₂ max (lowest (p x) m) (lowest (q x) n))
    ∙ or_bit (p x) (q x) (bit_or m n) ∙ ap (λ k. cond (p x || q x) 1 0 + 2 * k) (mask_either p q xs)

-- the bits of the first k, past the first j of them
pub bits_past : (p : ℕ → Bool) (j k : ℕ) (xs : List ℕ)
    → mask_l (map p (take k xs)) / 2 ^ j ≡ mask_l (map p (take (k - j) (drop j xs)))
bits_past p zero k xs = div-one (mask_l (map p (take k xs)))
    ∙ ap (λ n. mask_l (map p (take n xs))) (let same : k ≡ k - 0 = omega arith in same)
bits_past p (suc j) zero xs = zero-div (2 ^ suc j)
    ∙ ap (λ n. mask_l (map p (take n (drop (suc j) xs)))) (let same : 0 ≡ 0 - suc j = omega arith in same)
bits_past p (suc j) (suc k) [] =
    zero-div (2 ^ suc j) ∙ ap (λ l. mask_l (map p l)) (sym (take_all (suc k - suc j) [] (omega arith)))
bits_past p (suc j) (suc k) (x ∷ xs) =
    let bits = mask_l (map p (take k xs)) in
    ap (λ n. (cond (p x) 1 0 + 2 * bits) / n) (pow-suc 2 j ∙ mul_comm (2 ^ j) 2)
    ∙ sym (div-div-eq-div-mul (cond (p x) 1 0 + 2 * bits) 2 (2 ^ j))
    ∙ ap (λ n. n / 2 ^ j) (halved (p x) bits) ∙ bits_past p j k xs
    ∙ ap (λ n. mask_l (map p (take n (drop j xs)))) (let same : k - j ≡ suc k - suc j = omega arith in same)

-- What bits tell of the first bytes, after which so many more follow.
module _ (p : ℕ → Bool) where
  pub Tells-none : (more : ℕ) (bytes : List ℕ) → Tells p more 0 bytes
  Tells-none more bytes = record { lanes = 0; few = omega arith; within = λ some. omega arith; are = refl }

  pub Tells-found : (more : ℕ) (bytes : List ℕ) {bits : ℕ} → 16 + more ≤ length bytes
      → bits ≡ mask_l (map p (chunk 0 16 bytes)) → Tells p more bits bytes
  Tells-found more bytes long is = record { lanes = 16; few = omega arith; within = λ some. long; are = is }

  pub Tells-past : {more : ℕ} (j : ℕ) {bits : ℕ} {bytes rest : List ℕ} → Tells p more bits bytes
      → rest ≡ drop j bytes → Tells p more (bits / 2 ^ j) rest
  Tells-past {more} j {bytes = bytes} tells is = subst (Tells p more _) (sym is) record {
    lanes = tells.lanes - j;
    few = omega (arith, tells.few);
    within = λ some. omega (arith, tells.within (omega arith), length-drop j bytes);
    are = ap (λ n. n / 2 ^ j) tells.are ∙ bits_past p j tells.lanes bytes;
  }

  some_lanes : (lanes : ℕ) (bytes : List ℕ) → 0 < mask_l (map p (take lanes bytes)) → 0 < lanes
  some_lanes zero bytes some = absurd (omega (arith, some))
  some_lanes (suc n) bytes some = omega arith

  -- how many bytes stand before the first that is marked
  pub record StopsAt (more : ℕ) (bytes : List ℕ) (run : ℕ) : Type 0 where
    pub position : run ≡ position_or_len p bytes
    pub below : run < 16
    pub within : run + more < length bytes

  pub stops_at : {more : ℕ} (bytes : List ℕ) {bits : ℕ} → Tells p more bits bytes → 0 < bits
      → StopsAt more bytes (count_trailing_zeros 64 bits)
  stops_at {more} bytes {bits} tells some =
      let few = tells.few in
      let are = tells.are in
      let within : tells.lanes + more ≤ length bytes =
      tells.within (some_lanes tells.lanes bytes (omega arith)) in
      let lanes = chunk 0 tells.lanes bytes in
      let many = length-chunk 0 tells.lanes bytes (omega arith) in
      let first =
      stopped p bytes 0 tells.lanes (omega arith) (omega arith) (omega arith)
      ∙ ap (count_trailing_zeros 64) (sym are) in
      let place =
      ap (count_trailing_zeros 64) are ∙ trailing_mask_l p 64 lanes (omega arith) (omega arith) in
      let below : count_trailing_zeros 64 bits
      < tells.lanes = elim (cases_lt (position_or_len p lanes) (length lanes)) [
        | inl below ↦ omega arith
        | inr above ↦
            absurd
            (omega (arith, no_bits p lanes (omega (arith, prefix_len-le-length (λ x. not (p x)) lanes))))
      ] in
      record { position = sym first; below = omega arith; within = omega arith }

-- the same of another test that answers alike
pub Tells-same : (p q : ℕ → Bool) → ((c : ℕ) → p c ≡ q c) → {more bits : ℕ} {bytes : List ℕ}
    → Tells p more bits bytes → Tells q more bits bytes
Tells-same p q same {bytes = bytes} tells = record {
  lanes = tells.lanes;
  few = tells.few;
  within = tells.within;
  are = tells.are ∙ ap mask_l (map_same p q same (take tells.lanes bytes));
}

-- of lanes that are put after the first bytes, so many are kept
pub placed : (len n : ℕ) (bytes lanes : List ℕ) → len + length lanes ≤ length bytes → n ≤ length lanes
    → take (len + n) (put_chunk len bytes lanes) ≡ take len bytes ++ take n lanes
placed len n bytes lanes room some =
    let rest = drop (length lanes) (drop len bytes) in
    ap (take (len + n)) (put_chunk_is len bytes lanes room)
    ∙ ap (λ k. take (k + n) (take len bytes ++ (lanes ++ rest)))
    (sym (length-take-le len bytes (omega arith)))
    ∙ take-append-add (take len bytes) (lanes ++ rest) n
    ∙ ap (λ l. take len bytes ++ l) (take-append-le n lanes rest some)
