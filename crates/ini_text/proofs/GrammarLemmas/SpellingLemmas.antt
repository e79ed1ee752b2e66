-- Four digits and the character that they spell.
use Rattle.std.proofs.Common.{◌≡◌, ◌≢◌, ℕ, Bool, true, false, cond, eqb, refl, sym, ap, ◌∙◌, subst, ◌&&◌}
use Rattle.std.proofs.Common.{◌||◌, ◌+◌, ◌*◌, ◌<◌, SomeIff, arith, lt-ltb, Option, Some, None, eq-eqb, ne_eqb}
use Rattle.std.proofs.Math.Bool.{or-true}
use Rattle.std.proofs.lemmas.Bool.{cond-true, cond-false}
use lib.Utf8.{scalar}
use Rattle.std.specs.Char.{is_digit, digit_value}
use Rattle.ini_text.specs.Grammar.CharacterKinds.{plus}
use Rattle.ini_text.specs.Grammar.EscapeSequences.{spelled, first_digit}

some_iff_cond : (t s : Bool) (n : ℕ) (r : Option ℕ) → t ≡ true → SomeIff r (s ≡ true) n
    → r ≡ cond (t && s) (Some n) None
some_iff_cond true true n (Some x) q h = ap Some h.1
some_iff_cond true true n None q h = absurd (h refl)
some_iff_cond true false n (Some x) q h = let z = h.0 in cc
some_iff_cond true false n None q h = refl
some_iff_cond false s n r q h = cc

five_true : {p q r s : Bool} → p ≡ true → q ≡ true → r ≡ true → s ≡ true → (((p && q) && r) && s) ≡ true
five_true {p} {q} {r} {s} hp hq hr hs = rw (hp, hq, hr, hs) refl

pub spelled_value : (a b c d f y z x m : ℕ) (r : Option ℕ) → (is_digit a 16 || eqb a plus) ≡ true
    → f ≡ first_digit a → (digit_value b < 16) × (y ≡ digit_value b)
    → (digit_value c < 16) × (z ≡ digit_value c) → (digit_value d < 16) × (x ≡ digit_value d)
    → m ≡ f * 0x1000 + y * 0x100 + z * 0x10 + x → SomeIff r (scalar m ≡ true) m → r ≡ spelled a b c d
unfolding spelled
spelled_value a b c d f y z x m r ha hf hb hc hd e h =
    let n : m ≡ first_digit a * 0x1000 + digit_value b * 0x100 + digit_value c * 0x10 + digit_value d = e
    ∙ ap (λ f. f * 0x1000 + y * 0x100 + z * 0x10 + x) hf
    ∙ ap (λ y. first_digit a * 0x1000 + y * 0x100 + z * 0x10 + x) hb.1
    ∙ ap (λ z. first_digit a * 0x1000 + digit_value b * 0x100 + z * 0x10 + x) hc.1
    ∙ ap (λ x. first_digit a * 0x1000 + digit_value b * 0x100 + digit_value c * 0x10 + x) hd.1 in
    some_iff_cond _ _ _ r (five_true ha (lt-ltb _ 16 hb.0) (lt-ltb _ 16 hc.0) (lt-ltb _ 16 hd.0))
    (subst (λ m. SomeIff r (scalar m ≡ true) m) n h)

pub first_plus : (a f : ℕ) → a ≡ plus → f ≡ 0 → ((is_digit a 16 || eqb a plus) ≡ true) × (f ≡ first_digit a)
first_plus a f h q = (
  ap (λ t. is_digit a 16 || t) (eq-eqb a 43 h) ∙ or-true (is_digit a 16),
  q
      ∙ sym (cond-true (eqb a 43) 0 (digit_value a) (eq-eqb a 43 h)),
)

pub first_other : (a f y : ℕ) → a ≢ plus → (digit_value a < 16) × (y ≡ digit_value a) → f ≡ y
    → ((is_digit a 16 || eqb a plus) ≡ true) × (f ≡ first_digit a)
first_other a f y h d q = (
  ap (λ t. t || eqb a plus) (lt-ltb (digit_value a) 16 d.0),
  q ∙ d.1
      ∙ sym (cond-false (eqb a 43) 0 (digit_value a) (ne_eqb a 43 h)),
)

-- four digits, none of which is a plus sign
pub digits_spell : (a b c d f y z x : ℕ) (r : Option ℕ) → (f < 16) × (f ≡ digit_value a)
    → (y < 16) × (y ≡ digit_value b) → (z < 16) × (z ≡ digit_value c) → (x < 16) × (x ≡ digit_value d)
    → SomeIff r (scalar (f * 0x1000 + y * 0x100 + z * 0x10 + x) ≡ true)
    (f * 0x1000 + y * 0x100 + z * 0x10 + x)
    → r ≡ spelled a b c d
digits_spell a b c d f y z x r ha hb hc hd h =
    let first =
    first_other a f f (λ q. let z = subst (λ k. f ≡ digit_value k) q ha.1 in absurd (omega arith))
    (omega arith, ha.1) refl in
    spelled_value a b c d f y z x _ r first.0 first.1 (omega arith, hb.1) (omega arith, hc.1)
    (omega arith, hd.1) refl h
