-- What values say, one value on.
use Rattle.std.proofs.Common.{◌≡◌, ◌<◌, ◌≤◌, ◌+◌, ◌-◌, ◌*◌, ◌/◌, ◌%◌, ◌∙◌, ℕ, List, [], ◌∷◌, ◌++◌, length}
use Rattle.std.proofs.Common.{subst, suc, sym, ap, Bor, Option, append_assoc, arith, add-one, drop, drop-cons}
use Rattle.std.proofs.Common.{get_or, length-take, take, take-append-drop, take-suc, take_all}
use Rattle.std.proofs.lemmas.List.{map-append, length-map}
use Rattle.ini_words.specs.Words.{Word}
use Rattle.ini_file.specs.Order.{words_of}
use Rattle.ini_file.specs.Typed.{Appended, AreSaid, IsFirstUnsaid, Says}
use Rattle.ini_file.specs.declared.manner.ValueKind.{ValueKind}

module _ (kind : ValueKind) (home : Option Word) (end : Word) (values : List (Bor (List ℕ))) (i : ℕ)
    (d : Bor (List ℕ)) (within : i < length values) {texts : Word}
    (said : AreSaid kind home end (words_of (take i values)) texts) where
  -- one value more says something
  pub one_more_said : (out : Word) {more : Word} → Says kind home (get_or values i d).now out
      → more ≡ (texts ++ out) ++ end → AreSaid kind home end (words_of (take (i + 1) values)) more
  one_more_said out {more} says is =
      let word = (get_or values i d).now in
      let taken : words_of (take (i + 1) values) ≡ words_of (take i values) ++ word ∷ [] =
      rw (add-one, take-suc values i d within)
      (map-append (λ v. v.now) (take i values) (get_or values i d ∷ [])) in
      subst (λ vs. AreSaid kind home end vs more) (sym taken)
      (subst (λ t. AreSaid kind home end (words_of (take i values) ++ word ∷ []) t)
      (sym (is ∙ append_assoc texts out end)) (AreSaid.then said word out says))

  -- the value says nothing
  pub first_unsaid : ((out : Word) → Says kind home (get_or values i d).now out → ⊥)
      → IsFirstUnsaid kind home end (words_of values) i
  first_unsaid nothing = record {
    before = words_of (take i values);
    value = (get_or values i d).now;
    after = words_of (drop (suc i) values);
    texts = texts;
    splits = ap words_of (sym (take-append-drop i values))
        ∙ (map-append (λ v. v.now) (take i values) (drop i values)
        ∙ ap (λ vs. words_of (take i values) ++ words_of vs) (drop-cons values i d within));
    at = simp (length-map, length-take) (omega arith);
    are_said = said;
    says_nothing = nothing;
  }

-- a first byte, and the others after it
pub first_and_more : (v : List ℕ) (b : ℕ) → 1 ≤ length v → get_or v 0 0 ≡ b
    → v ≡ b ∷ take (length v - 1) (drop 1 v)
first_and_more [] b low is = absurd (omega arith)
first_and_more (x ∷ xs) b low is =
    let all : take (length (x ∷ xs) - 1) xs ≡ xs = take_all (length (x ∷ xs) - 1) xs (omega arith) in
    let first : x ≡ b = is in
    cc

-- a number of microseconds in seconds, and the microseconds that are left
pub whole_seconds : (n : ℕ) → n * 1000 / 1_000_000_000 ≡ n / 1_000_000
whole_seconds n = omega arith

pub micros_left : (n : ℕ) → n * 1000 % 1_000_000_000 / 1000 ≡ n % 1_000_000
micros_left n = omega arith
