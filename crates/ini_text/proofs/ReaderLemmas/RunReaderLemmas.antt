-- The run of characters that pass a test, at a text's front: the functions serve the proofs alone.
use Rattle.std.proofs.Common.{◌≤◌, ◌≡◌, ℕ, Bool, true, length, arith, List, [], ◌∷◌, ◌++◌, refl, ap, inl, inr}
use Rattle.std.proofs.lemmas.Bool.{cases_Bool, and_parts}
use Rattle.std.specs.List.{list_all}
use Rattle.ini_text.specs.Grammar.CharacterKinds.{BeginsWith, BeginsWithNo}
use Rattle.ini_text.specs.Inside.Scans.{run_of, skipped}

pub BeginsWith-some : (test : ℕ → Bool) (t : List ℕ) → BeginsWith test t → 1 ≤ length t
BeginsWith-some test [] h = cc
BeginsWith-some test (c ∷ cs) h = omega arith

pub run-finds : (test : ℕ → Bool) (w rest : List ℕ) → list_all test w ≡ true → BeginsWithNo test rest
    → (run_of test (w ++ rest) ≡ w) × (skipped test (w ++ rest) ≡ rest)
run-finds test [] [] all other = (refl, refl)
run-finds test [] (c ∷ rest) all other = rw other (refl, refl)
run-finds test (c ∷ w) rest all other =
    let two = and_parts (test c) (list_all test w) all in
    let tail = run-finds test w rest two.1 other in rw two.0 (ap (λ x. c ∷ x) tail.0, tail.1)

-- the text is a run and what doesn't begin with more of it
pub record IsRun (test : ℕ → Bool) (t w rest : List ℕ) : Type 0 where
  pub all : list_all test w ≡ true
  pub ends : BeginsWithNo test rest
  pub whole : w ++ rest ≡ t

pub run-sound : (test : ℕ → Bool) (t : List ℕ) → IsRun test t (run_of test t) (skipped test t)
run-sound test [] = record { all = refl; ends = tt; whole = refl }
run-sound test (c ∷ cs) =
    elim (cases_Bool (test c)) [
      | inl h ↦ let tail = run-sound test cs in
          rw h record { all = rw (h, tail.all) refl; ends = tail.ends; whole = ap (λ x. c ∷ x) tail.whole }
      | inr h ↦ rw h record { all = refl; ends = h; whole = refl }
    ]
