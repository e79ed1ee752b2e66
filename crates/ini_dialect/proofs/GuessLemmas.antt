-- What is guessed of dialects, one dialect on.
use Rattle.std.proofs.Common.{◌≡◌, ◌<◌, ◌≤◌, ◌+◌, ◌∙◌, ℕ, List, [], ◌∷◌, ◌++◌, length, map, subst, sym, ap}
use Rattle.std.proofs.Common.{Option, arith, add-one, get_or, length-take, take, take-suc}
use Rattle.std.proofs.lemmas.List.{map-append, length-map, take_all}
use Rattle.std.specs.Prelude.{IsPermutation}
use Rattle.ini.specs.Texts.{Text}
use Rattle.ini_dialect.specs.Dialects.{named_shown, presets}
use Rattle.ini_dialect.specs.Guesses.{AreGuesses, AreRanked, HasCount, guesses_of}
use Rattle.ini_dialect.specs.declared.guessing.Guess.{Guess}
use Rattle.ini_dialect.specs.declared.presets.NamedDialect.{NamedDialect}

module _ (T : Text) (all : List NamedDialect) (i : ℕ) (named : NamedDialect)
    (within : i < length all) (is_at : named ≡ get_or all i named) {gs : List Guess}
    (guessed : AreGuesses T (map named_shown (take i all)) gs) where
  pub one_more_guessed : {more : List Guess} (count : Option ℕ) → HasCount (named_shown named).1.read T count
      → more ≡ gs ++ guesses_of i count → AreGuesses T (map named_shown (take (i + 1) all)) more
  one_more_guessed {more} count has is =
      let taken : map named_shown (take (i + 1) all)
      ≡ map named_shown (take i all) ++ named_shown named ∷ [] =
      rw (add-one, take-suc all i named within, ← is_at)
      (map-append named_shown (take i all) (named ∷ [])) in
      let place : i ≡ length (map named_shown (take i all)) = simp (length-map, length-take) (omega arith) in
      subst (λ ps. AreGuesses T ps more) (sym taken)
      (subst (λ ds. AreGuesses T (map named_shown (take i all) ++ named_shown named ∷ []) ds)
      (sym (is ∙ ap (λ n. gs ++ guesses_of n count) place))
      (AreGuesses.then guessed (named_shown named) has))

-- once every dialect was tried, in whatever order
pub all_guessed : (T : Text) (all : List NamedDialect) (i : ℕ) {gs sorted : List Guess}
    → map named_shown all ≡ presets → length all ≤ i → AreGuesses T (map named_shown (take i all)) gs
    → IsPermutation gs sorted → AreRanked T sorted
all_guessed T all i {gs} are past guessed same = record {
  guessed = gs;
  are_guesses = subst (λ ps. AreGuesses T ps gs) (ap (map named_shown) (take_all i all past) ∙ are) guessed;
  is_same = same;
}
