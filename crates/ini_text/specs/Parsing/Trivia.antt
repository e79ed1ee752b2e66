-- White space and comments between items.
use Rattle.std.specs.Prelude.{◌≡◌, ℕ, true, List, [], ◌∷◌, ◌++◌}
use Rattle.ini_text.specs.Grammar.CharacterKinds.{is_line_end}
use Rattle.ini_text.specs.Grammar.Elements.{Element}
use Rattle.ini_text.specs.declared.option.ParseOption.{ParseOption}

module _ (o : ParseOption) where
  -- after the front b, an element that gives nothing, whatever follows it; or one before a line end, and that
  pub data IsTrivia (b : List ℕ) : List ℕ → Type 0 where
    element : {s : List ℕ} → ((r : List ℕ) → Element o b s r []) → IsTrivia b s
    line : {s : List ℕ} {c : ℕ} → is_line_end c ≡ true → ((r : List ℕ) → Element o b s (c ∷ r) [])
        → IsTrivia b (s ++ c ∷ [])

  -- the text doesn't begin with one
  abbrev pub BeginsWithNoTrivia : List ℕ → List ℕ → Type 0
  BeginsWithNoTrivia b t = (s r : List ℕ) → t ≡ s ++ r → ¬ IsTrivia b s

  -- between the fronts b and c stands a row of them
  pub data AreTrivia : List ℕ → List ℕ → Type 0 where
    none : {b : List ℕ} → AreTrivia b b
    more : {b s c : List ℕ} → IsTrivia b s → AreTrivia (b ++ s) c → AreTrivia b c

  -- from the front b of the text to the front c stand trivia, and none follow
  pub record SkipsTrivia (T b c : List ℕ) : Type 0 where
    pub rest : List ℕ
    pub whole : T ≡ c ++ rest
    pub skipped : AreTrivia b c
    pub no_more : BeginsWithNoTrivia c rest
