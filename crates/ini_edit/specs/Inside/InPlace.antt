-- Texts one after another, each in its place: after the last character before it, and before what follows.
use Rattle.std.specs.Prelude.{ℕ, List, [], ◌∷◌, ◌++◌}
use Rattle.ini_text.specs.Grammar.Positions.{last_or}
use Rattle.ini_text.specs.Laws.PieceLaws.{Agree, BeginAlike}
use Rattle.ini_text.specs.declared.option.ParseOption.{ParseOption}
use Rattle.ini.specs.Texts.{Text}
use Rattle.ini_edit.specs.Sources.{joined}

module _ {A : Type 0} (source : A → Text) where
  module _ (stands : ℕ → A → Text → Type 0) where
    -- each of them stands after the character c (LF at a text's front) or the last one before it, and before
    -- what follows it, up to r
    pub data AreInPlace : ℕ → List A → Text → Type 0 where
      none : {c : ℕ} {r : Text} → AreInPlace c [] r
      more : {c : ℕ} {x : A} {xs : List A} {r : Text} → stands c x (joined source xs ++ r)
          → AreInPlace (last_or c (source x)) xs r → AreInPlace c (x ∷ xs) r

    -- where one stands depends on the character before it and the first one after it alone
    pub record IsLocal (o : ParseOption) : Type 0 where
      pub front : (c d : ℕ) (x : A) (r : Text) → Agree o (c ∷ []) (d ∷ []) (source x) → stands c x r
          → stands d x r
      pub follows : (c : ℕ) (x : A) (r other : Text) → BeginAlike r other → stands c x r → stands c x other
