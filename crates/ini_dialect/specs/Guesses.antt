-- Which dialects a text can be read as, and how many warnings it has as each.
use Rattle.std.specs.Prelude.{ℕ, List, [], ◌∷◌, ◌++◌, length, IsPermutation, Option, None, Some}
use Rattle.ini.specs.Loading.{IsStopOf}
use Rattle.ini.specs.Texts.{Text}
use Rattle.ini_check.specs.Warnings.{AreWarningsOf}
use Rattle.ini_check.specs.declared.warning.Warning.{Warning}
use Rattle.ini_text.specs.declared.error.ParseError.{ParseError}
use Rattle.ini_text.specs.declared.option.ParseOption.{ParseOption}
use Rattle.ini_dialect.specs.Dialects.{Preset, presets}
use Rattle.ini_dialect.specs.declared.guessing.Guess.{Guess}

-- how many warnings the text has that is read so; none where it is refused
pub data HasCount (o : ParseOption) (T : Text) : Option ℕ → Type 0 where
  warns : {ws : List Warning} → AreWarningsOf o T ws → HasCount o T (Some (length ws))
  refused : {e : ParseError} → IsStopOf o T e → HasCount o T None

-- what is guessed of the dialect at this place
abbrev pub guesses_of : ℕ → Option ℕ → List Guess
guesses_of place None = []
guesses_of place (Some count) = record { warnings = count; place = place } ∷ []

-- what is guessed of dialects, in their order
pub data AreGuesses (T : Text) : List (List ℕ × Preset) → List Guess → Type 0 where
  none : AreGuesses T [] []
  then : {ps : List (List ℕ × Preset)} {gs : List Guess} → AreGuesses T ps gs → (p : List ℕ × Preset)
      {count : Option ℕ} → HasCount p.1.read T count
      → AreGuesses T (ps ++ p ∷ []) (gs ++ guesses_of (length ps) count)

-- the same of all dialects, in another order
pub record AreRanked (T : Text) (gs : List Guess) : Type 0 where
  pub guessed : List Guess
  pub are_guesses : AreGuesses T presets guessed
  pub is_same : IsPermutation guessed gs
