-- Laws of the definitions alone: a text has one outcome, and a stop at a character stays where it is,
-- whatever follows.
use Rattle.std.specs.Prelude.{◌≡◌, ◌≢◌, ◌⊎◌, ℕ, List, [], ◌∷◌, ◌++◌}
use Rattle.ini_text.specs.Grammar.CharacterKinds.{carriage_return}
use Rattle.ini_text.specs.Grammar.Elements.{Given}
use Rattle.ini_text.specs.Grammar.Texts.{Derives, Stops}
use Rattle.ini_text.specs.declared.option.ParseOption.{ParseOption}
use Rattle.ini_text.specs.declared.error.ParseKind.{ParseKind}
use Rattle.ini_text.specs.declared.error.ParseKind.TheVariants.{EndOfText, CrAlone}

-- the text derives these items, no others, and reading it never stops
pub record DerivesJust (o : ParseOption) (T : List ℕ) (items : List Given) : Type 0 where
  pub derives : Derives o T items
  pub alone : (others : List Given) → Derives o T others → others ≡ items
  pub never_stops : (kind : ParseKind) (front : List ℕ) → ¬ Stops o T kind front

-- reading the text stops for this reason at the end of this front, nowhere else and for no other, and the
-- text derives nothing
pub record StopsJust (o : ParseOption) (T : List ℕ) (kind : ParseKind) (front : List ℕ) : Type 0 where
  pub stops : Stops o T kind front
  pub alone : (other : ParseKind) (elsewhere : List ℕ) → Stops o T other elsewhere
      → (other ≡ kind) × (elsewhere ≡ front)
  pub derives_nothing : (items : List Given) → ¬ Derives o T items

abbrev pub HasOneReading : ParseOption → List ℕ → Type 0
HasOneReading o T = ((items : List Given) × DerivesJust o T items) ⊎
    ((kind : ParseKind) × (front : List ℕ) × StopsJust o T kind front)

-- the text derives items but for a CR at its end
abbrev pub IsWholeBeforeCr : ParseOption → List ℕ → Type 0
IsWholeBeforeCr o T =
    (whole : List ℕ) × (items : List Given) × (T ≡ whole ++ carriage_return ∷ []) × Derives o whole items

-- A stop at the end of the front is at the front's last character, and not at the text's end: the text
-- isn't cut short, and where it ends with the front, it doesn't end in a CR that stands alone after a
-- whole text.
pub record IsAtCharacter (o : ParseOption) (front follows : List ℕ) (kind : ParseKind) : Type 0 where
  pub not_cut_short : kind ≢ EndOfText
  pub no_last_cr : kind ≡ CrAlone → follows ≡ [] → ¬ IsWholeBeforeCr o front
