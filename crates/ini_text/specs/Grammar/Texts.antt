-- Whole texts: the items that a text gives, and where reading it stops.
use Rattle.std.specs.Prelude.{◌≡◌, ℕ, List, [], ◌++◌}
use Rattle.ini_text.specs.Grammar.Elements.{Given, Element, ElementStops}
use Rattle.ini_text.specs.declared.option.ParseOption.{ParseOption}
use Rattle.ini_text.specs.declared.error.ParseKind.{ParseKind}

-- between the fronts b and c of the text T stands a row of elements, each in its place, that give the items
-- in order
pub data Reads (o : ParseOption) (T : List ℕ) : List ℕ → List Given → List ℕ → Type 0 where
  stay : {b : List ℕ} (r : List ℕ) → T ≡ b ++ r → Reads o T b [] b
  step : {b s r c : List ℕ} {gives items : List Given} → T ≡ b ++ (s ++ r) → Element o b s r gives
      → Reads o T (b ++ s) items c → Reads o T b (gives ++ items) c

-- the whole text gives the items
abbrev pub Derives : ParseOption → List ℕ → List Given → Type 0
Derives o T items = Reads o T [] items T

-- after a front that a row of elements reaches, an element stops at the end of the front f
pub data Stops (o : ParseOption) (T : List ℕ) : ParseKind → List ℕ → Type 0 where
  stops : {b s r : List ℕ} {items : List Given} {kind : ParseKind} → Reads o T [] items b
      → T ≡ b ++ (s ++ r) → ElementStops o b s r kind → Stops o T kind (b ++ s)
