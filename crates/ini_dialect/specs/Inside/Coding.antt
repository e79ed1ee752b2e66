-- Words of private functions: what bytes begin with.
use Rattle.std.specs.Prelude.{◌≡◌, ℕ, Bool, true, false, List, [], ◌∷◌, ◌++◌, encode_utf8, flat_map}
use Rattle.std.specs.Prelude.{Option, None, Some}
use Rattle.std.specs.Char.{IsScalar}
use Rattle.std.specs.Char.Escape.{encode_utf16}
use Rattle.ini_dialect.specs.Encodings.{bytes_of, low_first, low_last}
use Rattle.ini_dialect.specs.declared.encoding.Encoding.{Encoding}

-- the bytes begin with those of the character, and the rest follows
pub record BeginsWith (encoding : Encoding) (bytes : List ℕ) (character : ℕ) (rest : List ℕ) : Type 0 where
  pub own : List ℕ
  pub own_is : bytes_of encoding character ≡ Some own
  pub split : bytes ≡ own ++ rest
  pub scalar : IsScalar character

-- in UTF-8
pub record BeginsWithUtf8 (bytes : List ℕ) (character : ℕ) (rest : List ℕ) : Type 0 where
  pub split : bytes ≡ encode_utf8 character ++ rest
  pub scalar : IsScalar character

-- a unit's bytes, its low one first or last
abbrev pub unit_in : Bool → ℕ → List ℕ
unit_in true u = low_first u
unit_in false u = low_last u

-- the bytes of a character's units
abbrev pub units_in : Bool → ℕ → List ℕ
units_in order c = flat_map (unit_in order) (encode_utf16 c)

-- the bytes begin with those of a character in UTF-16
pub record BeginsWithUnits (order : Bool) (bytes : List ℕ) (character : ℕ) (rest : List ℕ) : Type 0 where
  pub split : bytes ≡ units_in order character ++ rest
  pub scalar : IsScalar character

-- with those of no character
abbrev pub BeginsNoUnits : Bool → List ℕ → Type 0
BeginsNoUnits order bytes = (c : ℕ) (more : List ℕ) → IsScalar c → bytes ≡ units_in order c ++ more → ⊥

-- the bytes begin with a low unit that makes the character with the high one
pub record CompletesPair (order : Bool) (high : ℕ) (bytes : List ℕ) (character : ℕ) (rest : List ℕ)
    : Type 0 where
  pub low : ℕ
  pub pair : encode_utf16 character ≡ high ∷ low ∷ []
  pub split : bytes ≡ unit_in order low ++ rest
  pub scalar : IsScalar character

-- no character is a pair of the two units
abbrev pub IsNoPair : ℕ → ℕ → Type 0
IsNoPair high low = (c : ℕ) → IsScalar c → encode_utf16 c ≡ high ∷ low ∷ [] → ⊥

abbrev pub CompletesNoPair : Bool → ℕ → List ℕ → Type 0
CompletesNoPair order high bytes =
    (low : ℕ) (more : List ℕ) → bytes ≡ unit_in order low ++ more → IsNoPair high low

-- the bytes grew by those of the character, or it has none
abbrev pub IsPushed : Encoding → ℕ → List ℕ → List ℕ → Bool → Type 0
IsPushed encoding c old new true = (b : List ℕ) × (bytes_of encoding c ≡ Some b) × (new ≡ old ++ b)
IsPushed encoding c old new false = (bytes_of encoding c ≡ None) × (new ≡ old)

-- the bytes grew by the one byte, where there is one
abbrev pub HasPushed : Option ℕ → List ℕ → List ℕ → Bool → Type 0
HasPushed byte old new true = (b : ℕ) × (byte ≡ Some b) × (new ≡ old ++ b ∷ [])
HasPushed byte old new false = (byte ≡ None) × (new ≡ old)
