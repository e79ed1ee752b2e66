-- Short pieces of a string, which are gathered in a block.
use Rattle.std.specs.Prelude.{◌≡◌, ◌≤◌, ◌<◌, ◌+◌, ℕ, not, List, [], ◌∷◌, ◌++◌, take, drop, length, chars}
use Rattle.std.specs.Str.{IsUtf8, IsCharBoundary}
use Rattle.ini_text.specs.Options.Backslashes.{Escape}
use Rattle.ini_text.specs.Grammar.Strings.{Ends}
use Rattle.ini_text.specs.Inside.Lanes.{Tells}
use Rattle.ini_text.specs.Inside.Reading.{prepend}
use Rattle.ini_text.specs.Inside.Scans.{is_raw}
use Rattle.ini_text.specs.Inside.StringReader.{string}

-- the bits tell which of the text's first bytes, at most sixteen, are marks; sixteen follow them
abbrev pub Sees : Ends → ℕ → List ℕ → Type 0
Sees to bits text = Tells (λ c. not (is_raw to c)) 16 bits text

-- at the text's front: an escape of n bytes that stands for the character v
pub record IsEscape (text : List ℕ) (v n : ℕ) : Type 0 where
  pub few : n ≤ 6
  pub cut : IsCharBoundary text n
  pub read : (to : Ends) → string Escape to (chars text)
      ≡ prepend (v ∷ []) (string Escape to (chars (drop n text)))
  pub shorter : length (chars (drop n text)) < length (chars text)

-- at the text's front: a run of n bytes, and after it an escape of k bytes that stands for the character v
pub record IsShort (to : Ends) (text : List ℕ) (n v k : ℕ) : Type 0 where
  pub within : n ≤ 16
  pub few : k ≤ 6
  pub long : 16 ≤ length text
  pub run : IsUtf8 (take n text)
  pub cut : IsCharBoundary text (n + k)
  pub read : string Escape to (chars text)
      ≡ prepend (chars (take n text) ++ v ∷ []) (string Escape to (chars (drop (n + k) text)))
  pub shorter : length (chars (drop (n + k) text)) < length (chars text)
