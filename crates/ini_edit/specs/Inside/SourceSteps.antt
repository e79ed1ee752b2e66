-- What edits of a text in pieces make of one pair, and of one section.
use Rattle.std.specs.Prelude.{◌≡◌, ◌<◌, ℕ, Bool, true, false, List, ◌++◌, length, set, get_or}
use Rattle.std.specs.Prelude.{None, Some, take}
use Rattle.std.specs.List.{All}
use Rattle.ini_text.specs.Escaping.EscapedTexts.{escaped}
use Rattle.ini_text.specs.declared.option.ParseOption.{ParseOption}
use Rattle.ini_text.specs.declared.write.policy.EscapePolicy.{EscapePolicy}
use Rattle.ini.specs.Texts.{Text}
use Rattle.ini_edit.specs.Inside.Quotes.{IsOwnSource}
use Rattle.ini_edit.specs.Renamed.{HasEdges}
use Rattle.ini_edit.specs.SourceEdits.{first_changed, first_fitting, key_changed, pair_of_key, with_key}
use Rattle.ini_edit.specs.Sources.{PairPiece, SectionPiece}

-- at the index stands the first of the list that fits, so that an edit of it is one of that place
pub record IsFirstAt {A : Type 0} (test : A → Bool) (xs : List A) (i : ℕ) : Type 0 where
  pub found : A
  pub fitting : first_fitting test xs ≡ Some found
  pub within : i < length xs
  pub is : found ≡ get_or xs i found
  pub none_before : first_fitting test (take i xs) ≡ None
  pub changed : (f : A → A) → set xs i (f found) ≡ first_changed test f xs

-- each of the pairs' values is the source of a value
abbrev pub HaveOwnSources : ParseOption → List PairPiece → Type 0
HaveOwnSources o ps = All (λ p. IsOwnSource o p.stretches.raw_value) ps

module _ (o : ParseOption) (policy : EscapePolicy) where
  -- the pair has the key
  pub record RenamesPair (old new : PairPiece) (other : Text) : Type 0 where
    pub indent : Text
    pub pad : Text
    pub edges : HasEdges o old.stretches.key indent pad
    pub is : new ≡ with_key (indent ++ (escaped policy other ++ pad)) other old

  -- the first pair of the key has another key
  pub record RenamesKey (old new : SectionPiece) (key other : Text) : Type 0 where
    pub pair : PairPiece
    pub was : pair_of_key key old ≡ Some pair
    pub indent : Text
    pub pad : Text
    pub edges : HasEdges o pair.stretches.key indent pad
    pub is : new ≡ key_changed key (with_key (indent ++ (escaped policy other ++ pad)) other) old

  -- or there is no such pair, and all stays
  abbrev pub RenamesIn : SectionPiece → SectionPiece → Text → Text → Bool → Type 0
  RenamesIn old new key other true = RenamesKey old new key other
  RenamesIn old new key other false = (new ≡ old) × (pair_of_key key old ≡ None)
