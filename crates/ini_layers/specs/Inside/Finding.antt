-- Where the pairs of a key stand in a text in pieces, and how many there are.
use Rattle.std.specs.Prelude.{◌≡◌, Bool, true, ℕ, List, [], ◌∷◌, map, None, Option, ⊤}
use Rattle.ini.specs.Documents.{Document, sections_named, value_in}
use Rattle.ini.specs.Properties.{Pairs, values}
use Rattle.ini.specs.Texts.{Text, is_name, is_text}
use Rattle.ini_edit.specs.Inside.SourceEnds.{IsPlaceAt}
use Rattle.ini_edit.specs.SourcePlaces.{Place, pair_place}
use Rattle.ini_edit.specs.Sources.{PairPiece, SectionPiece, given_section}
use Rattle.ini_layers.specs.declared.finder.Found.{Found}
use Rattle.ini_layers.specs.declared.finder.Found.TheVariants as founds
use Rattle.ini_layers.specs.declared.finder.PairCount.{PairCount}
use Rattle.ini_layers.specs.declared.finder.PairCount.TheVariants as counts

abbrev pub is_named : Option Text → SectionPiece → Bool
is_named name s = is_name name s.name

abbrev pub is_keyed : Text → PairPiece → Bool
is_keyed key p = is_text key p.key

-- the item at the index passes
pub record PassesAt {A : Type 0} (test : A → Bool) (xs : List A) (index : ℕ) : Type 0 where
  pub place : Place A
  pub at : IsPlaceAt xs place index
  pub passes : test place.here ≡ true

module _ (name : Option Text) (key : Text) where
  -- a pair of the key, in a section of the name
  pub record IsPairThere (ss : List SectionPiece) (section pair : ℕ) : Type 0 where
    pub in_text : PassesAt (is_named name) ss section
    pub in_section : PassesAt (is_keyed key) in_text.place.here.pairs pair

  -- the name has one section, and the key one pair in it
  pub record HasOne (d : Document) : Type 0 where
    pub pairs : Pairs
    pub value : Text
    pub in_document : sections_named name d ≡ pairs ∷ []
    pub in_section : values key pairs ≡ value ∷ []

  abbrev pub HasCount : Document → PairCount → Type 0
  HasCount d counts.Nothing = value_in name key d ≡ None
  HasCount d counts.One = HasOne d
  HasCount d counts.Several = ⊤

  pub record IsOnlyPair (ss : List SectionPiece) (section pair : ℕ) : Type 0 where
    pub there : IsPairThere ss section pair
    pub one : HasOne (map given_section ss)

  abbrev pub Finds : List SectionPiece → Found → Type 0
  Finds ss founds.Nothing = pair_place name key 0 ss ≡ None
  Finds ss (founds.Only at) = IsOnlyPair ss at.section at.pair
  Finds ss founds.Unknown = ⊤
