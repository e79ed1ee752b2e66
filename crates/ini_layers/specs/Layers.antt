-- What documents in layers answer.
use Rattle.std.specs.Prelude.{◌≡◌, ℕ, List, ◌∷◌, ◌++◌, length, Option, None, IsSome}
use Rattle.std.specs.List.{filter_map, last_or}
use Rattle.ini.specs.Texts.{Text}
use Rattle.ini.specs.Documents.{Document, value_in}

-- the value of the last document whose first section of the name has the key
abbrev pub layered_value : Option Text → Text → List Document → Option Text
layered_value name key layers = last_or None (filter_map (value_in name key) layers)

-- the layer with this number, from 0, gives the value that counts: it has it, and no later layer has one
pub record IsOrigin (name : Option Text) (key : Text) (layers : List Document) (number : ℕ) : Type 0 where
  pub before : List Document
  pub layer : Document
  pub later : List Document
  pub split : layers ≡ before ++ layer ∷ later
  pub place : number ≡ length before
  pub there : IsSome (value_in name key layer)
  pub counts : value_in name key layer ≡ layered_value name key layers
  pub none_later : layered_value name key later ≡ None

-- every name and key has in the document the value that it has in the layers
pub record HasLayeredValues (layers : List Document) (document : Document) : Type 0 where
  pub same : (name : Option Text) (key : Text) → value_in name key document ≡ layered_value name key layers
