-- A value of two layers, with the layer that gives it.
use Rattle.std.specs.Prelude.{◌≡◌, [], ◌∷◌, Option, Some}
use Rattle.ini_text.specs.Options.ReadOptions.{default_parse_option}
use Rattle.ini.specs.Texts.{Text, text_of}
use Rattle.ini.specs.Documents.{Document}
use Rattle.ini.specs.Loading.{IsDocumentOf}
use Rattle.ini_layers.specs.Layers.{IsOrigin, layered_value}
use Rattle.ini_examples.specs.declared.report.Report.{Report}

-- the value is the one that counts over the documents of both texts, and the layer is the one that gives it
pub record IsReport (system user : Text) (name : Option Text) (key : Text) (r : Report) : Type 0 where
  pub first : Document
  pub second : Document
  pub first_loaded : IsDocumentOf default_parse_option system first
  pub second_loaded : IsDocumentOf default_parse_option user second
  pub value : layered_value name key (first ∷ second ∷ []) ≡ Some (text_of r.value)
  pub layer : IsOrigin name key (first ∷ second ∷ []) r.layer
