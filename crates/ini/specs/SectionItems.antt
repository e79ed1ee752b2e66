-- The items that a text gives for sections: a header for each name, and the pairs.
use Rattle.std.specs.Prelude.{List, [], ◌∷◌, ◌++◌, Option, None, Some}
use Rattle.ini_text.specs.Grammar.Elements.{Given, Header, Pair}
use Rattle.ini.specs.Texts.{Text}
use Rattle.ini.specs.Properties.{Pairs}
use Rattle.ini.specs.Documents.{Document}

-- those of pairs
abbrev pub pair_items : Pairs → List Given
pair_items [] = []
pair_items (p ∷ ps) = Pair p.0 p.1 ∷ pair_items ps

-- that of a name; the general section has none
abbrev pub name_items : Option Text → List Given
name_items None = []
name_items (Some name) = Header name ∷ []

-- those of sections, in order
abbrev pub items_of : Document → List Given
items_of [] = []
items_of (s ∷ d) = (name_items s.0 ++ pair_items s.1) ++ items_of d
