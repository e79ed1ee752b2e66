-- Which pair an edit is about: the first pair of the key in the first section of the name.
use Rattle.std.specs.Prelude.{◌≡◌, List, [], ◌∷◌, ◌++◌, Option, None}
use Rattle.ini_text.specs.Grammar.Elements.{Given}
use Rattle.ini_text.specs.Laws.PlainLaws.{BeginsWithHeader}
use Rattle.ini.specs.Texts.{Text}
use Rattle.ini.specs.Properties.{Pairs, first_value}
use Rattle.ini.specs.Documents.{Document, document_of, first_section}
use Rattle.ini.specs.SectionItems.{pair_items}

-- Of the items the last opens the section: they make the sections d, none of them of the name, and the
-- section without pairs.
pub record OpensSection (name : Option Text) (items : List Given) (d : Document) : Type 0 where
  pub opened : document_of items ≡ d ++ (name, []) ∷ []
  pub first : first_section name d ≡ None

-- no pair has the key
abbrev pub Lacks : Text → Pairs → Type 0
Lacks key ps = first_value key ps ≡ None

-- Between the items before and after stands the first pair of the key, in the first section of the name,
-- whose pairs are those earlier, it, and those later.
pub record IsTarget (name : Option Text) (key : Text) (before after : List Given) : Type 0 where
  pub opening : List Given
  pub sections : Document
  pub earlier : Pairs
  pub later : Pairs
  pub rest : List Given
  pub opens : OpensSection name opening sections
  pub lacks : Lacks key earlier
  pub before_is : before ≡ opening ++ pair_items earlier
  pub after_is : after ≡ pair_items later ++ rest
  pub header : BeginsWithHeader rest
