-- A document of items has a general section.
use Rattle.std.proofs.Common.{List, [], ◌∷◌, None, IsSome, fold, refl, arith}
use Rattle.std.proofs.lemmas.Bool.{false≢true}
use Rattle.ini_text.specs.Grammar.Elements.{Given, Header, Pair}
use Rattle.ini.specs.Texts.{Text}
use Rattle.ini.specs.Documents.{Document, document_of, first_section, with_item, with_pair}

-- a pair keeps it
pair-keeps : (key value : Text) (d : Document) → IsSome (first_section None d)
    → IsSome (first_section None (with_pair key value d))
pair-keeps key value [] there = there
pair-keeps key value (s ∷ []) there = grind (arith)
pair-keeps key value (s ∷ t ∷ d) there = grind (arith, pair-keeps key value (t ∷ d))

-- a header keeps it
header-keeps : (name : Text) (d : Document) → IsSome (first_section None d)
    → IsSome (first_section None (with_item d (Header name)))
header-keeps name [] there = absurd (false≢true there)
header-keeps name (s ∷ d) there = grind (arith, header-keeps name d)

items-keep : (items : List Given) (d : Document) → IsSome (first_section None d)
    → IsSome (first_section None (fold with_item d items))
items-keep [] d there = there
items-keep (Header name ∷ items) d there =
    items-keep items (with_item d (Header name)) (header-keeps name d there)
items-keep (Pair key value ∷ items) d there =
    items-keep items (with_pair key value d) (pair-keeps key value d there)

pub has_general : (items : List Given) → IsSome (first_section None (document_of items))
has_general items = items-keep items ((None, []) ∷ []) refl
