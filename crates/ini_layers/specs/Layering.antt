-- The document that is made of documents in layers.
use Rattle.std.specs.Prelude.{List, [], ◌∷◌, fold, Option, None, unwrap_or}
use Rattle.ini.specs.Texts.{Text}
use Rattle.ini.specs.Properties.{Pairs, first_value}
use Rattle.ini.specs.Documents.{Document, first_section, names}
use Rattle.ini.specs.Edits.{set_in}

-- the pair's key is set to its first value in the section
abbrev pub with_key : Option Text → Pairs → Document → Text × Text → Document
with_key name section d pair = set_in name pair.0 (unwrap_or (first_value pair.0 section) pair.1) d

-- so is each key of the section, in order
abbrev pub with_keys : Option Text → Pairs → Document → Document
with_keys name section d = fold (with_key name section) d section

-- so are the keys of the first section of the name
abbrev pub with_name : Document → Document → Option Text → Document
with_name layer d name = with_keys name (unwrap_or (first_section name layer) []) d

-- so are those of each name, in the order of first occurrence
abbrev pub with_layer : Document → Document → Document
with_layer d layer = fold (with_name layer) d (names layer)

-- one layer after another goes over a general section without pairs
abbrev pub merged : List Document → Document
merged layers = fold with_layer ((None, []) ∷ []) layers
