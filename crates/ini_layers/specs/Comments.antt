-- The comments of a text, as the values of a document.
use Rattle.std.specs.Prelude.{ℕ, suc, List, [], ◌∷◌, unwrap_or}
use Rattle.std.specs.Option.{option_map}
use Rattle.ini.specs.Documents.{Document}
use Rattle.ini.specs.Properties.{Pairs}
use Rattle.ini.specs.Texts.{Text}
use Rattle.ini_edit.specs.SourceEditsAt.{indexed_pair}
use Rattle.ini_edit.specs.SourceEditsComments.{comments_above}
use Rattle.ini_edit.specs.Sources.{PairPiece, Pieces, SectionPiece}

-- the comment lines directly above the pair at these indices
abbrev pub comment_of : List SectionPiece → (section pair : ℕ) → Text
comment_of ss section pair = unwrap_or (option_map comments_above (indexed_pair section pair ss)) []

-- pairs from an index on, each with its comment for a value
abbrev pub commented_pairs : (comment : ℕ → Text) → (index : ℕ) → List PairPiece → Pairs
commented_pairs comment index [] = []
commented_pairs comment index (p ∷ ps) = (p.key, comment index) ∷ commented_pairs comment (suc index) ps

-- sections from an index on, of which each pair has its comment among all of them
abbrev pub commented_sections : (all : List SectionPiece) → (index : ℕ) → List SectionPiece → Document
commented_sections all index [] = []
commented_sections all index (s ∷ ss) =
    (s.name, commented_pairs (comment_of all index) 0 s.pairs) ∷ commented_sections all (suc index) ss

-- the document in which each pair of a text has the comment lines directly above it for a value
abbrev pub commented : Pieces → Document
commented pieces = commented_sections pieces.sections 0 pieces.sections
