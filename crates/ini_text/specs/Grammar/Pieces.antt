-- A text in pieces: a list of elements, each with what it gives. Whole texts, as lists that can be edited.
use Rattle.std.specs.Prelude.{ℕ, List, [], ◌∷◌, ◌++◌}
use Rattle.ini_text.specs.Grammar.Elements.{Given, Element}
use Rattle.ini_text.specs.Grammar.Positions.{last_or}
use Rattle.ini_text.specs.declared.option.ParseOption.{ParseOption}

-- an element's source, and what it gives
pub record Piece : Type 0 where
  pub source : List ℕ
  pub gives : List Given

-- the text of a list of pieces
abbrev pub pieces_text : List Piece → List ℕ
pieces_text [] = []
pieces_text (p ∷ ps) = p.source ++ pieces_text ps

-- and its items
abbrev pub pieces_items : List Piece → List Given
pieces_items [] = []
pieces_items (p ∷ ps) = p.gives ++ pieces_items ps

-- After a text whose last character is c (LF stands for an empty text), and before r, each of the pieces is
-- an element.
pub data ArePieces (o : ParseOption) : ℕ → List Piece → List ℕ → Type 0 where
  none : {c : ℕ} {r : List ℕ} → ArePieces o c [] r
  more : {c : ℕ} {p : Piece} {ps : List Piece} {r : List ℕ}
      → Element o (c ∷ []) p.source (pieces_text ps ++ r) p.gives
      → ArePieces o (last_or c p.source) ps r → ArePieces o c (p ∷ ps) r
