-- What an element depends on beside its own source, and what follows of texts in pieces.
use Rattle.std.specs.Prelude.{◌≡◌, ℕ, true, List, [], ◌∷◌, ◌++◌}
use Rattle.ini_text.specs.Grammar.CharacterKinds.{is_blank, is_comment_mark, line_feed, BeginsWith}
use Rattle.ini_text.specs.Grammar.Elements.{Given}
use Rattle.ini_text.specs.Grammar.Pieces.{Piece, ArePieces, pieces_items, pieces_text}
use Rattle.ini_text.specs.Grammar.Positions.{last_or, starts_line, is_column_one}
use Rattle.ini_text.specs.declared.option.ParseOption.{ParseOption}

-- Two fronts agree before a text: if it begins with a blank, a line starts after both or after neither; if it
-- begins with a comment mark, both end in column one or neither, and where indented comments are on, a line
-- starts after both or after neither.
pub record Agree (o : ParseOption) (front other text : List ℕ) : Type 0 where
  pub line : BeginsWith is_blank text → starts_line front ≡ starts_line other
  pub column : BeginsWith is_comment_mark text → is_column_one front ≡ is_column_one other
  pub comment : o.enabled_indented_comment ≡ true → BeginsWith is_comment_mark text
      → starts_line front ≡ starts_line other

-- both texts are empty, or begin with the same character
pub data BeginAlike : List ℕ → List ℕ → Type 0 where
  empty : BeginAlike [] []
  character : {c : ℕ} {r x : List ℕ} → BeginAlike (c ∷ r) (c ∷ x)

-- the text is that of a list of pieces, which gives the items
pub record IsInPieces (o : ParseOption) (text : List ℕ) (items : List Given) : Type 0 where
  pub pieces : List Piece
  pub text_is : text ≡ pieces_text pieces
  pub gives : items ≡ pieces_items pieces
  pub are_pieces : ArePieces o line_feed pieces []

-- In a list of pieces a part may be exchanged for another: it is in pieces where it stands, what stands
-- before it sees the same first character, and what follows agrees with both fronts.
pub record MayStandFor (o : ParseOption) (c : ℕ) (before old new rest : List Piece)
    (r : List ℕ) : Type 0 where
  pub in_place : ArePieces o (last_or c (pieces_text before)) new (pieces_text rest ++ r)
  pub begins : BeginAlike (pieces_text old ++ (pieces_text rest ++ r))
      (pieces_text new ++ (pieces_text rest ++ r))
  pub ends : Agree o (last_or (last_or c (pieces_text before)) (pieces_text old) ∷ [])
      (last_or (last_or c (pieces_text before)) (pieces_text new) ∷ []) (pieces_text rest)
