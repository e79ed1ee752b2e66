-- The piece of a pair that has room of its own.
use Rattle.std.specs.Prelude.{List, [], ◌∷◌, None}
use Rattle.ini_edit.specs.Sources.{PairPiece}

-- a pair without a character
abbrev pub no_piece : PairPiece
no_piece = record {
  stretches = record {
    key = [];
    separator = None;
    space_before = [];
    raw_value = [];
    space_after = [];
    note = [];
    trailing_lines = [];
  };
  key = [];
  value = [];
  after = [];
}

-- the one piece of a list of one
abbrev pub only_piece : List PairPiece → PairPiece
only_piece [] = no_piece
only_piece (p ∷ ps) = p
