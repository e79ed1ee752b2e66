-- Rows of elements and lists of pieces.
use Rattle.ini_text.proofs.LawLemmas.PieceLemmas.{in_pieces, pieces_derive}
use Rattle.ini_text.proofs.laws.pieces.elements_are_pieces.Goals as goal

pub returns-clause-derives : goal.returns-clause-derives
returns-clause-derives c = λ o pieces are. pieces_derive pieces are

pub returns-clause-pieces : goal.returns-clause-pieces
returns-clause-pieces c = λ o text items reads. in_pieces reads
