-- The two forms in which a pair is held: as it stands in the text, and with parts of its own.
use Rattle.std.specs.Prelude.{[], chars}
use Rattle.ini_edit.specs.Sources.{PairPiece}
use Rattle.ini_edit.specs.declared.source.pair.PairForm.{PairForm}
use Rattle.ini_edit.specs.declared.source.pair.PairForm.TheVariants.{Kept, Lent}
use Rattle.ini_edit.specs.declared.source.pair.lent.LentPair.{LentPair}

-- a pair that stands in the text: its value is the value's source, and nothing follows that in its line
abbrev pub lent_piece : LentPair → PairPiece
lent_piece p = record {
  stretches = record {
    key = chars p.raw_key.now;
    separator = p.separator;
    space_before = chars p.space_before.now;
    raw_value = chars p.raw_value.now;
    space_after = [];
    note = [];
    trailing_lines = chars p.trailing_lines.now;
  };
  key = chars p.key.now;
  value = chars p.raw_value.now;
  after = chars p.after.now;
}

abbrev pub piece_of : PairForm → PairPiece
piece_of (Lent p) = lent_piece p
piece_of (Kept kept) = kept
