use Rattle.std.proofs.Common.{arith}
use Rattle.std.proofs.lemmas.List.Sums.{count_by-le-length}
use Rattle.ini_text.specs.Grammar.CharacterKinds.{is_line_feed}
use Rattle.ini_text.proofs.StringLemmas.LineCountLemmas.{feeds_of_block}
use Rattle.ini_text.proofs.lines.line_feeds.Goals as goal

pub overflow_add-count : goal.overflow_add-count
overflow_add-count c =
    let bytes = c.args.bytes.now in
    omega (arith, feeds_of_block bytes c.lanes.at (omega arith), count_by-le-length is_line_feed bytes)

pub lanes-preserved : goal.lanes-preserved
lanes-preserved c = record {
  counted = omega (arith, feeds_of_block c.args.bytes.now c.lanes.at (omega arith));
  within = omega arith;
}
