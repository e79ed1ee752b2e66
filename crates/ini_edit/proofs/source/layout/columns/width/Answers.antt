use Rattle.std.proofs.Common.{ap, arith, chars, length}
use Rattle.std.proofs.lemmas.Str.{encodes-chars, length-le-encodes}
use Rattle.ini_edit.proofs.source.layout.columns.width.Goals as goal

pub overflow_add-count : goal.overflow_add-count
overflow_add-count c =
    let text = c.args.text.now in
    omega (
      arith,
      c.characters.invariant.so_far,
      ap length c.in-Some.ensures.characters,
      length-le-encodes (chars text),
      ap length (encodes-chars text c.utf8.text),
    )
