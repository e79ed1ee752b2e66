use Rattle.std.proofs.Common.{◌≡◌, ap, arith, length, rules, take}
use Rattle.std.proofs.lemmas.List.{length-take}
use Rattle.ini_dialect.proofs.character.utf8_front.Goals as goal

pub returns-in-Err-clause-longest : goal.returns-in-Err-clause-longest
returns-in-Err-clause-longest c n more fits utf8 =
    let value : c.unwrap.result.now ≡ take c.valid_up_to.result c.args.bytes.now = search rules in
    let size : length c.unwrap.result.now ≡ c.valid_up_to.result =
    omega (
      arith,
      ap length value,
      length-take c.valid_up_to.result c.args.bytes.now,
      c.in-Err.ensures.cases.1.short,
      c.valid_up_to.ensures,
    ) in
    c.in-Err.ensures.cases.1.longest n (omega (arith, size, c.valid_up_to.ensures)) utf8
