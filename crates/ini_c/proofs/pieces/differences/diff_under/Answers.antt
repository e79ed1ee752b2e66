use Rattle.std.proofs.Common.{rules}
use Rattle.ini_c.proofs.TextLemmas.{text-stays}
use Rattle.ini_c.proofs.pieces.differences.diff_under.Goals as goal

pub returns-in_default-list_difference-clause-from_stays :
    goal.returns-in_default-list_difference-clause-from_stays
returns-in_default-list_difference-clause-from_stays c =
    text-stays c.args.from.now c.with.new.self c.in-Some.ensures.text (search rules)

pub returns-in_default-list_difference-clause-to_stays :
    goal.returns-in_default-list_difference-clause-to_stays
returns-in_default-list_difference-clause-to_stays c =
    text-stays c.args.to.now c.with-2.new.self c.in-Some-tied.ensures.text (search rules)

pub returns-clause-from_stays : goal.returns-clause-from_stays
returns-clause-from_stays c =
    text-stays c.args.from.now c.with.new.self c.in-Some.ensures.text (search rules)

pub returns-clause-to_stays : goal.returns-clause-to_stays
returns-clause-to_stays c =
    text-stays c.args.to.now c.with-2.new.self c.in-Some-tied.ensures.text (search rules)
