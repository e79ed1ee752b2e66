use Rattle.std.proofs.Common.{[], ◌∙◌, ap, arith, length}
use Rattle.ini_multimap.specs.Slots.{pairs_of}
use Rattle.ini_multimap.specs.Inside.Fits.{fresh_between}
use Rattle.ini_multimap.proofs.DistinctLemmas.{length-fresh-le}
use Rattle.ini_multimap.proofs.LeadingLemmas.{keys_after}
use Rattle.ini_multimap.proofs.WalkLemmas.{pairs_le}
use Rattle.ini_multimap.proofs.iter.keys.Keys.new.Goals as goal

pub returns-clause-keys : goal.returns-clause-keys
returns-clause-keys g c =
    let slots = c.args.slots.now in
    ap (fresh_between g.K.PartialEq.eq slots c.leading.result) c.len.ensures
    ∙ keys_after g.K.PartialEq.eq slots c.leading.result c.leading.ensures

pub returns-clause-countable : goal.returns-clause-countable
returns-clause-countable g c =
    let slots = c.args.slots.now in
    omega (
      arith,
      ap length (returns-clause-keys g c),
      length-fresh-le g.K.PartialEq.eq [] (pairs_of slots),
      pairs_le slots.keys slots.values,
      c.len.ensures,
      c.len.type_inv,
    )
