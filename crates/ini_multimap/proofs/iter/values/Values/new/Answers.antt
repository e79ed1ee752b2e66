use Rattle.std.proofs.Common.{ap, arith, length}
use Rattle.ini_multimap.specs.Slots.{pairs_of}
use Rattle.ini_multimap.proofs.LengthLemmas.{length-values_at-le}
use Rattle.ini_multimap.proofs.ValueLemmas.{ahead_candidate, all_from, after_candidate}
use Rattle.ini_multimap.proofs.WalkLemmas.{pairs_le}
use Rattle.ini_multimap.proofs.iter.values.Values.new.Goals as goal

pub invariant_of-result : goal.invariant_of-result
invariant_of-result g c =
    let slots = c.args.slots.now in
    let k = g.Q.Probe.probe_code c.args.q in (
      ahead_candidate slots.is_chained g.K.MapKey.key_code k slots.keys 0 c.first_candidate.result
          c.first_candidate.ensures,
      after_candidate slots.is_chained g.K.MapKey.key_code k slots.keys (length slots.keys)
          c.last_candidate.result c.last_candidate.ensures.last,
    )

pub returns-clause-values : goal.returns-clause-values
returns-clause-values g c =
    let slots = c.args.slots.now in
    all_from (g.met.Q.Probe.same_code c.args.q) slots.is_chained slots.keys slots.values
    c.first_candidate.result c.last_candidate.result c.first_candidate.ensures c.last_candidate.ensures.last

pub returns-clause-countable : goal.returns-clause-countable
returns-clause-countable g c =
    let slots = c.args.slots.now in
    let test = g.Q.Probe.fits c.args.q in
    omega (
      arith,
      ap length (returns-clause-values g c),
      length-values_at-le test (pairs_of slots),
      pairs_le slots.keys slots.values,
      c.last_candidate.ensures.countable,
    )
