use Rattle.std.proofs.Common.{sym}
use Rattle.ini_multimap.proofs.slots.Slots.chain_from.Goals as goal

pub invariant_of-self : goal.invariant_of-self
invariant_of-self g c =
    let keys = sym c.as_slice.ensures.value in record {
      long = c.self.invariant.long;
      indexed = rw (keys) c.in_ok-chains.ensures.chained;
      tagged = c.self.invariant.tagged;
      counted = c.self.invariant.counted;
      leads = c.self.invariant.leads;
      paired = c.self.invariant.paired;
      injective = rw keys c.in_ok-chains.ensures.known;
    }
