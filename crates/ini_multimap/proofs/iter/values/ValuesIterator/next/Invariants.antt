use Rattle.std.proofs.Common.{◌≡◌, Some, length}
use Rattle.ini_multimap.specs.Inside.Candidates.{AreBetween, values_from, walk_left}
use Rattle.ini_multimap.proofs.iter.values.ValuesIterator.next.Given as goal

-- only pairs that do not fit were passed over
abbrev pub invariant-loop-self : goal.invariant-loop-self
invariant-loop-self g l =
    let it = l.self-inside in
    let columns = it.slots.now in
    record {
      slots : AreBetween columns.is_chained g.K.MapKey.key_code (g.Q.Probe.probe_code it.q) columns.keys
          it.first it.last;
      end : it.last ≡ Some l.last;
      left : values_from (g.Q.Probe.fits it.q) columns.keys columns.values it.first it.last ≡ l.fn.self;
    }

abbrev pub decreases-loop-self : goal.decreases-loop-self
decreases-loop-self g l = walk_left (length l.self-inside.slots.now.keys) l.self-inside.first
