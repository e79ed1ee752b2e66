use Rattle.std.proofs.Common.{◌≡◌, [], length}
use Rattle.ini_text.specs.Device.Watched.{IsClear, SameDevice, device_now}
use Rattle.ini_text.proofs.WriteLemmas.ProgressLemmas.{IsUnderWay}
use Rattle.ini_text.proofs.write.write_bytes.Given as goal

abbrev pub invariant-pieces : goal.invariant-pieces
invariant-pieces g l = record {
  clear : IsClear l.out;
  same_device : SameDevice l.fn.out l.out;
  under_way : IsUnderWay (g.W.Write.contents (device_now l.fn.out))
      (g.W.Write.contents (device_now l.out)) l.fn.bytes l.rest;
  nothing : l.fn.bytes ≡ [] → (l.out ≡ l.fn.out) × (l.rest ≡ []);
}

abbrev pub decreases-pieces : goal.decreases-pieces
decreases-pieces g l = length l.rest
