use Rattle.std.proofs.Common.{◌∙◌, ap, length}
use Rattle.ini_multimap.proofs.iter.pairs.IntoIterIterator.next.Goals as goal

pub loop-key-init : goal.loop-key-init
loop-key-init g c = record {
  left = c.self.view_is;
  long = c.self.invariant.0;
  counted = c.self.invariant.1 ∙ ap length c.self.view_is;
}
