use Rattle.std.proofs.Common.{◌≡◌, ◌+◌, ◌-◌, ◌≤◌, length, drop}
use Rattle.std.specs.List.{position_or_len}
use Rattle.ini_text.proofs.lanes.run_before.Given as goal

abbrev pub invariant-lanes : goal.invariant-lanes
invariant-lanes g l = record {
  run : position_or_len (g.M.Marks.is_marked l.marks) l.bytes
      ≡ l.at + position_or_len (g.M.Marks.is_marked l.marks) (drop l.at l.bytes);
  within : l.at ≤ length l.bytes;
}

abbrev pub decreases-lanes : goal.decreases-lanes
decreases-lanes g l = length l.bytes - l.at
