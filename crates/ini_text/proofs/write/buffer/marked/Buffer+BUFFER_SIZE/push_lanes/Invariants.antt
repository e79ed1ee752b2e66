use Rattle.std.proofs.Common.{◌≡◌, ◌+◌, ◌*◌, ◌++◌, ◌≤◌, length, take}
use Rattle.ini_text.specs.Inside.Lanes.{Tells}
use Rattle.ini_text.specs.Inside.Verbatim.{HaveLetters, marked_escaped}
use Rattle.ini_text.specs.Buffered.{buffered}
use Rattle.ini_text.proofs.write.buffer.marked.Buffer+BUFFER_SIZE.push_lanes.Given as goal

abbrev pub invariant-lanes : goal.invariant-lanes
invariant-lanes g l = record {
  longer : l.fn.self.len ≤ l.len;
  pushed : take l.len l.self.bytes ++ marked_escaped (g.M.Marks.is_marked l.marks) l.rest ≡ buffered l.fn.self
      ++ marked_escaped (g.M.Marks.is_marked l.fn.marks) l.fn.bytes;
  within : l.len ≤ 16384;
  long : length l.self.bytes ≡ 16384;
  known : Tells (g.M.Marks.is_marked l.marks) 0 l.known l.rest;
  shorter : length l.rest ≤ length l.fn.bytes;
  grown : l.len + 2 * length l.rest ≤ l.fn.self.len + 2 * length l.fn.bytes;
  letters : HaveLetters (g.M.Marks.is_marked l.fn.marks) l.fn.bytes
      → HaveLetters (g.M.Marks.is_marked l.marks) l.rest;
}

abbrev pub decreases-lanes : goal.decreases-lanes
decreases-lanes g l = length l.rest
