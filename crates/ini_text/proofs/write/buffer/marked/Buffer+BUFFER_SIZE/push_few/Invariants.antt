use Rattle.std.proofs.Common.{◌≡◌, ◌+◌, ◌*◌, ◌++◌, ◌≤◌, length, take}
use Rattle.ini_text.specs.Inside.Verbatim.{HaveLetters, marked_escaped}
use Rattle.ini_text.specs.Buffered.{buffered}
use Rattle.ini_text.proofs.write.buffer.marked.Buffer+BUFFER_SIZE.push_few.Given as goal

abbrev pub invariant-few : goal.invariant-few
invariant-few g l = record {
  longer : l.fn.self.len ≤ l.len;
  pushed : take l.len l.self.bytes ++ marked_escaped (g.M.Marks.is_marked l.marks) l.rest ≡ buffered l.fn.self
      ++ marked_escaped (g.M.Marks.is_marked l.fn.marks) l.fn.bytes;
  within : l.len + 2 * length l.rest ≤ 16384;
  shorter : length l.rest ≤ length l.fn.bytes;
  grown : l.len + 2 * length l.rest ≤ l.fn.self.len + 2 * length l.fn.bytes;
  letters : HaveLetters (g.M.Marks.is_marked l.fn.marks) l.fn.bytes
      → HaveLetters (g.M.Marks.is_marked l.marks) l.rest;
}

abbrev pub decreases-few : goal.decreases-few
decreases-few g l = length l.rest
