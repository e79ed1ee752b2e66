use Rattle.std.proofs.Common.{◌≡◌, ◌++◌, flat_map, take}
use Rattle.ini_file.specs.Shells.{quoted_byte}
use Rattle.ini_file.proofs.shell.push_quoted.Given as goal

abbrev pub invariant-loop-byte : goal.invariant-loop-byte
invariant-loop-byte l =
    l.bytes.items ≡ l.fn.bytes.items ++ flat_map quoted_byte (take l.byte-index l.text)
