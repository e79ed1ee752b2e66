use Rattle.std.proofs.Common.{◌≡◌, ◌++◌, map, take}
use Rattle.ini_file.specs.Shells.{name_byte}
use Rattle.ini_file.proofs.shell.push_named.Given as goal

abbrev pub invariant-loop-byte : goal.invariant-loop-byte
invariant-loop-byte l = l.bytes.items ≡ l.fn.bytes.items ++ map name_byte (take l.byte-index l.text)
