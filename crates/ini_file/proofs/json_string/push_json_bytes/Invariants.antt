use Rattle.std.proofs.Common.{◌≡◌, ◌++◌, flat_map, take}
use Rattle.ini_file.specs.JsonStrings.{json_byte}
use Rattle.ini_file.proofs.json_string.push_json_bytes.Given as goal

abbrev pub invariant-loop-byte : goal.invariant-loop-byte
invariant-loop-byte l = l.bytes.items ≡ l.fn.bytes.items ++ flat_map json_byte (take l.byte-index l.text)
