use Rattle.std.proofs.Common.{◌≡◌, take}
use Rattle.ini_multimap.specs.Keys.{text_code_from}
use Rattle.ini_multimap.proofs.key.few_more.Given as goal

abbrev pub invariant-loop-byte : goal.invariant-loop-byte
invariant-loop-byte l = l.code ≡ text_code_from l.from (take l.byte-index l.bytes)
