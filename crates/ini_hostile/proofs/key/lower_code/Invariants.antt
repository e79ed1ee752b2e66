use Rattle.std.proofs.Common.{◌≡◌, take}
use Rattle.ini_multimap.specs.Keys.{text_code}
use Rattle.ini_hostile.specs.Keys.{lower}
use Rattle.ini_hostile.proofs.key.lower_code.Given as goal

abbrev pub invariant-loop-byte : goal.invariant-loop-byte
invariant-loop-byte l = l.code ≡ text_code (lower (take l.byte-index l.text))
