use Rattle.std.proofs.Common.{chars, length, string_bytes}
use Rattle.ini_dialect.proofs.EncodingLemmas.{Decodes}
use Rattle.ini_dialect.proofs.encoding.Encoding.decode.Given as goal

abbrev pub decreases-characters : goal.decreases-characters
decreases-characters l = length l.rest

abbrev pub invariant-characters : goal.invariant-characters
invariant-characters l = Decodes l.self l.fn.bytes l.rest (chars (string_bytes l.text))
