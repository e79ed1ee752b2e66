use Rattle.std.proofs.Common.{map}
use Rattle.ini.specs.Texts.{str_text}
use Rattle.ini_c.proofs.GivenLemmas.{GivenUpTo}
use Rattle.ini_c.proofs.pieces.repeated.values_given.Given as goal

abbrev pub invariant-loop-count : goal.invariant-loop-count
invariant-loop-count l = GivenUpTo l.bytes l.counts l.count-index l.rest (map str_text l.values.items)
