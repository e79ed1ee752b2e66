use Rattle.std.proofs.Common.{chars}
use Rattle.ini.specs.Texts.{is_text}
use Rattle.ini_edit.proofs.FirstLemmas.{PassedTo}
use Rattle.ini_edit.proofs.source.section.position.Given as goal

abbrev pub invariant-loop-i : goal.invariant-loop-i
invariant-loop-i l = PassedTo (λ p. is_text (chars l.fn.key) p.key) l.pairs l.i
