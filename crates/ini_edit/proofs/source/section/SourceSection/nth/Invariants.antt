use Rattle.std.proofs.Common.{chars}
use Rattle.ini.specs.Texts.{is_text}
use Rattle.ini_edit.proofs.SourcePlaceLemmas.{PassedNth}
use Rattle.ini_edit.proofs.source.section.SourceSection.nth.Given as goal

abbrev pub invariant-loop-i : goal.invariant-loop-i
invariant-loop-i l = PassedNth (λ p. is_text (chars l.fn.key) p.key) l.fn.n l.pair-items l.left l.i
