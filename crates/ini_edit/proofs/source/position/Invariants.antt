use Rattle.ini.specs.Texts.{is_name, str_name}
use Rattle.ini_edit.proofs.FirstLemmas.{PassedTo}
use Rattle.ini_edit.proofs.source.position.Given as goal

abbrev pub invariant-loop-i : goal.invariant-loop-i
invariant-loop-i l = PassedTo (λ s. is_name (str_name l.fn.name) s.name) l.sections l.i
