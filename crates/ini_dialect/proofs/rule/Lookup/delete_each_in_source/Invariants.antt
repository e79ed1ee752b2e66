use Rattle.std.proofs.Common.{chars}
use Rattle.ini.specs.Texts.{str_name}
use Rattle.ini_edit.specs.Sources.{document_in}
use Rattle.ini_dialect.proofs.DeletedUnderLemmas.{DeletedSoFar, pairs_count}
use Rattle.ini_dialect.proofs.rule.Lookup.delete_each_in_source.Given as goal

abbrev pub invariant-pairs : goal.invariant-pairs
invariant-pairs l = DeletedSoFar l.self (str_name l.name) (chars l.key) l.fn.source l.source l.found

-- so many pairs are left
abbrev pub decreases-pairs : goal.decreases-pairs
decreases-pairs l = pairs_count (document_in l.source)
