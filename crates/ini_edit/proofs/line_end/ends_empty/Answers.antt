use Rattle.ini_edit.proofs.LineEndLemmas.{empty_by_cr_lf, empty_by_lf, empty_by_none}
use Rattle.std.proofs.Common.{chars}
use Rattle.ini_edit.proofs.line_end.ends_empty.Goals as goal

pub returns-in_default : goal.returns-in_default
returns-in_default c = empty_by_none c.is_empty.result c.in_default.ensures c.is_empty.ensures

pub returns-in-Some-without_last : goal.returns-in-Some-without_last
returns-in-Some-without_last c =
    empty_by_cr_lf c.in-Some.ensures (chars c.in-Some-without_last.line.now) c.is_column_one.result
    c.in-Some-without_last.ensures c.is_column_one.ensures

pub returns-in-None : goal.returns-in-None
returns-in-None c =
    empty_by_lf c.in-Some.ensures c.is_column_one-in-None.result c.in-None.ensures
    c.is_column_one-in-None.ensures
