use Rattle.std.proofs.Common.{chars}
use Rattle.ini_check.proofs.OneListLemmas.{one_list}
use Rattle.ini_check.proofs.laws.one_list.Goals as goal

pub returns : goal.returns
returns c ws vs one other = one_list c.args.read (chars c.args.text.now) ws vs one other
