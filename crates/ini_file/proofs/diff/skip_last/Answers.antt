use Rattle.std.proofs.Common.{ap, sym, ◌∙◌}
use Rattle.ini_file.specs.Diffs.{lines_of}
use Rattle.ini_file.proofs.ShareLemmas.{DifferLast-lines, ShareLast-more, no_last, other_line, same_line}
use Rattle.ini_file.proofs.diff.skip_last.Goals as goal
use Rattle.ini_file.proofs.diff.skip_last.Goals.{in-Some-Some+then-ne, in_default, in_default-2}

pub lines-preserved : goal.lines-preserved
lines-preserved c =
    let same = same_line c.in-Some-Some.one.now c.in-Some-Some.other.now _ c.ne.ensures c.if-ne.false in
    ShareLast-more c.lines.invariant c.in-Some-Some.ensures c.in-Some-Some.ensures' same

pub returns-clause-longest : goal.returns-clause-longest
returns-clause-longest c = elim c.match-split_last_line.branch [
  | in-Some-Some+then-ne w ↦
      DifferLast-lines w.in-Some-Some.ensures w.in-Some-Some.ensures'
      (other_line w.in-Some-Some.one.now w.in-Some-Some.other.now _ w.ne.ensures w.if-ne.true)
  | in_default w ↦ λ line more rest e f. no_last rest line (ap lines_of (sym w.in_default.ensures') ∙ f)
  | in_default-2 w ↦ λ line more rest e f. no_last more line (ap lines_of (sym w.in_default.ensures) ∙ e)
]
