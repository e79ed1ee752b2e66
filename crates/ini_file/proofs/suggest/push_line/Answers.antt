use Rattle.std.proofs.Common.{arith, rules, sym}
use Rattle.std.proofs.lemmas.Grind.{common_steps}
use Rattle.std.proofs.lemmas.List.{append-nil}
use Rattle.ini_file.proofs.SuggestLemmas.{line_past, line_there}
use Rattle.ini_file.proofs.suggest.push_line.Goals as goal

pub returns-in-None : goal.returns-in-None
returns-in-None c =
    rw (line_past c.args.file.now c.args.guess c.dialects.result.now c.dialects.ensures
    c.in-None.ensures.lookup.3)
    (sym (append-nil c.args.lines.now.items))

pub returns-in_ok-line-in-Some : goal.returns-in_ok-line-in-Some
returns-in_ok-line-in-Some c =
    let found = c.in-Some.ensures.lookup in
    rw (line_there c.args.file.now c.args.guess c.dialects.result.now c.dialects.ensures c.in-Some.named.now
    found.3.0 found.1) (first_of (search rules, grind (arith, common_steps)))
