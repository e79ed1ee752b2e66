use Rattle.std.proofs.Common.{◌∙◌, ap, chars, subst, sym}
use Rattle.std.proofs.lemmas.Option.{MatchOption-at_some}
use Rattle.ini_text.specs.Parsing.Items.{string_text}
use Rattle.ini_check.specs.Mends.Texts.{AreMended, IsMended, is_better}
use Rattle.ini_check.proofs.MendLemmas.{better_fewer, judged_as}
use Rattle.ini_check.proofs.mends.mend_trap.Goals as goal

pub rounds-preserved : goal.rounds-preserved
rounds-preserved c =
    let trap = c.args.trap in
    let news = c.in-Some.news.items in
    let new = string_text c.in-Some.next in
    let found = MatchOption-at_some _ _ _ c.in-Some.is c.in_ok-next.ensures.found in
    let mended = subst (λ T. AreMended c.args.read trap T new) (ap chars c.as_str.ensures.value) found.0 in
    let judged = judged_as c.rounds.invariant.warnings found.1
    (sym (ap (λ ws. is_better trap ws news) c.as_slice.ensures.value) ∙ found.2) in
    record {
      warnings = found.1;
      mended = λ traps last is. c.rounds.invariant.mended traps last (IsMended.better mended judged is);
    }
