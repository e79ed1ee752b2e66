use Rattle.std.proofs.Common.{◌∙◌, ap, sym}
use Rattle.std.proofs.lemmas.Option.{MatchOption-at_none, MatchOption-at_some}
use Rattle.ini_check.specs.Mends.Texts.{IsJudged, is_better}
use Rattle.ini_check.proofs.MendLemmas.{judged_as}
use Rattle.ini_check.proofs.mends.better.is_improved.Goals as goal

pub returns-in_default-clause-judged : goal.returns-in_default-clause-judged
returns-in_default-clause-judged c =
    let stop = MatchOption-at_none _ _ c.in_default.is c.in_ok-olds.ensures.warnings in
    IsJudged.old_refused stop.0 stop.1

pub returns-in_default-2-clause-judged : goal.returns-in_default-2-clause-judged
returns-in_default-2-clause-judged c =
    let stop = MatchOption-at_none _ _ c.in_default-2.is c.in_ok-news.ensures.warnings in
    IsJudged.new_refused stop.0 stop.1

pub returns-clause-judged : goal.returns-clause-judged
returns-clause-judged c =
    let olds = c.in-Some.olds in
    let news = c.in-Some-2.news in
    judged_as (MatchOption-at_some _ _ olds c.in-Some.is c.in_ok-olds.ensures.warnings)
    (MatchOption-at_some _ _ news c.in-Some-2.is c.in_ok-news.ensures.warnings)
    (sym (c.is_better.ensures
    ∙ ap (λ x. is_better c.args.trap x c.as_slice-2.result.now) c.as_slice.ensures.value
    ∙ ap (is_better c.args.trap olds.items) c.as_slice-2.ensures.value))
