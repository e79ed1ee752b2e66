use Rattle.std.proofs.Common.{◌∙◌, ap, chars, subst, sym}
use Rattle.std.proofs.lemmas.Option.{MatchOption-at_none, MatchOption-at_some}
use Rattle.ini.specs.Loading.{IsStopOf}
use Rattle.ini_check.specs.Mends.Texts.{IsJudged, IsMended, is_better}
use Rattle.ini_check.specs.Warnings.{AreWarningsOf}
use Rattle.ini_check.proofs.MendLemmas.{judged_as}
use Rattle.ini_check.proofs.mends.mend_once.Goals as goal

pub returns-then-count_of-eq0-clause-found : goal.returns-then-count_of-eq0-clause-found
returns-then-count_of-eq0-clause-found c traps last is =
    IsMended.none c.args.warnings.now c.requires (sym c.count_of.ensures ∙ c.if-count_of-eq0.true) is

pub returns-in_default-clause-found : goal.returns-in_default-clause-found
returns-in_default-clause-found c traps last is =
    let stop = MatchOption-at_none _ _ c.in_default.is c.in_ok-news.ensures.warnings in
    IsMended.no_better c.in_ok-made.ensures.mended
    (IsJudged.new_refused stop.0
    (subst (λ T. IsStopOf c.args.read T stop.0) (ap chars c.as_str.ensures.value) stop.1)) is

pub returns-else-is_better-clause-found : goal.returns-else-is_better-clause-found
returns-else-is_better-clause-found c traps last is =
    let news = c.in-Some.news in
    let are = MatchOption-at_some _ _ news c.in-Some.is c.in_ok-news.ensures.warnings in
    IsMended.no_better c.in_ok-made.ensures.mended
    (judged_as c.requires
    (subst (λ T. AreWarningsOf c.args.read T news.items) (ap chars c.as_str.ensures.value) are)
    (sym (c.is_better.ensures ∙ ap (is_better c.args.trap c.args.warnings.now) c.as_slice.ensures.value)
    ∙ c.if-is_better.false)) is
