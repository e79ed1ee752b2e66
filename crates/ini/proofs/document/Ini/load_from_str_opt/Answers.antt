use Rattle.std.proofs.Common.{◌∙◌, [], ap, chars, refl, subst, sym}
use Rattle.std.proofs.lemmas.Result.{err_from_is_err_and}
use Rattle.ini_text.proofs.LawLemmas.ExportedLemmas.{front_is}
use Rattle.ini.specs.Documents.{HasGeneral}
use Rattle.ini.specs.Inside.StreamLoader.{with_items}
use Rattle.ini.proofs.GeneralLemmas.{has_general}
use Rattle.ini.proofs.ReadingLemmas.{IsStopOf-first}
use Rattle.ini.proofs.document.Ini.load_from_str_opt.Goals as goal

pub returns-in_err-push_items-clause-fault : goal.returns-in_err-push_items-clause-fault
returns-in_err-push_items-clause-fault c =
    let p =
    err_from_is_err_and c.from_residual-in_err-push_items.result
    c.from_residual-in_err-push_items.ensures.1 in
    let text = chars c.args.text.now in
    rw (p.1, p.2)
    (IsStopOf-first c.args.opt text _ (front_is [] text text refl) c.in_err-push_items.ensures.fault)

pub returns-clause-general : goal.returns-clause-general
returns-clause-general c =
    let made = c.in_ok-push_items.ensures.document in
    subst HasGeneral
    (sym (made.document ∙ ap (λ d. with_items d made.items) c.in_ok-document.ensures.general))
    (has_general made.items)
