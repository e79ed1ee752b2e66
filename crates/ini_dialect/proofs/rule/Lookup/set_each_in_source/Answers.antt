use Rattle.std.proofs.Common.{◌∙◌, chars, map, sym}
use Rattle.std.proofs.lemmas.List.{length-map}
use Rattle.std.proofs.lemmas.Result.{err_from_is_err_and}
use Rattle.ini.specs.Texts.{str_name, str_text}
use Rattle.ini_dialect.specs.ListEdits.{RefusesToSetAll}
use Rattle.ini_dialect.proofs.ListEditLemmas.{all_set_there, not_added_there}
use Rattle.ini_dialect.proofs.rule.Lookup.set_each_in_source.Goals as goal

pub returns-in_err-found-clause-refused : goal.returns-in_err-found-clause-refused
returns-in_err-found-clause-refused c =
    let p = err_from_is_err_and c.from_residual.result c.from_residual.ensures.1 in
    rw (p.1, p.2) (RefusesToSetAll.no_memory tt)

pub returns-in_err-set_values-clause-refused : goal.returns-in_err-set_values-clause-refused
returns-in_err-set_values-clause-refused c =
    let r = c.from_residual-in_err-set_values in
    let p = err_from_is_err_and r.result r.ensures.1 in
    rw (p.1, p.2) (RefusesToSetAll.not_set c.in_err-set_values.ensures.refused)

pub returns-in_err-take_out_from-clause-refused : goal.returns-in_err-take_out_from-clause-refused
returns-in_err-take_out_from-clause-refused c =
    let r = c.from_residual-in_err-take_out_from in
    let p = err_from_is_err_and r.result r.ensures.1 in
    rw (p.1, p.2, c.in_err-take_out_from.ensures.only) (RefusesToSetAll.no_memory tt)

pub returns-in_err-add_from-clause-refused : goal.returns-in_err-add_from-clause-refused
returns-in_err-add_from-clause-refused c =
    let r = c.from_residual-in_err-add_from in
    let p = err_from_is_err_and r.result r.ensures.1 in
    rw (p.1, p.2)
    (not_added_there c.args.self (str_name c.args.name) (chars c.args.key.now) c.args.write.now
    (map str_text c.args.values.now) c.args.source.now _ _ c.args.source.now _ _
    (c.as_slice-numbers.ensures.value ∙ c.in_ok-found.ensures)
    (sym (length-map c.args.values.now str_text)) c.in_ok-set_values.ensures.set
    c.in_ok-take_out_from.ensures.out c.in_err-add_from.ensures.refused)

pub returns-clause-set : goal.returns-clause-set
returns-clause-set c =
    let put = c.in_ok-set_values.ensures in
    let gone = c.in_ok-take_out_from.ensures in
    let new = c.in_ok-add_from.ensures in
    all_set_there c.args.self (str_name c.args.name) (chars c.args.key.now) c.args.write.now
    (map str_text c.args.values.now) c.args.source.now _ _ _ _ _
    (c.as_slice-numbers.ensures.value ∙ c.in_ok-found.ensures)
    (sym (length-map c.args.values.now str_text)) put.set gone.out new.added
    (new.option ∙ gone.option ∙ put.option) put.document gone.document new.document
