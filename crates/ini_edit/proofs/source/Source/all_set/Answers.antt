use Rattle.std.proofs.Common.{◌∙◌, ap, chars}
use Rattle.std.proofs.lemmas.Result.{err_from_is_err_and}
use Rattle.ini.specs.Texts.{str_name, str_text}
use Rattle.ini_edit.specs.SourceEditsAdded.{ArePut, RefusesOneValue}
use Rattle.ini_edit.specs.Sources.{Pieces}
use Rattle.ini_edit.proofs.SourceListLemmas.{one_more_put, one_value_refused, put_by, put_option}
use Rattle.ini_edit.proofs.source.Source.all_set.Goals as goal

pub returns-in_err-new-clause-refused : goal.returns-in_err-new-clause-refused
returns-in_err-new-clause-refused c =
    let p = err_from_is_err_and c.from_residual.result c.from_residual.ensures.1 in
    rw (p.1, p.2, c.in_err-new.ensures.only) RefusesOneValue.no_memory

pub loop-n-init : goal.loop-n-init
loop-n-init c = record {
  are = rw c.in_ok-new.ensures.copied ArePut.nothing_put;
  option = ap (λ (v : Pieces). v.option) c.in_ok-new.ensures.copied;
}

pub returns-in_err-put_nth-clause-refused : goal.returns-in_err-put_nth-clause-refused
returns-in_err-put_nth-clause-refused c =
    let r = c.from_residual-in_err-put_nth in
    let p = err_from_is_err_and r.result r.ensures.1 in
    let refused = rw c.loop-n.invariant.option at c.in_err-put_nth.ensures.refused in
    rw (p.1, p.2)
    (one_value_refused c.args.self.now.option c.args.write.now (str_name c.args.name) (chars c.args.key.now)
    str_text
    c.args.values.now c.loop-n.n _ c.in_err-put_nth.field-0.0 c.loop-n-test.true c.loop-n.invariant.are
    refused)

pub loop-n-preserved : goal.loop-n-preserved
loop-n-preserved c =
    let put = c.in_ok-put_nth.ensures.put in
    record {
      are = one_more_put c.args.self.now.option c.args.write.now (str_name c.args.name) (chars c.args.key.now)
          str_text c.args.values.now c.loop-n.n _ c.loop-n-test.true c.loop-n.invariant.are
          (put_by c.loop-n.invariant.option put);
      option = put_option put ∙ c.loop-n.invariant.option;
    }

pub returns-in_err-delete_from-clause-refused : goal.returns-in_err-delete_from-clause-refused
returns-in_err-delete_from-clause-refused c =
    let r = c.from_residual-in_err-delete_from in
    let p = err_from_is_err_and r.result r.ensures.1 in
    rw (p.1, p.2, c.in_err-delete_from.ensures.only) RefusesOneValue.no_memory
