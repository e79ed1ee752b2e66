use Rattle.std.proofs.Common.{[], ap, chars, subst}
use Rattle.std.proofs.lemmas.Result.{err_from_is_err_and}
use Rattle.ini_text.specs.Options.WriteOptions.{line_end}
use Rattle.ini_text.specs.Parsing.Items.{string_text}
use Rattle.ini_edit.specs.SourceEditsAdded.{RefusesToInsert}
use Rattle.ini_edit.specs.SourceWritten.{IsFirstReadAs, IsWritableNew, RefusesNew, value_forms}
use Rattle.ini_edit.specs.Sources.{Pieces}
use Rattle.ini_edit.proofs.InsertedBeforeLemmas.{before_put_view, before_refused_view}
use Rattle.ini_edit.proofs.source.Source.insert_before.Goals as goal

pub returns-in_err-raw_value-clause-refused : goal.returns-in_err-raw_value-clause-refused
returns-in_err-raw_value-clause-refused c =
    let w = c.args.write.now in
    let key = chars c.args.key.now in
    let value = chars c.args.value.now in
    let e = c.in_err-raw_value.field-0.0 in
    let p = err_from_is_err_and c.from_residual.result c.from_residual.ensures.1 in
    rw (p.1, p.2)
    (RefusesToInsert.unwritable_pair
    (subst (λ (v : Pieces). RefusesNew v.option w key value e) c.self.view_is
    c.in_err-raw_value.ensures.refused))

pub returns-in_err-pair-clause-refused : goal.returns-in_err-pair-clause-refused
returns-in_err-pair-clause-refused c =
    let p = err_from_is_err_and c.from_residual-in_err-pair.result c.from_residual-in_err-pair.ensures.1 in
    rw (p.1, p.2, c.in_err-pair.ensures.only) (RefusesToInsert.unwritable_pair tt)

pub returns-in_err-insert_before-clause-refused : goal.returns-in_err-insert_before-clause-refused
returns-in_err-insert_before-clause-refused c =
    let r = c.from_residual-in_err-insert_before in
    let p = err_from_is_err_and r.result r.ensures.1 in
    rw (p.1, p.2)
    (before_refused_view c.self.view_is c.args.write.now c.in-Some.ensures c.line_end-end.result
    c.in_ok-pair.pair c.in_err-insert_before.field-0.0 c.style-style.ensures
    (ap line_end c.line_end-end.ensures) c.last_before-front.ensures c.in_ok-pair.ensures.new
    c.in_ok-raw_value.ensures.writable c.in_ok-raw_value.ensures.form c.index_mut.ensures.value
    c.in_err-insert_before.ensures.refused)

pub invariant_of-self-2 : goal.invariant_of-self-2
invariant_of-self-2 c =
    let both = before_put_view c.self.view_is c.args.write.now c.in-Some.ensures c.line_end-end.result
    c.in_ok-pair.pair c.style-style.ensures (ap line_end c.line_end-end.ensures) c.last_before-front.ensures
    c.in_ok-pair.ensures.new c.in_ok-raw_value.ensures.writable c.in_ok-raw_value.ensures.form
    c.index_mut.ensures.value c.in_ok-insert_before.ensures.put in
    both.1 c.self.invariant

pub returns-clause-inserted : goal.returns-clause-inserted
returns-clause-inserted c =
    let w = c.args.write.now in
    let both = before_put_view c.self.view_is w c.in-Some.ensures c.line_end-end.result
    c.in_ok-pair.pair c.style-style.ensures (ap line_end c.line_end-end.ensures) c.last_before-front.ensures
    c.in_ok-pair.ensures.new c.in_ok-raw_value.ensures.writable c.in_ok-raw_value.ensures.form
    c.index_mut.ensures.value c.in_ok-insert_before.ensures.put in
    let key = chars c.args.key.now in
    let value = chars c.args.value.now in
    let source = string_text c.in_ok-raw_value.raw_value in
    record {
      writable = subst (λ t. IsWritableNew t.option w key value) c.self.view_is
          c.in_ok-raw_value.ensures.writable;
      at = c.in-Some.ensures.place;
      was = c.in-Some.ensures.is;
      source = source;
      is_first = subst (λ t. IsFirstReadAs t.option value (value_forms w.escape_policy [] value) source)
          c.self.view_is c.in_ok-raw_value.ensures.form;
      option = ap (λ t. t.option) c.self.view_is;
      sections = both.0;
    }
