use Rattle.std.proofs.Common.{◌≡◌, ◌+◌, ◌==◌, ap, arith, chars, length, subst}
use Rattle.std.proofs.lemmas.Result.{err_from_is_err_and}
use Rattle.ini_text.specs.Options.WriteOptions.{line_end}
use Rattle.ini.specs.Texts.{str_name}
use Rattle.ini_edit.specs.SourceEditsAdded.{RefusesAdding}
use Rattle.ini_edit.specs.SourceWritten.{RefusesNew}
use Rattle.ini_edit.specs.Sources.{Pieces}
use Rattle.ini_edit.proofs.AddAnewLemmas.{anew_makes, anew_put, anew_refused}
use Rattle.ini_edit.proofs.AddSourceLemmas.{there_put_view, there_refused_view}
use Rattle.ini_edit.proofs.source.Source.add.Goals as goal

pub returns-in_err-raw_value-clause-refused : goal.returns-in_err-raw_value-clause-refused
returns-in_err-raw_value-clause-refused c =
    let w = c.args.write.now in
    let key = chars c.args.key.now in
    let value = chars c.args.value.now in
    let e = c.in_err-raw_value.field-0.0 in
    let p = err_from_is_err_and c.from_residual.result c.from_residual.ensures.1 in
    rw (p.1, p.2)
    (RefusesAdding.unwritable
    (subst (λ (v : Pieces). RefusesNew v.option w key value e) c.self.view_is
    c.in_err-raw_value.ensures.refused))

pub returns-in_err-pair-clause-refused : goal.returns-in_err-pair-clause-refused
returns-in_err-pair-clause-refused c =
    let p = err_from_is_err_and c.from_residual-in_err-pair.result c.from_residual-in_err-pair.ensures.1 in
    rw (p.1, p.2, c.in_err-pair.ensures.only) (RefusesAdding.unwritable tt)

pub returns-in_err-pair-2-clause-refused : goal.returns-in_err-pair-2-clause-refused
returns-in_err-pair-2-clause-refused c =
    let p = err_from_is_err_and c.from_residual-in_err-pair-2.result
    c.from_residual-in_err-pair-2.ensures.1 in
    rw (p.1, p.2, c.in_err-pair-2.ensures.only) (RefusesAdding.unwritable tt)

pub add_new_section-requires : goal.add_new_section-requires
add_new_section-requires c = record {
  pair = anew_makes c.self.view_is c.args.write.now 0 c.in_ok-pair.pair c.style-style.ensures (omega arith)
      c.in_ok-pair.ensures.new c.in_ok-raw_value.ensures.writable c.in_ok-raw_value.ensures.form
      c.self.invariant;
}

pub returns-in_default-clause-added : goal.returns-in_default-clause-added
returns-in_default-clause-added c =
    anew_put c.self.view_is c.args.write.now 0 c.in_ok-pair.pair c.style-style.ensures (omega arith)
    c.in_ok-pair.ensures.new c.in_ok-raw_value.ensures.writable c.in_ok-raw_value.ensures.form
    (str_name c.args.name) (ap str_name c.in_ok-name.ensures.ok_part) c.in_default.ensures
    (ap line_end c.line_end-end.ensures) c.in_ok-add_new_section.ensures.put

pub returns-in_err-add_new_section-clause-refused : goal.returns-in_err-add_new_section-clause-refused
returns-in_err-add_new_section-clause-refused c =
    let r = c.from_residual-in_err-add_new_section in
    let p = err_from_is_err_and r.result r.ensures.1 in
    rw (p.1, p.2)
    (anew_refused c.self.view_is c.args.write.now 0 c.in_ok-pair.pair c.style-style.ensures (omega arith)
    c.in_ok-pair.ensures.new c.in_ok-raw_value.ensures.writable c.in_ok-raw_value.ensures.form
    (str_name c.args.name) (ap str_name c.in_ok-name.ensures.ok_part) c.in_default.ensures
    (ap line_end c.line_end-end.ensures) c.in_err-add_new_section.field-0.0
    c.in_err-add_new_section.ensures.refused)

pub invariant_of-self-2 : goal.invariant_of-self-2
invariant_of-self-2 c =
    let last = ap (λ n. c.in-Some.section + 1 == n)
    (let count : c.len-2.result ≡ length c.self.inside.sections.items = omega arith in count) in
    (there_put_view c.self.view_is c.args.write.now (str_name c.args.name) c.in-Some.ensures
    c.line_end-end.result c.in_ok-pair-2.pair c.style-style-2.ensures (ap line_end c.line_end-end.ensures)
    c.in_ok-pair-2.ensures.new (ap length c.pairs-pairs.ensures) c.in_ok-raw_value.ensures.writable
    c.in_ok-raw_value.ensures.form last c.index.ensures c.index_mut.ensures.value
    c.in_ok-insert_last.ensures.put).0 c.self.invariant

pub returns-clause-added : goal.returns-clause-added
returns-clause-added c =
    let last = ap (λ n. c.in-Some.section + 1 == n)
    (let count : c.len-2.result ≡ length c.self.inside.sections.items = omega arith in count) in
    (there_put_view c.self.view_is c.args.write.now (str_name c.args.name) c.in-Some.ensures
    c.line_end-end.result c.in_ok-pair-2.pair c.style-style-2.ensures (ap line_end c.line_end-end.ensures)
    c.in_ok-pair-2.ensures.new (ap length c.pairs-pairs.ensures) c.in_ok-raw_value.ensures.writable
    c.in_ok-raw_value.ensures.form last c.index.ensures c.index_mut.ensures.value
    c.in_ok-insert_last.ensures.put).1

pub returns-in_err-insert_last-clause-refused : goal.returns-in_err-insert_last-clause-refused
returns-in_err-insert_last-clause-refused c =
    let last = ap (λ n. c.in-Some.section + 1 == n)
    (let count : c.len-2.result ≡ length c.self.inside.sections.items = omega arith in count) in
    let r = c.from_residual-in_err-insert_last in
    let p = err_from_is_err_and r.result r.ensures.1 in
    rw (p.1, p.2)
    (there_refused_view c.self.view_is c.args.write.now (str_name c.args.name) c.in-Some.ensures
    c.line_end-end.result c.in_ok-pair-2.pair c.in_err-insert_last.field-0.0 c.style-style-2.ensures
    (ap line_end c.line_end-end.ensures) c.in_ok-pair-2.ensures.new (ap length c.pairs-pairs.ensures)
    c.in_ok-raw_value.ensures.writable c.in_ok-raw_value.ensures.form last c.index.ensures
    c.index_mut.ensures.value c.in_err-insert_last.ensures.refused)
