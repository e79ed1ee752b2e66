use Rattle.std.proofs.Common.{◌≡◌, ◌+◌, ◌==◌, ap, arith, chars, length, refl, subst}
use Rattle.std.proofs.lemmas.Result.{err_from_is_err_and}
use Rattle.ini_text.specs.Options.WriteOptions.{line_end}
use Rattle.ini_edit.specs.SourceEditsAt.{RefusesAtIndex}
use Rattle.ini_edit.specs.SourceWritten.{RefusesNew}
use Rattle.ini_edit.specs.Sources.{Pieces}
use Rattle.ini_edit.proofs.SourceIndexLemmas.{indexed_none, indexed_put_view, indexed_refused_view}
use Rattle.ini_edit.proofs.source.Source.add_at.Goals as goal

pub returns-in_err-raw_value-clause-refused : goal.returns-in_err-raw_value-clause-refused
returns-in_err-raw_value-clause-refused c =
    let w = c.args.write.now in
    let key = chars c.args.key.now in
    let value = chars c.args.value.now in
    let e = c.in_err-raw_value.field-0.0 in
    let p = err_from_is_err_and c.from_residual.result c.from_residual.ensures.1 in
    rw (p.1, p.2)
    (RefusesAtIndex.unwritable_there
    (subst (λ (v : Pieces). RefusesNew v.option w key value e) c.self.view_is
    c.in_err-raw_value.ensures.refused))

pub returns-in_err-pair-clause-refused : goal.returns-in_err-pair-clause-refused
returns-in_err-pair-clause-refused c =
    let p = err_from_is_err_and c.from_residual-in_err-pair.result c.from_residual-in_err-pair.ensures.1 in
    rw (p.1, p.2, c.in_err-pair.ensures.only) (RefusesAtIndex.unwritable_there tt)

pub returns-then-section-count-clause-added : goal.returns-then-section-count-clause-added
returns-then-section-count-clause-added c = (
  refl,
  indexed_none c.args.self.now.sections c.args.section
      (omega (arith, ap (λ (v : Pieces). length v.sections) c.self.view_is)),
)

pub invariant_of-self-2 : goal.invariant_of-self-2
invariant_of-self-2 c =
    let last = ap (λ n. c.args.section + 1 == n)
    (let count : c.len-count.result ≡ length c.self.inside.sections.items = omega arith in count) in
    (indexed_put_view c.self.view_is c.args.write.now c.line_end-end.result c.in_ok-pair.pair
    c.style-style.ensures (ap line_end c.line_end-end.ensures) c.in_ok-pair.ensures.new
    (ap length c.pairs-pairs.ensures) c.in_ok-raw_value.ensures.writable c.in_ok-raw_value.ensures.form
    (omega arith) last c.index.ensures c.index_mut.ensures.value c.in_ok-insert_last.ensures.put).0
    c.self.invariant

pub returns-clause-added : goal.returns-clause-added
returns-clause-added c =
    let last = ap (λ n. c.args.section + 1 == n)
    (let count : c.len-count.result ≡ length c.self.inside.sections.items = omega arith in count) in
    (indexed_put_view c.self.view_is c.args.write.now c.line_end-end.result c.in_ok-pair.pair
    c.style-style.ensures (ap line_end c.line_end-end.ensures) c.in_ok-pair.ensures.new
    (ap length c.pairs-pairs.ensures) c.in_ok-raw_value.ensures.writable c.in_ok-raw_value.ensures.form
    (omega arith) last c.index.ensures c.index_mut.ensures.value c.in_ok-insert_last.ensures.put).1

pub returns-in_err-insert_last-clause-refused : goal.returns-in_err-insert_last-clause-refused
returns-in_err-insert_last-clause-refused c =
    let last = ap (λ n. c.args.section + 1 == n)
    (let count : c.len-count.result ≡ length c.self.inside.sections.items = omega arith in count) in
    let r = c.from_residual-in_err-insert_last in
    let p = err_from_is_err_and r.result r.ensures.1 in
    rw (p.1, p.2)
    (indexed_refused_view c.self.view_is c.args.write.now c.line_end-end.result c.in_ok-pair.pair
    c.in_err-insert_last.field-0.0 c.style-style.ensures (ap line_end c.line_end-end.ensures)
    c.in_ok-pair.ensures.new (ap length c.pairs-pairs.ensures) c.in_ok-raw_value.ensures.writable
    c.in_ok-raw_value.ensures.form (omega arith) last c.index.ensures c.index_mut.ensures.value
    c.in_err-insert_last.ensures.refused)
