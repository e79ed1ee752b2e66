use Rattle.std.proofs.Common.{◌∙◌, [], ap, chars, subst}
use Rattle.ini_text.specs.Options.WriteOptions.{line_end}
use Rattle.ini_text.specs.Parsing.Items.{string_text}
use Rattle.ini_edit.specs.Inside.SourceEnds.{style_at}
use Rattle.ini_edit.specs.SourceWritten.{IsFirstReadAs, IsWritableNew, value_forms}
use Rattle.ini_edit.proofs.PairPutLemmas.{inserted_view}
use Rattle.ini_edit.proofs.source.Source.insert_after_nth.Goals as goal

pub returns-clause-inserted : goal.returns-clause-inserted
returns-clause-inserted c =
    let w = c.args.write.now in
    let v = c.args.self.now in
    let both = inserted_view c.self.view_is w c.in-Some.ensures c.line_end-end.result c.in_ok-pair.pair
    (c.style-style.ensures
    ∙ ap (style_at v.option w v.sections c.in-Some.section) c.index_after-before.ensures)
    (ap line_end c.line_end-end.ensures) c.in_ok-pair.ensures.new c.in_ok-raw_value.ensures.writable
    c.in_ok-raw_value.ensures.form c.index_mut.ensures.value c.in_ok-insert_after.ensures.put in
    let key = chars c.args.key.now in
    let value = chars c.args.value.now in
    let source = string_text c.in_ok-raw_value.raw_value in
    record {
      writable = subst (λ t. IsWritableNew t.option w key value) c.self.view_is
          c.in_ok-raw_value.ensures.writable;
      at = c.in-Some.ensures.place;
      was = c.in-Some.ensures.is;
      source = source;
      is_first = subst (λ t. IsFirstReadAs t.option value (value_forms w.escape_policy [] value) source)
          c.self.view_is c.in_ok-raw_value.ensures.form;
      option = ap (λ t. t.option) c.self.view_is;
      sections = both.0;
    }

pub invariant_of-self-2 : goal.invariant_of-self-2
invariant_of-self-2 c =
    let w = c.args.write.now in
    let v = c.args.self.now in
    let both = inserted_view c.self.view_is w c.in-Some.ensures c.line_end-end.result c.in_ok-pair.pair
    (c.style-style.ensures
    ∙ ap (style_at v.option w v.sections c.in-Some.section) c.index_after-before.ensures)
    (ap line_end c.line_end-end.ensures) c.in_ok-pair.ensures.new c.in_ok-raw_value.ensures.writable
    c.in_ok-raw_value.ensures.form c.index_mut.ensures.value c.in_ok-insert_after.ensures.put in
    both.1 c.self.invariant
