use Rattle.std.proofs.Common.{◌-◌, length, get_or, sym, ap, ◌∙◌, arith}
use Rattle.ini_text.proofs.StringLemmas.VisibleEndLemmas.{visible_ends}
use Rattle.ini_text.proofs.text.has_visible_ends.Goals as goal

pub returns-then-is_visible : goal.returns-then-is_visible
returns-then-is_visible c = λ sees.
    let text = c.args.text.now in
    let same = c.as_bytes-bytes.ensures.value in
    visible_ends text (length text - 1) _ _ c.utf8.text (omega (arith, c.as_bytes-bytes.ensures.len))
    (ap (λ x. get_or x 0 0) (sym same)) (sym c.is_visible.ensures ∙ c.if-is_visible.true)
    (ap (λ x. get_or x (length x - 1) 0) (sym same)) (sym c.is_visible-then-is_visible.ensures ∙ sees)
