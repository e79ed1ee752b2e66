use Rattle.std.proofs.Common.{◌∙◌, ◌+◌, ap, arith, length, refl, subst, take}
use Rattle.std.proofs.lemmas.List.{take_rest}
use Rattle.std.specs.Str.{IsUtf8}
use Rattle.ini.proofs.StreamLoaderLemmas.{GoesBy-cut, GoesBy-nothing, feeds_fit, front_text, rest_cut}
use Rattle.ini.proofs.StreamLoaderLemmas.{whole_within}
use Rattle.ini.proofs.streaming.StreamLoader.take_items.Goals as goal

pub returns-in_default-clause-goes_by : goal.returns-in_default-clause-goes_by
returns-in_default-clause-goes_by c =
    GoesBy-nothing c.args.opt c.args.self.now c.args.bytes.now.items c.requires.front

pub push_complete_items-requires-clause-is_rest : goal.push_complete_items-requires-clause-is_rest
push_complete_items-requires-clause-is_rest c =
    let text = c.text_front-text.result.now in
    let n = c.args.self.now.front in
    let rest = c.in-Some.ensures.cases in
    let at = c.text_front-text.ensures ∙ ap (take (length text)) c.as_slice.ensures.value in
    let utf8 =
    subst IsUtf8 (front_text c.args.bytes.now.items text n at (omega (arith, rest.1)))
    c.requires.front.utf8 in
    rw (rest.0, take_rest text n) (rest_cut text n utf8)

pub overflow_add-self : goal.overflow_add-self
overflow_add-self c =
    let lines = c.whole_lines-lines.ensures in
    let text = c.text_front-text.result.now in
    let at = c.text_front-text.ensures ∙ ap (take (length text)) c.as_slice.ensures.value in
    let left = c.in_ok-left.ensures in
    let within =
    whole_within c.args.bytes.now.items text c.in_ok-left.left.now c.front_before-front.result.now
    c.whole_lines-lines.result.0.now at c.text_front-text.utf8 left.utf8
    c.front_before-front.utf8 lines.utf8 lines.front left.settled.is_rest c.front_before-front.ensures in
    omega (
      arith,
      within,
      lines.lines,
      feeds_fit c.whole_lines-lines.result.0.now lines.utf8,
      c.requires.countable,
      c.as_slice.ensures.len,
      ap length c.as_slice.ensures.value,
    )

pub drop_front-requires : goal.drop_front-requires
drop_front-requires c =
    let lines = c.whole_lines-lines.ensures in
    let text = c.text_front-text.result.now in
    let at = c.text_front-text.ensures ∙ ap (take (length text)) c.as_slice.ensures.value in
    let left = c.in_ok-left.ensures in
    let within =
    whole_within c.args.bytes.now.items text c.in_ok-left.left.now c.front_before-front.result.now
    c.whole_lines-lines.result.0.now at c.text_front-text.utf8 left.utf8
    c.front_before-front.utf8 lines.utf8 lines.front left.settled.is_rest c.front_before-front.ensures in
    omega (arith, within, c.as_slice.ensures.len, ap length c.as_slice.ensures.value)

pub returns-clause-goes_by : goal.returns-clause-goes_by
returns-clause-goes_by c =
    let lines = c.whole_lines-lines.ensures in
    let text = c.text_front-text.result.now in
    let at = c.text_front-text.ensures ∙ ap (take (length text)) c.as_slice.ensures.value in
    let left = c.in_ok-left.ensures in
    let rest = c.in-Some.ensures.cases in
    let settled = rw (rest.0, take_rest text c.args.self.now.front) at left.settled in
    rw c.drop_front.ensures (GoesBy-cut c.args.bytes.now.items text c.in_ok-left.left.now
    c.front_before-front.result.now c.whole_lines-lines.result.0.now at c.text_front-text.utf8 left.utf8
    c.front_before-front.utf8 lines.utf8 lines.front left.settled.is_rest c.front_before-front.ensures
    c.args.self.now _ lines.line_start (ap (λ n. c.args.self.now.lines + n) lines.lines) refl
    c.requires.front.utf8 (omega (arith, rest.1)) settled)
