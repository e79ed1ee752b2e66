use Rattle.std.proofs.Common.{◌++◌, ◌∙◌, length, drop, ap, refl, sym, arith, length-drop}
use Rattle.std.proofs.lemmas.List.{take_rest}
use Rattle.std.proofs.lemmas.Option.{MatchOption-at_some}
use Rattle.ini_text.specs.Escaping.EscapedTexts.{escape}
use Rattle.ini_text.specs.Buffered.{buffered}
use Rattle.ini_text.specs.Inside.Verbatim.{marked_escaped}
use Rattle.ini_text.proofs.WriteLemmas.MarkedByteLemmas.{letters-past, marked_escaped-marked}
use Rattle.ini_text.proofs.WriteLemmas.MarkedByteLemmas.{marked_escaped-none, pushed_more}
use Rattle.ini_text.proofs.write.buffer.marked.Buffer+BUFFER_SIZE.push_few.Goals as goal

pub returns-then-has_no_mark-clause-pushed : goal.returns-then-has_no_mark-clause-pushed
returns-then-has_no_mark-clause-pushed g c =
    let p = g.M.Marks.is_marked c.args.marks.now in
    let bytes = c.args.bytes.now in
    let next = marked_escaped-none p bytes (c.has_no_mark.ensures.none c.if-has_no_mark.true) in
    pushed_more p (buffered c.args.self.now) bytes bytes _ c.place_few.ensures
    (next ∙ ap (λ l. bytes ++ marked_escaped p l) (sym (take_rest bytes (length bytes)))) refl

pub few-preserved-in-Some : goal.few-preserved-in-Some
few-preserved-in-Some g c =
    let p = g.M.Marks.is_marked c.args.marks.now in
    let rest = c.few.rest.now in
    let piece = escape c.from.result in
    let left = take_rest rest 1 in
    let next = marked_escaped-marked p rest 0 (omega arith) (sym c.contains.ensures ∙ c.if-contains.true)
    ∙ ap (λ b. escape b ++ marked_escaped p (drop 1 rest)) (sym c.from.ensures) in
    let placed = MatchOption-at_some _ _ _ c.in-Some.is c.place_letter.ensures.placed in
    let end = MatchOption-at_some _ _ _ c.in-Some.is c.place_letter.ensures.end in
    record {
      pushed = pushed_more p _ piece rest _ placed
          (next ∙ ap (λ l. piece ++ marked_escaped p l) (sym left)) c.few.invariant.pushed;
      longer = omega (arith, c.few.invariant.longer, end);
      within = omega (arith, ap length left, length-drop 1 rest, c.few.invariant.within, end);
      shorter = omega (arith, ap length left, length-drop 1 rest, c.few.invariant.shorter);
      grown = omega (arith, ap length left, length-drop 1 rest, c.few.invariant.grown, end);
      letters = λ all. letters-past p 1 rest left (c.few.invariant.letters all);
    }
