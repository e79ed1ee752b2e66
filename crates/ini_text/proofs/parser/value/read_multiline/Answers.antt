use Rattle.std.proofs.Common.{ap, chars, subst, sym}
use Rattle.ini_text.specs.Inside.PlaceReader.{HasTail, TailSoFar}
use Rattle.ini_text.proofs.PlaceLemmas.TailLemmas.{at_rests, line_stopped, line_to_end, tail_begins}
use Rattle.ini_text.proofs.PlaceLemmas.TailLemmas.{tail_ends}
use Rattle.ini_text.proofs.ReaderLemmas.ReaderLemmas.{passed}
use Rattle.ini_text.proofs.ReaderLemmas.LineTurnLemmas.{value_stops}
use Rattle.ini_text.proofs.parser.value.read_multiline.Goals as goal

pub returns-in_err-first-clause-gives : goal.returns-in_err-first-clause-gives
returns-in_err-first-clause-gives c =
    passed _ _ _ c.from_residual.ensures.1 c.in_err-first.ensures
    (λ r k h. value_stops c.args.read.now _ c.skip-start.ensures (line_stopped c.args.read.now _ _ h))

pub returns-in_default : goal.returns-in_default
returns-in_default c =
    let has =
    subst (λ v. HasTail c.args.read.now (chars c.args.text.now) (chars c.skip-start.result.now)
    (chars c.in_ok-first.tail.now) v (chars c.past_note-end.result.now))
    (sym c.in_ok-value.ensures)
    (line_to_end c.args.read.now c.skip-start.ensures c.in_ok-first.ensures c.past_note-end.ensures c.requires
    c.in_default.ensures) in
    record {
      gives = has.reads;
      rests = λ places. at_rests c.keep_lines.new.self (c.keep_lines.ensures.start places)
          (c.keep_lines.ensures.tail places) has;
    }

pub returns-then-ends_before : goal.returns-then-ends_before
returns-then-ends_before c =
    let has =
    subst (λ v. HasTail c.args.read.now (chars c.args.text.now) (chars c.skip-start.result.now)
    (chars c.in_ok-first.tail.now) v (chars c.in-Some.next.now))
    (sym c.in_ok-value-2.ensures)
    (tail_ends c.args.read.now c.skip-start.ensures c.requires
    (tail_begins c.args.read.now c.skip-start.ensures c.in_ok-first.ensures c.past_note-end.ensures c.requires
    c.in-Some.ensures)
    (c.ends_before.ensures.blank c.if-ends_before.true)
    (c.ends_before.ensures.line_end c.if-ends_before.true)) in
    record {
      gives = has.reads;
      rests = λ places. at_rests c.keep_lines-then-ends_before.new.self
          (c.keep_lines-then-ends_before.ensures.start places)
          (c.keep_lines-then-ends_before.ensures.tail places) has;
    }

pub read_more-requires-clause-known : goal.read_more-requires-clause-known
read_more-requires-clause-known c =
    subst (TailSoFar c.args.read.now (chars c.args.text.now) (chars c.skip-start.result.now)
    (chars c.in_ok-first.tail.now) (chars c.in-Some.next.now))
    (ap chars (sym c.in_ok-lines.ensures.ok))
    (tail_begins c.args.read.now c.skip-start.ensures c.in_ok-first.ensures c.past_note-end.ensures c.requires
    c.in-Some.ensures)

pub returns-in_err-tail-clause-gives : goal.returns-in_err-tail-clause-gives
returns-in_err-tail-clause-gives c =
    passed _ _ _ c.from_residual-in_err-tail.ensures.1 c.in_err-tail.ensures (λ r k h. h)

pub returns : goal.returns
returns c =
    let has =
    subst (λ v. HasTail c.args.read.now (chars c.args.text.now) (chars c.skip-start.result.now)
    (chars c.in_ok-tail.tail.now) v (chars c.in_ok-tail.rest.now))
    (sym c.in_ok-value-3.ensures) c.in_ok-tail.ensures in
    record {
      gives = has.reads;
      rests = λ places. at_rests c.keep_lines-2.new.self (c.keep_lines-2.ensures.start places)
          (c.keep_lines-2.ensures.tail places) has;
    }
