use Rattle.std.proofs.Common.{◌≡◌, ◌∙◌, ◌+◌, ◌-◌, ap, arith, length, refl, rules}
use Rattle.ini.proofs.StreamLemmas.{IsStreamed-ends, IsStreamed-fits, IsStreamed-goes_on, IsStreamed-some}
use Rattle.ini.proofs.StreamLemmas.{IsStreamed-starts}
use Rattle.ini.proofs.document.Ini.read_watched.Goals as goal

pub pieces-init : goal.pieces-init
pieces-init g c =
    let filled = c.in_ok-is_all.ensures in
    let new = c.in_ok-streaming.ensures in
    let last = c.len-last_line.ensures ∙ c.drop_byte_order_mark.new.bytes.ok.0 in
    let lines = ap (λ n. 1 + n) last in (
      search rules,
      search rules,
      IsStreamed-starts 65536 (omega arith)
          (rw c.new-bytes.ensures.items at filled.bytes) filled.filled c.drop_byte_order_mark.ensures lines
          new.document new.front new.lines,
      omega (
        arith,
        c.len-last_line.ensures,
        c.drop_byte_order_mark.new.bytes.ok.1,
        c.drop_byte_order_mark.new.bytes.small,
      ),
    )

pub take_items-requires-clause-some : goal.take_items-requires-clause-some
take_items-requires-clause-some g c = IsStreamed-some c.pieces.invariant.2

pub take_items-requires-clause-countable : goal.take_items-requires-clause-countable
take_items-requires-clause-countable g c =
    omega (arith, c.pieces.bytes.ok, IsStreamed-fits c.pieces.invariant.2, c.pieces.invariant.3)

pub pieces-preserved : goal.pieces-preserved
pieces-preserved g c =
    let filled = c.in_ok-is_all-2.ensures in
    let kept = c.len-kept.ensures ∙ c.take_items.new.bytes.ok.0 in
    let read = c.len.ensures ∙ c.fill-in-pieces.new.bytes.ok.0 in
    let next : c.in-Some.next_line
    ≡ c.pieces.last_line + (length c.fill-in-pieces.new.bytes.items - length c.take_items.new.bytes.items) =
    omega (arith, c.in-Some.ensures.1, kept, read) in (
      search rules,
      search rules,
      IsStreamed-goes_on c.pieces.invariant.2 _
          c.in_ok-take_items.ensures.goes_by filled.bytes filled.filled next,
      omega
          (arith, c.in-Some.ensures.0, c.in-Some.ensures.1),
    )

pub finish-requires-clause-some : goal.finish-requires-clause-some
finish-requires-clause-some g c = IsStreamed-some c.pieces.invariant.2

pub finish-requires-clause-countable : goal.finish-requires-clause-countable
finish-requires-clause-countable g c =
    omega (
      arith,
      IsStreamed-fits c.pieces.invariant.2,
      c.pieces.invariant.3,
      ap length c.as_slice.ensures.value,
    )

pub returns-clause-reads : goal.returns-clause-reads
returns-clause-reads g c =
    let done = c.finish.ensures in
    let value = c.as_slice.ensures.value in
    IsStreamed-ends c.pieces.invariant.2 _ _ refl refl c.pieces-test.false c.finish.result
    (rw value at done.ends) (rw value at done.not_utf8) done.only
