use Rattle.std.proofs.Common.{◌+◌, ◌++◌, ◌∙◌, length, take, drop, ap, sym, arith, ℕ, length-drop}
use Rattle.std.proofs.lemmas.List.{length-take, take-take, take_rest}
use Rattle.std.proofs.lemmas.Option.{MatchOption-at_some}
use lib.Count.{count_trailing_zeros}
use Rattle.ini_text.proofs.StringLemmas.LaneLemmas.{Tells-none, Tells-past, stops_at}
use Rattle.ini_text.proofs.WriteLemmas.BufferLemmas.{placed_none, placed_run}
use Rattle.ini_text.proofs.WriteLemmas.MarkedByteLemmas.{letters-past, marked_escaped-after}
use Rattle.ini_text.proofs.WriteLemmas.MarkedByteLemmas.{marked_escaped-run, pushed_more, stopped_at_mark}
use Rattle.ini_text.specs.Inside.Verbatim.{marked_escaped}
use Rattle.ini_text.specs.Escaping.EscapedTexts.{escape, letter_of}
use Rattle.ini_text.proofs.write.buffer.marked.Buffer+BUFFER_SIZE.push_lanes.Goals.{then-lanes-test+else-len}
use Rattle.ini_text.proofs.write.buffer.marked.Buffer+BUFFER_SIZE.push_lanes.Goals.{else-lanes-test}
use Rattle.ini_text.proofs.write.buffer.marked.Buffer+BUFFER_SIZE.push_lanes.Goals.{then-lanes-test+then-len+else-known-eq0+in_default}
use Rattle.ini_text.proofs.write.buffer.marked.Buffer+BUFFER_SIZE.push_lanes.Goals as goal

pub lanes-preserved-then-known-eq0 : goal.lanes-preserved-then-known-eq0
lanes-preserved-then-known-eq0 g c =
    let p = g.M.Marks.is_marked c.args.marks.now in
    let rest = c.lanes.rest.now in
    let left = take_rest rest 16 in
    let next =
    marked_escaped-run p 16 rest (c.marks_ahead-known.ensures.none c.if-known-eq0.true (omega arith)) in
    let grown = c.place_lanes.ensures.placed 16 (omega arith)
    ∙ ap (λ l. take c.lanes.len c.lanes.self.bytes ++ l) (take-take 16 16 rest (omega arith)) in
    record {
      longer = omega (arith, c.lanes.invariant.longer);
      pushed = pushed_more p _ (take 16 rest) rest _ grown
          (next ∙ ap (λ l. take 16 rest ++ marked_escaped p l) (sym left)) c.lanes.invariant.pushed;
      within = omega arith;
      long = omega (arith, c.lanes.invariant.long);
      shorter = omega (arith, ap length left, length-drop 16 rest, c.lanes.invariant.shorter);
      grown = omega (arith, ap length left, length-drop 16 rest, c.lanes.invariant.grown);
      letters = λ all. letters-past p 16 rest left (c.lanes.invariant.letters all);
      known = rw c.if-known-eq0.true (Tells-none p 0 _);
    }

pub bounds-rest-run : goal.bounds-rest-run
bounds-rest-run g c = let stops =
    stops_at (g.M.Marks.is_marked c.args.marks.now) c.lanes.rest.now c.marks_ahead-known.ensures.tells
    (omega arith) in omega (arith, stops.within)

pub overflow_shr-known : goal.overflow_shr-known
overflow_shr-known g c = let stops =
    stops_at (g.M.Marks.is_marked c.args.marks.now) c.lanes.rest.now c.marks_ahead-known.ensures.tells
    (omega arith) in omega (arith, stops.below)

pub place_letter-requires : goal.place_letter-requires
place_letter-requires g c = let stops =
    stops_at (g.M.Marks.is_marked c.args.marks.now) c.lanes.rest.now c.marks_ahead-known.ensures.tells
    (omega arith) in omega (arith, stops.below)

pub slice_bounds-rest-count-in-lanes : goal.slice_bounds-rest-count-in-lanes
slice_bounds-rest-count-in-lanes g c = let stops =
    stops_at (g.M.Marks.is_marked c.args.marks.now) c.lanes.rest.now c.marks_ahead-known.ensures.tells
    (omega arith) in omega (arith, stops.within)

pub slice_bounds-rest-start-in-lanes : goal.slice_bounds-rest-start-in-lanes
slice_bounds-rest-start-in-lanes g c = let stops =
    stops_at (g.M.Marks.is_marked c.args.marks.now) c.lanes.rest.now c.marks_ahead-known.ensures.tells
    (omega arith) in omega (arith, stops.within)

pub lanes-preserved : goal.lanes-preserved
lanes-preserved g c =
    let p = g.M.Marks.is_marked c.args.marks.now in
    let rest = c.lanes.rest.now in
    let run = count_trailing_zeros 64 c.marks_ahead-known.result in
    let stops = stops_at p rest c.marks_ahead-known.ensures.tells (omega arith) in
    let piece = escape c.from.result in
    let left = take_rest rest (run + 1) in
    let placed = MatchOption-at_some _ _ _ c.in-Some.is c.place_letter.ensures.placed in
    let end = MatchOption-at_some _ _ _ c.in-Some.is c.place_letter.ensures.end in
    let next = marked_escaped-after p rest run stops
    ∙ ap (λ b. (take run rest ++ escape b) ++ marked_escaped p (drop (run + 1) rest)) (sym c.from.ensures) in
    let grown = placed_run c.lanes.len run _ c.lanes.self.bytes rest
    c.place_lanes.new.bytes c.place_letter.new.bytes piece (omega (arith, stops.below))
    (c.place_lanes.ensures.placed run (omega (arith, stops.below))) placed in
    record {
      pushed = pushed_more p _ (take run rest ++ piece) rest _ grown
          (next ∙ ap (λ l. (take run rest ++ piece) ++ marked_escaped p l) (sym left))
          c.lanes.invariant.pushed;
      longer = omega (arith, c.lanes.invariant.longer, end);
      within = omega (arith, stops.below, end);
      long = omega (arith, c.lanes.invariant.long);
      known = Tells-past p (run + 1) c.marks_ahead-known.ensures.tells left;
      shorter = omega (arith, ap length left, length-drop (run + 1) rest, c.lanes.invariant.shorter);
      grown = omega (
        arith,
        stops.within,
        end,
        ap length left,
        length-drop (run + 1) rest,
        c.lanes.invariant.grown,
      );
      letters = λ all. letters-past p (run + 1) rest left (c.lanes.invariant.letters all);
    }

pub returns-clause-pushed : goal.returns-clause-pushed
returns-clause-pushed g c =
    let p = g.M.Marks.is_marked c.args.marks.now in
    elim c.lanes-test.branch [
      | then-lanes-test+else-len w ↦ rw w.self-is c.lanes.invariant.pushed
      | else-lanes-test w ↦ rw w.self-is c.lanes.invariant.pushed
      | then-lanes-test+then-len+else-known-eq0+in_default w ↦
          let same = w.place_letter.ensures.untouched w.in_default.is in
          let kept = placed_none c.lanes.len c.lanes.self.bytes w.place_lanes.new.bytes
          (w.place_lanes.ensures.placed 0 (omega arith)) in
          rw w.self-is
          (ap (λ l. take c.lanes.len l ++ marked_escaped p c.lanes.rest.now) same
          ∙ ap (λ l. l ++ marked_escaped p c.lanes.rest.now) kept ∙ c.lanes.invariant.pushed)
    ]

pub returns-clause-longer : goal.returns-clause-longer
returns-clause-longer g c =
    elim c.lanes-test.branch [
      | then-lanes-test+else-len w ↦
          rw w.self-is (omega (arith, length-take {A = ℕ}, c.lanes.invariant.longer, c.lanes.invariant.long))
      | else-lanes-test w ↦
          rw w.self-is (omega (arith, length-take {A = ℕ}, c.lanes.invariant.longer, c.lanes.invariant.long))
      | then-lanes-test+then-len+else-known-eq0+in_default w ↦
          rw w.self-is (omega (arith, length-take {A = ℕ}, c.lanes.invariant.longer, c.lanes.invariant.long))
    ]

pub returns-clause-grown : goal.returns-clause-grown
returns-clause-grown g c =
    elim c.lanes-test.branch [
      | then-lanes-test+else-len w ↦
          rw w.self-is (omega (arith, length-take {A = ℕ}, c.lanes.invariant.grown, c.lanes.invariant.long))
      | else-lanes-test w ↦
          rw w.self-is (omega (arith, length-take {A = ℕ}, c.lanes.invariant.grown, c.lanes.invariant.long))
      | then-lanes-test+then-len+else-known-eq0+in_default w ↦
          rw w.self-is (omega (arith, length-take {A = ℕ}, c.lanes.invariant.grown, c.lanes.invariant.long))
    ]

pub returns-clause-few : goal.returns-clause-few
returns-clause-few g c letters room =
    let p = g.M.Marks.is_marked c.args.marks.now in
    let rest = c.lanes.rest.now in
    elim c.lanes-test.branch [
      | then-lanes-test+else-len w ↦
          absurd (omega (arith, length-take {A = ℕ}, c.lanes.invariant.grown, c.lanes.invariant.long, room))
      | else-lanes-test w ↦ omega arith
      | then-lanes-test+then-len+else-known-eq0+in_default w ↦
          let stops = stops_at p rest w.marks_ahead-known.ensures.tells (omega arith) in
          absurd (c.lanes.invariant.letters letters _ 0 (omega (arith, stops.within))
          (stopped_at_mark p rest _ stops)
          (sym (ap letter_of w.from.ensures) ∙ w.place_letter.ensures.digits w.in_default.is))
    ]
