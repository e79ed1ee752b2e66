use Rattle.std.proofs.Common.{ap, arith, length, subst, sym}
use Rattle.std.specs.Str.{IsUtf8}
use Rattle.std.proofs.lemmas.Str.{IsCharBoundary-from_take}
use Rattle.ini.proofs.StreamLoaderLemmas.{StopsLater-down, front_cut, line_fits, rest_cut}
use Rattle.ini.proofs.streaming.StreamLoader.finish.Goals as goal

pub split_at-requires : goal.split_at-requires
split_at-requires c =
    let text = c.in-Ok.ensures.cases in
    rw text.0 (IsCharBoundary-from_take c.args.bytes.now c.args.self.front text.1 c.requires.front.within
    c.requires.front.utf8)

pub push_items-requires-clause-is_rest : goal.push_items-requires-clause-is_rest
push_items-requires-clause-is_rest c =
    rw (c.split_at.ensures.back, c.in-Ok.ensures.cases.0)
    (rest_cut c.args.bytes.now c.args.self.front c.requires.front.utf8)

pub returns-in-Ok-push_items-clause-ends : goal.returns-in-Ok-push_items-clause-ends
returns-in-Ok-push_items-clause-ends c =
    let made = rw (
      c.split_at.ensures.back,
      c.in-Ok.ensures.cases.0,
      front_cut c.args.bytes.now
          c.args.self.front c.requires.front.utf8,
    ) at c.in-Ok-push_items.ensures.document in
    record { utf8 = c.in-Ok.ensures.cases.1; document = made; fault = tt }

pub moved_down-requires : goal.moved_down-requires
moved_down-requires c =
    let text = c.in-Ok.ensures.cases in
    let stops = rw c.in-Err-Parse.field-0-is at c.in-Err-Parse.ensures.fault in
    rw c.in-Err-Parse.fault-is
    (omega (
      arith,
      c.requires.countable,
      ap length text.0,
      line_fits c.in-Ok.text.now 0
          (subst IsUtf8 (sym text.0) text.1) stops,
    ))

pub returns-in-Err-Parse-clause-ends : goal.returns-in-Err-Parse-clause-ends
returns-in-Err-Parse-clause-ends c =
    let stops =
    rw (
      c.split_at.ensures.back,
      c.in-Ok.ensures.cases.0,
      front_cut c.args.bytes.now c.args.self.front c.requires.front.utf8,
    ) at
    (rw c.in-Err-Parse.field-0-is at c.in-Err-Parse.ensures.fault) in
    let moved = rw c.in-Err-Parse.fault-is at c.moved_down.ensures in
    record {
      utf8 = tt;
      document = tt;
      fault = (
        c.in-Ok.ensures.cases.1,
        StopsLater-down c.args.self.lines stops moved.line moved.column moved.message moved.kind,
      );
    }
