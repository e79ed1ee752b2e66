use Rattle.std.proofs.Common.{IsCharBoundary, ap, arith, length, length-drop, subst, sym}
use lib.Count.{count_trailing_zeros}
use Rattle.ini_text.specs.Inside.Endpoints.{ends_of}
use Rattle.ini_text.specs.Inside.Scans.{is_raw}
use Rattle.ini_text.proofs.ReaderLemmas.ShortPieceLemmas.{run_seen, seen, short_piece}
use Rattle.ini_text.specs.Inside.Lanes.{Tells}
use Rattle.ini_text.proofs.StringLemmas.RunLemmas.{boundary, raw_wide}
use Rattle.ini_text.proofs.parser.short.split_short.Goals as goal

pub split_at-requires : goal.split_at-requires
split_at-requires c =
    let text = c.args.text.now in
    let run = run_seen (ends_of c.args.read.now c.args.ends)
    (seen (ends_of c.args.read.now c.args.ends) c.args.marks.now c.requires.marks
    (subst (Tells _ 16 _) c.as_bytes.ensures.value c.marks_ahead-bits.ensures.tells)) (omega arith) in
    subst (IsCharBoundary text) (sym run.0)
    (boundary (is_raw (ends_of c.args.read.now c.args.ends)) text (raw_wide c.args.read.now c.args.ends))

pub split_escape-requires : goal.split_escape-requires
split_escape-requires c =
    let run = run_seen (ends_of c.args.read.now c.args.ends)
    (seen (ends_of c.args.read.now c.args.ends) c.args.marks.now c.requires.marks
    (subst (Tells _ 16 _) c.as_bytes.ensures.value c.marks_ahead-bits.ensures.tells)) (omega arith) in
    omega (
      arith,
      run.2,
      ap length c.split_at.ensures.back,
      length-drop
          (count_trailing_zeros 64 c.marks_ahead-bits.result) c.args.text.now,
    )

pub returns-clause-piece : goal.returns-clause-piece
returns-clause-piece c =
    let run = run_seen (ends_of c.args.read.now c.args.ends)
    (seen (ends_of c.args.read.now c.args.ends) c.args.marks.now c.requires.marks
    (subst (Tells _ 16 _) c.as_bytes.ensures.value c.marks_ahead-bits.ensures.tells)) (omega arith) in
    short_piece (ends_of c.args.read.now c.args.ends) c.args.text.now c.split_at.result.1.now _
    c.in_ok-value.value c.in_ok-value.taken c.requires.no_notes (raw_wide c.args.read.now c.args.ends)
    c.utf8.text (omega (arith, run.2)) run.1 run.0 c.split_at.ensures.back
    c.in_ok-value.ensures

pub returns-clause-seen : goal.returns-clause-seen
returns-clause-seen c = seen (ends_of c.args.read.now c.args.ends) c.args.marks.now c.requires.marks
    (subst (Tells _ 16 _) c.as_bytes.ensures.value c.marks_ahead-bits.ensures.tells)
