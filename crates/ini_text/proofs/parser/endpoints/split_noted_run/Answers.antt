use Rattle.std.proofs.Common.{ap, chars, inl, sym, ◌∙◌}
use Rattle.std.specs.List.{prefix_len}
use Rattle.ini_text.specs.Inside.Scans.{is_raw}
use Rattle.ini_text.specs.Inside.Endpoints.{ends_of}
use Rattle.ini_text.proofs.ReaderLemmas.StringReaderLemmas.{run_without_notes}
use Rattle.ini_text.proofs.StringLemmas.NoteRunLemmas.{CutRun, RawRun, cut_run, note_boundary, note_within}
use Rattle.ini_text.proofs.StringLemmas.NoteRunLemmas.{raw_run}
use Rattle.ini_text.proofs.StringLemmas.RunLemmas.{boundary, raw_wide}
use Rattle.ini_text.proofs.parser.endpoints.split_noted_run.Goals as goal
use Rattle.ini_text.proofs.parser.endpoints.split_noted_run.Goals.{After-split_at, After-split_at-2}

-- the run up to a backslash or an endpoint
run_at : (c : After-split_at) → RawRun (is_raw (ends_of c.args.read.now c.args.ends)) c.args.text.now
    c.split_at.result.0.now c.split_at.result.1.now
run_at c =
    raw_run (is_raw (ends_of c.args.read.now c.args.ends)) c.args.len
    (raw_wide c.args.read.now c.args.ends) c.utf8.text c.requires
    c.split_at.ensures.front c.split_at.ensures.back

pub split_at-requires : goal.split_at-requires
split_at-requires c =
    rw c.requires
    (boundary (is_raw (ends_of c.args.read.now c.args.ends)) c.args.text.now (raw_wide c.args.read.now c.args.ends))

pub returns-then-not-contains_notes-clause-parts : goal.returns-then-not-contains_notes-clause-parts
returns-then-not-contains_notes-clause-parts c =
    (run_at (goal.at.returns-then-not-contains_notes-clause-parts c).After-split_at).parts

pub returns-then-not-contains_notes-clause-run : goal.returns-then-not-contains_notes-clause-run
returns-then-not-contains_notes-clause-run c =
    run_without_notes (ends_of c.args.read.now c.args.ends) (chars c.split_at.result.0.now)
    (sym c.contains_notes.ensures ∙ c.if-not-contains_notes.true)
    (run_at (goal.at.returns-then-not-contains_notes-clause-run c).After-split_at).all

pub returns-then-not-contains_notes-clause-next : goal.returns-then-not-contains_notes-clause-next
returns-then-not-contains_notes-clause-next c =
    inl (run_at (goal.at.returns-then-not-contains_notes-clause-next c).After-split_at).closes

-- and up to a note
pub overflow_sub-run : goal.overflow_sub-run
overflow_sub-run c =
    note_within (ends_of c.args.read.now c.args.ends) c.from_note.result.now
    (run_at (goal.at.overflow_sub-run c).After-split_at) c.from_note.utf8 c.from_note.ensures

pub split_at-requires-2 : goal.split_at-requires-2
split_at-requires-2 c =
    note_boundary (ends_of c.args.read.now c.args.ends) c.from_note.result.now
    (run_at (goal.at.split_at-requires-2 c).After-split_at) c.from_note.utf8 c.from_note.ensures

cut_at : (c : After-split_at-2) → CutRun (ends_of c.args.read.now c.args.ends) c.args.text.now
    c.split_at-2.result.0.now c.split_at-2.result.1.now
cut_at c =
    let to = ends_of c.args.read.now c.args.ends in
    let run = raw_run (is_raw to) c.args.len (raw_wide c.args.read.now c.args.ends) c.utf8.text c.requires
    c.split_at.ensures.front c.split_at.ensures.back in
    cut_run to c.from_note.result.now run c.from_note.utf8 c.from_note.ensures
    (sym c.contains_notes.ensures ∙ c.if-not-contains_notes.false)
    c.split_at-2.ensures.front c.split_at-2.ensures.back

pub returns-clause-parts : goal.returns-clause-parts
returns-clause-parts c = (cut_at (goal.at.returns-clause-parts c).After-split_at-2).parts

pub returns-clause-run : goal.returns-clause-run
returns-clause-run c = (cut_at (goal.at.returns-clause-run c).After-split_at-2).run

pub returns-clause-next : goal.returns-clause-next
returns-clause-next c = (cut_at (goal.at.returns-clause-next c).After-split_at-2).next
