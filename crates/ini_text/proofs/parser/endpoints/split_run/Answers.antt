use Rattle.std.proofs.Common.{◌≡◌, ◌∙◌, ap, chars, false, inl, refl}
use Rattle.std.proofs.Math.Bool.{and-false}
use Rattle.std.specs.List.{prefix_len}
use Rattle.ini_text.specs.Inside.Scans.{is_raw}
use Rattle.ini_text.specs.Inside.Endpoints.{ends_of}
use Rattle.ini_text.specs.declared.option.ParseOption.{ParseOption}
use Rattle.ini_text.specs.declared.parser.endpoints.Endpoints.{Endpoints}
use Rattle.ini_text.specs.declared.parser.endpoints.Endpoints.TheVariants.{Name, BracketedName, Key}
use Rattle.ini_text.specs.declared.parser.endpoints.Endpoints.TheVariants.{DoubleQuotes, SingleQuotes, Plain}
use Rattle.ini_text.proofs.ReaderLemmas.StringReaderLemmas.{run_without_notes}
use Rattle.ini_text.proofs.StringLemmas.NoteRunLemmas.{RawRun, raw_run}
use Rattle.ini_text.proofs.StringLemmas.RunLemmas.{boundary, raw_wide}
use Rattle.ini_text.proofs.parser.endpoints.split_run.Goals as goal
use Rattle.ini_text.proofs.parser.endpoints.split_run.Goals.{After-split_at}

run_at : (c : After-split_at) → RawRun (is_raw (ends_of c.args.read.now c.args.ends)) c.args.text.now
    c.split_at.result.0.now c.split_at.result.1.now
run_at c =
    raw_run (is_raw (ends_of c.args.read.now c.args.ends)) c.run_len-len.result
    (raw_wide c.args.read.now c.args.ends) c.utf8.text
    (c.run_len-len.ensures.len
    ∙ ap (prefix_len (is_raw (ends_of c.args.read.now c.args.ends))) c.as_bytes.ensures.value)
    c.split_at.ensures.front c.split_at.ensures.back

no_notes : (o : ParseOption) (ends : Endpoints) → o.enabled_inline_comment ≡ false
    → (ends_of o ends).notes ≡ false
no_notes o Name off = refl
no_notes o BracketedName off = off
no_notes o Key off = rw (off, and-false) refl
no_notes o DoubleQuotes off = refl
no_notes o SingleQuotes off = refl
no_notes o Plain off = off

pub split_noted_run-requires : goal.split_noted_run-requires
split_noted_run-requires c =
    c.run_len-len.ensures.len
    ∙ ap (prefix_len (is_raw (ends_of c.args.read.now c.args.ends))) c.as_bytes.ensures.value

pub split_at-requires : goal.split_at-requires
split_at-requires c =
    rw (c.run_len-len.ensures.len, c.as_bytes.ensures.value)
    (boundary (is_raw (ends_of c.args.read.now c.args.ends)) c.args.text.now (raw_wide c.args.read.now c.args.ends))

pub returns-clause-parts : goal.returns-clause-parts
returns-clause-parts c = (run_at (goal.at.returns-clause-parts c).After-split_at).parts

pub returns-clause-run : goal.returns-clause-run
returns-clause-run c =
    run_without_notes (ends_of c.args.read.now c.args.ends) (chars c.split_at.result.0.now)
    (no_notes c.args.read.now c.args.ends c.if-read.false)
    (run_at (goal.at.returns-clause-run c).After-split_at).all

pub returns-clause-next : goal.returns-clause-next
returns-clause-next c = inl (run_at (goal.at.returns-clause-next c).After-split_at).closes
