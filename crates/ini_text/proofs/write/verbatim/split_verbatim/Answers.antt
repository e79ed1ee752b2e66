use Rattle.std.proofs.Common.{◌≡◌, ap, ◌∙◌}
use Rattle.std.specs.List.{position_or_len}
use Rattle.ini_text.specs.Inside.Verbatim.{begins_escaped}
use Rattle.ini_text.proofs.WriteLemmas.VerbatimRunLemmas.{IsCharBoundary-run, escaped_bytes-run, begins-run}
use Rattle.ini_text.proofs.write.verbatim.split_verbatim.Goals as goal
use Rattle.ini_text.proofs.write.verbatim.split_verbatim.Goals.{After-run_len}

-- the run ends where the search stops
stops : (c : After-run_len)
    → c.run_len.result ≡ position_or_len (begins_escaped c.args.policy) c.args.text.now
stops c = c.run_len.ensures ∙ ap (position_or_len (begins_escaped c.args.policy)) c.as_bytes.ensures.value

pub split_at-requires : goal.split_at-requires
split_at-requires c = IsCharBoundary-run c.args.policy c.args.text.now c.run_len.result (stops c) c.utf8.text

pub returns-clause-bytes : goal.returns-clause-bytes
returns-clause-bytes c =
    escaped_bytes-run c.args.policy c.args.text.now c.run_len.result
    (stops (goal.at.returns-clause-bytes c).After-run_len) c.utf8.text
    _ _ c.split_at.ensures.front c.split_at.ensures.back

pub returns-clause-next : goal.returns-clause-next
returns-clause-next c =
    begins-run c.args.policy c.args.text.now c.run_len.result
    (stops (goal.at.returns-clause-next c).After-run_len) c.utf8.text _ c.split_at.ensures.back
