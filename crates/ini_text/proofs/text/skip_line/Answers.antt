use Rattle.std.proofs.Common.{◌≡◌, not, ◌∙◌}
use Rattle.std.specs.List.{prefix_len}
use Rattle.ini_text.specs.Grammar.CharacterKinds.{is_line_feed}
use Rattle.ini_text.proofs.StringLemmas.RunLemmas.{boundary, line_feed_narrow, run_skipped}
use Rattle.ini_text.proofs.StringLemmas.LaneLemmas.{not_three, same_run}
use Rattle.ini_text.proofs.text.skip_line.Goals as goal
use Rattle.ini_text.proofs.text.skip_line.Goals.{After-run_before}

-- the run ends before the first line feed
ends : (c : After-run_before) → c.run_before.result ≡ prefix_len (λ x. not (is_line_feed x)) c.args.text.now
ends c = c.run_before.ensures.len
    ∙ rw c.as_bytes.ensures.value
    (same_run _ (λ x. not (is_line_feed x)) (λ x. not_three (is_line_feed x)) c.args.text.now)

pub split_at-requires : goal.split_at-requires
split_at-requires c = rw (ends c) (boundary (λ x. not (is_line_feed x)) c.args.text.now line_feed_narrow)

pub returns : goal.returns
returns c = run_skipped (λ x. not (is_line_feed x)) c.args.text.now c.split_at.result.0.now
    c.split_at.result.1.now c.run_before.result line_feed_narrow c.utf8.text
    (ends (goal.at.returns c).After-run_before) c.split_at.ensures.front c.split_at.ensures.back
