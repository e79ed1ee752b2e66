use Rattle.std.proofs.Common.{◌==◌, ◌≡◌, ◌≤◌, ◌||◌, ◌∙◌, Bool, true, false, arith, not, refl, ℕ}
use Rattle.std.proofs.lemmas.Bool.Decides.{nat_tests}
use Rattle.std.specs.List.{prefix_len}
use Rattle.ini_text.specs.Grammar.CharacterKinds.{carriage_return, line_feed}
use Rattle.ini_text.specs.Inside.Scans.{is_line_part}
use Rattle.ini_text.proofs.StringLemmas.RunLemmas.{boundary, run_skipped}
use Rattle.ini_text.proofs.StringLemmas.LaneLemmas.{same_run}
use Rattle.ini_text.proofs.text.skip_note.Goals as goal
use Rattle.ini_text.proofs.text.skip_note.Goals.{After-run_before}

line_end_twice : (a b : Bool) → not (a || b || b) ≡ not (a || b)
line_end_twice true b = refl
line_end_twice false true = refl
line_end_twice false false = refl

part_narrow : (c : ℕ) → 128 ≤ c → is_line_part c ≡ true
part_narrow c l = grind (arith, nat_tests)

-- the run ends before the first line end
ends : (c : After-run_before) → c.run_before.result ≡ prefix_len is_line_part c.args.text.now
ends c = c.run_before.ensures.len
    ∙ rw c.as_bytes.ensures.value (same_run _ is_line_part (λ x. line_end_twice (x == line_feed) (x == carriage_return)) c.args.text.now)

pub split_at-requires : goal.split_at-requires
split_at-requires c = rw (ends c) (boundary is_line_part c.args.text.now part_narrow)

pub returns : goal.returns
returns c = run_skipped is_line_part c.args.text.now c.split_at.result.0.now
    c.split_at.result.1.now c.run_before.result part_narrow c.utf8.text
    (ends (goal.at.returns c).After-run_before) c.split_at.ensures.front c.split_at.ensures.back
