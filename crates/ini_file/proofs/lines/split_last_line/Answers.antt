use Rattle.std.proofs.Common.{◌≡◌, ℕ, ◌-◌, suc, get_or, arith}
use Rattle.ini_text.specs.Grammar.CharacterKinds.{line_feed}
use Rattle.ini_file.proofs.SplitLemmas.{IsLastLine-at}
use Rattle.ini_file.proofs.lines.split_last_line.Goals as goal
use Rattle.ini_file.proofs.lines.split_last_line.Goals.{else-back-test}
use Rattle.ini_file.proofs.lines.split_last_line.Goals.{then-back-test+then-bytes-at-eq-LINE_FEED}

pub returns : goal.returns
returns c =
    let before : (j : ℕ) → suc j ≡ c.back.at → get_or c.args.bytes.now j 0 ≡ line_feed =
    λ j e. elim c.back-test.branch [
      | else-back-test w ↦ absurd (omega arith)
      | then-back-test+then-bytes-at-eq-LINE_FEED w ↦
          let same : c.back.at - 1 ≡ j = omega arith in rw same at w.if-bytes-at-eq-LINE_FEED.true
    ] in
    IsLastLine-at _ _ _ c.back.at c.back.invariant.0 before c.back.invariant.1 c.split_at.ensures.front
    c.split_at.ensures.back
