use Rattle.std.proofs.Common.{◌==◌, ◌≡◌, ◌≤◌, ◌||◌, ◌∙◌, Bool, List, true, false, ap, arith, not, refl, ℕ}
use Rattle.std.proofs.lemmas.Bool.Decides.{nat_tests}
use Rattle.std.specs.List.{position_or_len, prefix_len}
use Rattle.ini_text.specs.Grammar.CharacterKinds.{hash, semicolon}
use Rattle.ini_text.specs.Inside.Lanes.{is_one_of}
use Rattle.ini_text.specs.Inside.Scans.{is_no_mark}
use Rattle.ini_text.proofs.StringLemmas.LaneLemmas.{same_run}
use Rattle.ini_text.proofs.StringLemmas.NoteRunLemmas.{RawRun, raw_run}
use Rattle.ini_text.proofs.StringLemmas.RunLemmas.{boundary}
use Rattle.ini_text.proofs.parser.endpoints.split_mark.Goals as goal
use Rattle.ini_text.proofs.parser.endpoints.split_mark.Goals.{After-split_at}

mark_twice : (a b : Bool) → not (a || b || b) ≡ not (a || b)
mark_twice true b = refl
mark_twice false true = refl
mark_twice false false = refl

no_mark_narrow : (c : ℕ) → 128 ≤ c → is_no_mark c ≡ true
no_mark_narrow c l = grind (arith, nat_tests)

-- the run ends before the first mark
ends : {n : ℕ} {bytes text : List ℕ} → n ≡ position_or_len (is_one_of semicolon hash hash) bytes
    → bytes ≡ text → n ≡ prefix_len is_no_mark text
ends {text = text} is same =
    is ∙ ap (position_or_len (is_one_of semicolon hash hash)) same
    ∙ same_run _ is_no_mark (λ x. mark_twice (x == semicolon) (x == hash)) text

run_at : (c : After-split_at) → RawRun is_no_mark c.args.text.now c.split_at.result.0.now
    c.split_at.result.1.now
run_at c =
    raw_run is_no_mark c.run_before.result no_mark_narrow c.utf8.text
    (ends c.run_before.ensures.len c.as_bytes.ensures.value) c.split_at.ensures.front c.split_at.ensures.back

pub split_at-requires : goal.split_at-requires
split_at-requires c =
    rw (ends c.run_before.ensures.len c.as_bytes.ensures.value)
    (boundary is_no_mark c.args.text.now no_mark_narrow)

pub returns-clause-parts : goal.returns-clause-parts
returns-clause-parts c = (run_at (goal.at.returns-clause-parts c).After-split_at).parts

pub returns-clause-before : goal.returns-clause-before
returns-clause-before c = (run_at (goal.at.returns-clause-before c).After-split_at).all

pub returns-clause-next : goal.returns-clause-next
returns-clause-next c = (run_at (goal.at.returns-clause-next c).After-split_at).closes
