use Rattle.std.proofs.Common.{◌∙◌, ◌++◌, ap, subst}
use Rattle.std.specs.Option.{option_map}
use Rattle.ini_file.specs.Typed.{Appended, AreSaid, Says}
use Rattle.ini_file.proofs.TypedLemmas.{first_unsaid, one_more_said}
use Rattle.ini_file.proofs.typed.convert_all.Goals as goal

pub loop-index-init : goal.loop-index-init
loop-index-init c = rw c.new-bytes.ensures.items AreSaid.none

pub returns-then-not-branch : goal.returns-then-not-branch
returns-then-not-branch c =
    first_unsaid c.args.kind (option_map (λ home. home.now) c.args.home) c.args.end.now c.args.values.now
    c.loop-index.index _ c.loop-index-test.true c.loop-index.invariant
    (rw c.if-not-branch.true at c.in_ok-push_said.ensures)

pub loop-index-preserved : goal.loop-index-preserved
loop-index-preserved c =
    let said = rw c.if-not-branch.false at c.in_ok-push_said.ensures in
    one_more_said c.args.kind (option_map (λ home. home.now) c.args.home) c.args.end.now c.args.values.now
    c.loop-index.index _ c.loop-index-test.true c.loop-index.invariant said.0 said.1
    (c.in_ok-extend_from_slice.ensures.items
    ∙ (ap (λ b. b ++ c.as_bytes.result.now) said.2
    ∙ ap (λ e. (c.loop-index.bytes.items ++ said.0) ++ e) c.as_bytes.ensures.value))
