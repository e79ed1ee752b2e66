use Rattle.std.proofs.Common.{◌≡◌, ℕ, List, [], ◌++◌, ◌∙◌, ap, refl, append-nil, append_assoc}
use Rattle.std.proofs.Common.{encode_utf8_all, rules, subst, sym}
use Rattle.std.proofs.lemmas.Result.{err_from_is_err_and}
use Rattle.ini_text.specs.Escaping.EscapedTexts.{escape, escaped, escaped_bytes}
use Rattle.ini_text.specs.Buffered.{buffered}
use Rattle.ini_text.specs.Device.Gathering.{SendsBytes}
use Rattle.ini_text.specs.Device.Unsent.{unsent}
use Rattle.ini_text.proofs.WriteLemmas.EscapeByteLemmas.{escaped-first, escaped-next}
use Rattle.ini_text.proofs.WriteLemmas.SendLemmas.{Leaving, Leaving-goes_on, Leaving-last, SendsBytes-cut}
use Rattle.ini_text.proofs.write.gather.Gatherer.put_runs.Given as given
use Rattle.ini_text.proofs.write.gather.Gatherer.put_runs.Goals as goal
use Rattle.ini_text.proofs.write.gather.Gatherer.put_runs.Goals.{In_ok-put_bytes}

-- where nothing more is buffered, the run is in front of what is left
in_front : (before now run after : List ℕ) {left : List ℕ} → now ≡ before ++ [] → left ≡ run ++ after
    → before ++ left ≡ now ++ (run ++ after)
in_front before now run after {left} same parts =
    ap (λ l. l ++ left) (sym (append-nil before) ∙ sym same) ∙ ap (λ l. now ++ l) parts

-- the run was sent, and what follows it is left
after_run : (g : given.Over) (c : In_ok-put_bytes g)
    → Leaving g.W.Write.contents c.args.out.now c.put_bytes-in-runs.new.out
    (unsent c.args.self.now ++ escaped_bytes c.args.policy c.args.text.now)
    (unsent c.put_bytes-in-runs.new.self ++ escaped_bytes c.args.policy c.split_verbatim.result.1.now)
after_run g c =
    Leaving-goes_on c.requires _ c.runs.invariant.leaving _
    (in_front (unsent c.runs.self) (buffered c.push_run.new.self) c.split_verbatim.result.0.now
    (escaped_bytes c.args.policy c.split_verbatim.result.1.now)
    (rw c.if-push_run.false at c.push_run.ensures.pushed) c.split_verbatim.ensures.bytes)
    (subst (SendsBytes _ _ _ _ _ _) c.as_bytes-in-runs.ensures.value c.in_ok-put_bytes.ensures)

pub returns-in_err-put_bytes : goal.returns-in_err-put_bytes
returns-in_err-put_bytes g c =
    let p = err_from_is_err_and c.from_residual.result c.from_residual.ensures.1 in
    let sent = subst (SendsBytes _ _ _ _ _ _) c.as_bytes-in-runs.ensures.value c.in_err-put_bytes.ensures in
    rw (p.1, p.2) (Leaving-last c.requires _ c.runs.invariant.leaving _ refl
    (in_front (unsent c.runs.self) (buffered c.push_run.new.self) c.split_verbatim.result.0.now
    (escaped_bytes c.args.policy c.split_verbatim.result.1.now)
    (rw c.if-push_run.false at c.push_run.ensures.pushed) c.split_verbatim.ensures.bytes)
    (SendsBytes-cut (escaped_bytes c.args.policy c.split_verbatim.result.1.now) sent))

pub returns-in_default : goal.returns-in_default
returns-in_default g c =
    let run = c.split_verbatim.result.0.now in
    let ended = c.split_verbatim.ensures.bytes
    ∙ ap (λ cs. run ++ encode_utf8_all (escaped c.args.policy cs)) c.in_default.ensures.characters
    ∙ append-nil run in
    Leaving-last c.requires _ c.runs.invariant.leaving _ refl (ap (λ l. unsent c.runs.self ++ l) ended)
    (subst (SendsBytes _ _ _ _ _ _) c.as_bytes.ensures.value c.put_bytes.ensures)

pub runs-preserved-then-push_run : goal.runs-preserved-then-push_run
runs-preserved-then-push_run g c =
    let run = c.split_verbatim.result.0.now in
    let piece = run ++ escape c.in-Some.c in
    let more = escaped_bytes c.args.policy c.in-Some.following.now in
    let parts = c.in-Some.ensures.characters in
    let next = escaped-next c.args.policy c.in-Some.c _ _ parts
    (escaped-first c.args.policy c.in-Some.c _ _ parts c.split_verbatim.ensures.next) in
    let whole = c.split_verbatim.ensures.bytes ∙ ap (λ x. run ++ x) next
    ∙ sym (append_assoc run (escape c.in-Some.c) _) in
    let grown = rw c.if-push_run.true at c.push_run.ensures.pushed in
    record {
      is_text = search rules;
      leaving =
          subst (Leaving _ _ _ _) (ap (λ l. unsent c.runs.self ++ l) whole
          ∙ sym (append_assoc (unsent c.runs.self) piece _) ∙ ap (λ l. l ++ more) (sym grown))
          c.runs.invariant.leaving;
    }

pub returns-in_err-put_escape : goal.returns-in_err-put_escape
returns-in_err-put_escape g c =
    let p =
    err_from_is_err_and c.from_residual-in_err-put_escape.result
    c.from_residual-in_err-put_escape.ensures.1 in
    let parts = c.in-Some.ensures.characters in
    let next = escaped-next c.args.policy c.in-Some.c _ _ parts
    (escaped-first c.args.policy c.in-Some.c _ _ parts c.split_verbatim.ensures.next) in
    rw (p.1, p.2) (Leaving-last c.requires _
    (after_run g (goal.at.returns-in_err-put_escape g c).In_ok-put_bytes) _ refl
    (ap (λ l. unsent c.put_bytes-in-runs.new.self ++ l) next) (SendsBytes-cut _ c.in_err-put_escape.ensures))

pub runs-preserved : goal.runs-preserved
runs-preserved g c =
    let parts = c.in-Some.ensures.characters in
    let next = escaped-next c.args.policy c.in-Some.c _ _ parts
    (escaped-first c.args.policy c.in-Some.c _ _ parts c.split_verbatim.ensures.next) in
    record {
      is_text = search rules;
      leaving =
          Leaving-goes_on c.requires _ (after_run g (goal.at.runs-preserved g c).In_ok-put_bytes) _
          (ap (λ l. unsent c.put_bytes-in-runs.new.self ++ l) next) c.in_ok-put_escape.ensures;
    }
