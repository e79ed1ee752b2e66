use Rattle.std.proofs.Common.{◌++◌, ◌∙◌, [], ◌≡◌, drop, ap, refl, sym, subst, arith, append-nil}
use Rattle.std.proofs.lemmas.List.{nil_from_length, take_rest}
use Rattle.std.proofs.lemmas.Result.{err_from_is_err_and}
use Rattle.ini_text.specs.Escaping.EscapedTexts.{escape}
use Rattle.ini_text.specs.Inside.Verbatim.{marked_escaped}
use Rattle.ini_text.specs.Device.Unsent.{unsent}
use Rattle.ini_text.proofs.WriteLemmas.MarkedByteLemmas.{marked_escaped-at, marked_escaped-split}
use Rattle.ini_text.proofs.WriteLemmas.SendLemmas.{Leaving, Leaving-ends, Leaving-goes_on, Leaving-last}
use Rattle.ini_text.proofs.WriteLemmas.SendLemmas.{SendsBytes-cut}
use Rattle.ini_text.proofs.write.gather.Gatherer.put_pieces.Given as given
use Rattle.ini_text.proofs.write.gather.Gatherer.put_pieces.Goals as goal
use Rattle.ini_text.proofs.write.gather.Gatherer.put_pieces.Goals.{In_ok-put_bytes}

-- the run was sent, and what is marked is left
after_run : (g : given.Over) (c : In_ok-put_bytes g)
    → Leaving g.W.Write.contents c.args.out.now c.put_bytes.new.out
    (unsent c.args.self.now ++ marked_escaped (g.M.Marks.is_marked c.args.marks.now) c.args.bytes.now)
    (unsent c.put_bytes.new.self
    ++ marked_escaped (g.M.Marks.is_marked c.args.marks.now) c.split_at.result.1.now)
after_run g c =
    let parts = marked_escaped-split (g.M.Marks.is_marked c.args.marks.now) c.pieces.rest.now _ _ _
    c.run_before.ensures.len c.split_at.ensures.front c.split_at.ensures.back in
    Leaving-goes_on c.requires _ c.pieces.invariant.leaving _ (ap (λ l. unsent c.pieces.self ++ l) parts)
    c.in_ok-put_bytes.ensures

pub returns-in_err-put_bytes : goal.returns-in_err-put_bytes
returns-in_err-put_bytes g c =
    let p = err_from_is_err_and c.from_residual.result c.from_residual.ensures.1 in
    let parts = marked_escaped-split (g.M.Marks.is_marked c.args.marks.now) c.pieces.rest.now _ _ _
    c.run_before.ensures.len c.split_at.ensures.front c.split_at.ensures.back in
    rw (p.1, p.2) (Leaving-last c.requires _ c.pieces.invariant.leaving _ refl
    (ap (λ l. unsent c.pieces.self ++ l) parts) (SendsBytes-cut _ c.in_err-put_bytes.ensures))

pub returns-in_default : goal.returns-in_default
returns-in_default g c =
    let p = g.M.Marks.is_marked c.args.marks.now in
    let ended : c.split_at.result.1.now ≡ [] = nil_from_length _ (omega arith) in
    Leaving-ends _ (subst (Leaving _ _ _ _)
    (ap (λ l. unsent c.put_bytes.new.self ++ marked_escaped p l) ended
    ∙ append-nil (unsent c.put_bytes.new.self))
    (after_run g (goal.at.returns-in_default g c).In_ok-put_bytes))

pub returns-in_err-put_escape : goal.returns-in_err-put_escape
returns-in_err-put_escape g c =
    let p =
    err_from_is_err_and c.from_residual-in_err-put_escape.result
    c.from_residual-in_err-put_escape.ensures.1 in
    let marks = g.M.Marks.is_marked c.args.marks.now in
    let back = c.split_at.result.1.now in
    let next = marked_escaped-at marks c.pieces.rest.now back _ c.run_before.ensures.len
    c.split_at.ensures.back (omega arith)
    ∙ ap (λ b. escape b ++ marked_escaped marks (drop 1 back)) (sym c.from.ensures) in
    rw (p.1, p.2) (Leaving-last c.requires _
    (after_run g (goal.at.returns-in_err-put_escape g c).In_ok-put_bytes) _ refl
    (ap (λ l. unsent c.put_bytes.new.self ++ l) next) (SendsBytes-cut _ c.in_err-put_escape.ensures))

pub pieces-preserved : goal.pieces-preserved
pieces-preserved g c =
    let marks = g.M.Marks.is_marked c.args.marks.now in
    let back = c.split_at.result.1.now in
    let next = marked_escaped-at marks c.pieces.rest.now back _ c.run_before.ensures.len
    c.split_at.ensures.back (omega arith)
    ∙ ap (λ b. escape b ++ marked_escaped marks (drop 1 back)) (sym c.from.ensures) in
    let left = Leaving-goes_on c.requires _ (after_run g (goal.at.pieces-preserved g c).In_ok-put_bytes) _
    (ap (λ l. unsent c.put_bytes.new.self ++ l) next) c.in_ok-put_escape.ensures in
    let same =
    c.push_marked-rest.ensures.pushed
    ∙ ap (λ l. unsent c.put_escape.new.self ++ marked_escaped marks l) (take_rest back 1) in
    record { leaving = subst (Leaving _ _ _ _) (sym same) left }
