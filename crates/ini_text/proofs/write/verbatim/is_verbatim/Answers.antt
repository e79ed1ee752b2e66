use Rattle.std.proofs.Common.{◌++◌, ap, sym, ◌∙◌, [], length, append-nil, eqb-true, eq-eqb, take_all, refl}
use Rattle.std.proofs.Common.{arith}
use Rattle.std.specs.List.{position_or_len}
use Rattle.std.proofs.lemmas.List.Sums.{position_or_len_is}
use Rattle.std.proofs.Math.Seq.{drop-length}
use Rattle.ini_text.specs.Inside.Verbatim.{begins_escaped}
use Rattle.ini_text.proofs.WriteLemmas.EscapeByteLemmas.{escaped_bytes-nil}
use Rattle.ini_text.proofs.WriteLemmas.VerbatimRunLemmas.{escaped_bytes-run}
use Rattle.ini_text.proofs.write.verbatim.is_verbatim.Goals as goal

pub returns-clause-same : goal.returns-clause-same
returns-clause-same c whole =
    let text = c.args.text.now in
    let stops = sym (eqb-true _ _ whole) ∙ c.run_len.ensures
    ∙ ap (position_or_len (begins_escaped c.args.policy)) c.as_bytes.ensures.value in
    escaped_bytes-run c.args.policy text (length text) stops c.utf8.text text []
    (sym (take_all (length text) text (omega arith))) (sym (drop-length text))
    ∙ ap (λ l. text ++ l) (escaped_bytes-nil c.args.policy [] refl) ∙ append-nil text

pub returns-clause-told : goal.returns-clause-told
returns-clause-told c plain =
    let text = c.args.text.now in
    let p = begins_escaped c.args.policy in
    eq-eqb _ _ (c.run_len.ensures ∙ ap (position_or_len p) c.as_bytes.ensures.value
    ∙ position_or_len_is p text (length text) 0 (omega arith) (λ k below. plain k 0 below)
    (λ over. absurd (omega arith)))
