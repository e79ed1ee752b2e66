use Rattle.std.proofs.Common.{◌≡◌, [], ◌∙◌, ap, arith, refl, sym, subst}
use Rattle.std.proofs.lemmas.List.{nil_from_length}
use Rattle.std.proofs.lemmas.Result.{err_from_is_err_and}
use Rattle.std.specs.Str.{chars}
use Rattle.ini_text.specs.declared.write.policy.EscapePolicy.{EscapePolicy}
use Rattle.ini_text.specs.Escaping.EscapedTexts.{escaped_bytes}
use Rattle.ini_text.specs.Device.Watched.{WritesBytes}
use Rattle.ini_text.proofs.WriteLemmas.SendLemmas.{Sends-flushed, Sends-refused, WritesBytes-nil}
use Rattle.ini_text.proofs.write.write_escaped.Goals as goal

nothing_escaped : (policy : EscapePolicy) → escaped_bytes policy [] ≡ []
unfolding chars
nothing_escaped policy = refl

pub returns-then-is_empty-clause-written : goal.returns-then-is_empty-clause-written
returns-then-is_empty-clause-written g c =
    let nothing : c.args.text.now ≡ [] = nil_from_length _ (grind (arith)) in
    subst (WritesBytes _ _ _ _)
    (sym (ap (escaped_bytes c.args.policy) nothing ∙ nothing_escaped c.args.policy))
    (WritesBytes-nil c.requires)

pub returns-in_err-put_escaped-clause-written : goal.returns-in_err-put_escaped-clause-written
returns-in_err-put_escaped-clause-written g c =
    let p = err_from_is_err_and c.from_residual.result c.from_residual.ensures.1 in
    rw (p.1, p.2) (Sends-refused c.new-gatherer.ensures c.in_err-put_escaped.ensures)

pub returns-clause-written : goal.returns-clause-written
returns-clause-written g c =
    Sends-flushed c.requires c.new-gatherer.ensures c.in_ok-put_escaped.ensures c.flush.ensures.sends
    c.flush.ensures.empty
