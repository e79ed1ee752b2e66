use Rattle.std.proofs.Common.{◌≡◌, ◌∙◌, ◌++◌, ap, chars, subst, sym}
use Rattle.std.proofs.lemmas.Bool.{both_ways}
use Rattle.std.proofs.lemmas.Str.{chars-nil}
use Rattle.ini_edit.specs.Quotes.{written_in}
use Rattle.ini_edit.specs.SourceWritten.{IsReadAs}
use Rattle.ini_edit.proofs.source.written.tried_form.Goals as goal

pub returns-then-branch-clause-form : goal.returns-then-branch-clause-form
returns-then-branch-clause-form c =
    let form = written_in c.args.policy (chars c.args.quote.now) (chars c.args.value.now) in (
      c.in_ok-push_in_quote.ensures.pushed
          ∙ ap (λ t. t ++ form) (ap chars c.new-source.ensures.bytes ∙ chars-nil),
      subst (λ t. IsReadAs c.args.read (chars t) (chars c.args.value.now)) c.as_str.ensures.value
          (c.in_ok-is_read_back.ensures.read.0 c.if-branch.true),
    )

pub returns-clause-form : goal.returns-clause-form
returns-clause-form c =
    let form = written_in c.args.policy (chars c.args.quote.now) (chars c.args.value.now) in
    let is : chars c.as_str.result.now ≡ form =
    ap chars c.as_str.ensures.value ∙ c.in_ok-push_in_quote.ensures.pushed
    ∙ ap (λ t. t ++ form) (ap chars c.new-source.ensures.bytes ∙ chars-nil) in
    λ h. both_ways _ c.if-branch.false (c.in_ok-is_read_back.ensures.read.1
    (subst (λ t. IsReadAs c.args.read t (chars c.args.value.now)) (sym is) h))
