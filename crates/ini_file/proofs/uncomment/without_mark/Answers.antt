use Rattle.std.proofs.Common.{◌≡◌, ◌∙◌, ◌++◌, None, Some, ap, chars, subst, sym}
use Rattle.std.specs.Option.{option_map}
use Rattle.ini_file.specs.Uncomment.{HoldsPair, Uncomments, said}
use Rattle.ini_file.proofs.uncomment.without_mark.Goals as goal

pub returns-then-not-inside-clause-made : goal.returns-then-not-inside-clause-made
returns-then-not-inside-clause-made c = Uncomments.outside c.if-not-inside.true

pub returns-then-not-starts_line-clause-made : goal.returns-then-not-starts_line-clause-made
returns-then-not-starts_line-clause-made c =
    Uncomments.behind (sym c.starts_line.ensures ∙ c.if-not-starts_line.true)

pub returns-in_default-clause-made : goal.returns-in_default-clause-made
returns-in_default-clause-made c =
    Uncomments.no_comment
    (subst (λ x. said x ≡ None) c.split_blanks.ensures.rest
    (sym c.said.ensures ∙ ap (option_map (λ t. chars t.now)) c.in_default.is))

pub returns-then-not-branch-clause-made : goal.returns-then-not-branch-clause-made
returns-then-not-branch-clause-made c =
    Uncomments.no_pair
    (subst (λ x. said x ≡ Some (chars c.in-Some.line.now)) c.split_blanks.ensures.rest
    (sym c.said.ensures ∙ ap (option_map (λ t. chars t.now)) c.in-Some.is))
    (subst (λ b. HoldsPair c.args.read c.args.case (chars c.args.key.now) (chars c.in-Some.line.now) b)
    c.if-not-branch.true c.in_ok-holds_pair.ensures.holds)

pub returns-clause-made : goal.returns-clause-made
returns-clause-made c =
    let line = chars c.in-Some.line.now in
    let text = c.in_ok-joined.ensures
    ∙ ap (λ x. chars c.args.front.now ++ (x ++ (line ++ chars c.args.rest.now))) c.split_blanks.ensures.blanks
    in
    subst (λ t. Uncomments c.args.read c.args.case (chars c.args.key.now) c.args.inside
    (chars c.args.front.now) (chars c.args.source.now) (chars c.args.rest.now) (Some t)) (sym text)
    (Uncomments.comment c.if-not-inside.false (sym c.starts_line.ensures ∙ c.if-not-starts_line.false)
    (subst (λ x. said x ≡ Some line) c.split_blanks.ensures.rest
    (sym c.said.ensures ∙ ap (option_map (λ t. chars t.now)) c.in-Some.is))
    (subst (λ b. HoldsPair c.args.read c.args.case (chars c.args.key.now) line b) c.if-not-branch.false
    c.in_ok-holds_pair.ensures.holds))
