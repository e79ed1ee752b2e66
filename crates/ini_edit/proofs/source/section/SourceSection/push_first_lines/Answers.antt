use Rattle.std.proofs.Common.{◌∙◌, ap, chars, subst, sym}
use Rattle.ini_text.specs.Parsing.Fronts.{IsRest, front_of}
use Rattle.ini_text.specs.Parsing.Items.{string_text}
use Rattle.ini_edit.specs.Inside.SourceLayouts.{rules_of}
use Rattle.ini_edit.specs.SourceLayout.{first_lines}
use Rattle.ini_edit.proofs.LayoutLemmas.{bare_gap, first_bare, first_more}
use Rattle.ini_edit.proofs.source.section.SourceSection.push_first_lines.Goals as goal

pub front_before-lines-requires : goal.front_before-lines-requires
front_before-lines-requires c =
    let bare = sym c.is_bare.ensures ∙ c.if-is_bare.true in
    subst (λ t. IsRest t (chars c.args.rest.now)) (bare_gap c.args.self.now bare ∙ sym c.after.ensures)
    c.requires

pub returns-then-is_bare-clause-pushed : goal.returns-then-is_bare-clause-pushed
returns-then-is_bare-clause-pushed c =
    first_bare (rules_of c.args.rules.now) c.args.self.now c.args.follower (chars c.args.rest.now)
    (string_text c.args.out.now)
    (sym c.is_bare.ensures ∙ c.if-is_bare.true)
    (c.first_lines.ensures ∙ ap (first_lines c.args.self.now) (c.front_before-lines.ensures
    ∙ ap (λ t. front_of t (chars c.args.rest.now)) c.after.ensures))
    c.in_ok-push_gap.ensures.pushed

pub returns-clause-pushed : goal.returns-clause-pushed
returns-clause-pushed c =
    first_more (rules_of c.args.rules.now) c.args.self.now c.args.follower (chars c.args.rest.now)
    (string_text c.args.out.now)
    (sym c.is_bare.ensures ∙ c.if-is_bare.false)
    (c.first_lines-2.ensures ∙ ap (first_lines c.args.self.now) c.after-2.ensures)
    c.in_ok-push_gap-2.ensures.pushed
