use Rattle.std.proofs.Common.{◌∙◌, ◌++◌, ap, ap₂, chars, subst, sym}
use Rattle.ini_text.specs.Grammar.Positions.{last_or}
use Rattle.ini_text.specs.Parsing.Items.{string_text}
use Rattle.ini_edit.specs.Inside.SourceLayouts.{EndsInRest, rules_of}
use Rattle.ini_edit.specs.SourceLayout.{laid_pairs}
use Rattle.ini_edit.proofs.LayoutLemmas.{rest_ends, section_is}
use Rattle.ini_edit.proofs.source.section.SourceSection.push_laid.Goals as goal

pub push_first_lines-requires : goal.push_first_lines-requires
push_first_lines-requires c = c.above_next-rest.ensures.is_rest

pub push_pairs-requires : goal.push_pairs-requires
push_pairs-requires c =
    let s = c.args.self.now in
    subst (EndsInRest (chars c.above_next-rest.result.now)) (sym c.pairs.ensures)
    (rest_ends s.after (chars c.above_next-rest.result.now) s.pairs c.above_next-rest.ensures.is_rest)

pub returns-clause-pushed : goal.returns-clause-pushed
returns-clause-pushed c =
    let r = rules_of c.args.rules.now in
    let rest = chars c.above_next-rest.result.now in
    section_is r c.args.self.now c.args.is_last c.args.front (string_text c.args.out.now)
    c.follower_of-follower.ensures c.above_next-rest.ensures.rest
    (c.last_or-last.ensures ∙ ap₂ last_or (c.last_or.ensures ∙ ap (last_or c.args.front) c.header-2.ensures)
    c.after.ensures)
    (c.in_ok-push_text.ensures.pushed ∙ ap (λ t. string_text c.args.out.now ++ t) c.header.ensures)
    c.in_ok-push_first_lines.ensures.pushed
    (c.in_ok-push_pairs.ensures.pushed
    ∙ ap (λ ps. string_text c.push_first_lines.new.out
    ++ laid_pairs r c.follower_of-follower.result rest c.last_or-last.result 0 ps) c.pairs.ensures)
    c.in_ok-push_gap.ensures.pushed
