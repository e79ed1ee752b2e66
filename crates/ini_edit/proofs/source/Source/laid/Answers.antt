use Rattle.std.proofs.Common.{◌∙◌, ◌++◌, ap, chars}
use Rattle.std.proofs.lemmas.Str.{chars-nil}
use Rattle.ini_text.specs.Grammar.CharacterKinds.{line_feed}
use Rattle.ini_text.specs.Parsing.Items.{string_text}
use Rattle.ini_edit.specs.Inside.SourceLayouts.{rules_of}
use Rattle.ini_edit.specs.SourceLayout.{end_after, laid_sections, rules_for}
use Rattle.ini_edit.proofs.LayoutLemmas.{is_last, sections_end, sections_step}
use Rattle.ini_edit.proofs.source.Source.laid.Goals as goal

pub loop-i-init : goal.loop-i-init
loop-i-init c =
    ap (λ t. t ++ laid_sections (rules_of c.in_ok-rules.rules) line_feed c.sections-sections.result.now)
    (ap chars c.new-out.ensures.bytes ∙ chars-nil)

pub loop-i-preserved : goal.loop-i-preserved
loop-i-preserved c =
    let items = c.sections-sections.result.now in
    sections_step (rules_of c.in_ok-rules.rules) c.loop-i.front (string_text c.loop-i.out) items c.loop-i.i
    c.index-sections-i.result c.loop-i-test.true c.index-sections-i.is c.loop-i.invariant
    (is_last items c.loop-i.i c.index-sections-i.result c.loop-i-test.true)
    c.in_ok-push_laid.ensures.pushed c.last_char-front.ensures

pub returns-clause-text : goal.returns-clause-text
returns-clause-text c =
    let items = c.sections-sections.result.now in
    let r = rules_of c.in_ok-rules.rules in
    c.in_ok-push_end.ensures.pushed
    ∙ ap (λ t. t ++ end_after r t)
    (sections_end r c.loop-i.front items c.loop-i.i c.loop-i-test.false c.loop-i.invariant)
    ∙ ap (λ r. laid_sections r line_feed items ++ end_after r (laid_sections r line_feed items))
    c.in_ok-rules.ensures.rules
    ∙ ap (λ ss. laid_sections (rules_for c.args.self.now.option c.args.layout.now c.args.self.now.sections)
    line_feed ss ++ end_after (rules_for c.args.self.now.option c.args.layout.now c.args.self.now.sections)
    (laid_sections (rules_for c.args.self.now.option c.args.layout.now c.args.self.now.sections) line_feed
    ss))
    c.sections-sections.ensures
