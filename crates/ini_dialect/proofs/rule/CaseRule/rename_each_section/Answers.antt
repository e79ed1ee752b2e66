use Rattle.std.proofs.Common.{Some, chars}
use Rattle.ini_dialect.specs.SectionEdits.{is_sought}
use Rattle.ini_dialect.proofs.SectionEditLemmas.{renamed_document, renamed_each, renamed_fewer, renamed_more}
use Rattle.ini_dialect.proofs.SectionEditLemmas.{renamed_start, renames_there}
use Rattle.ini_dialect.proofs.rule.CaseRule.rename_each_section.Goals as goal

pub sections-init : goal.sections-init
sections-init c =
    renamed_start c.args.self c.args.policy (chars c.args.old.now) (chars c.args.new.now) c.args.source.now

pub sections-preserved : goal.sections-preserved
sections-preserved c =
    let old = chars c.args.old.now in
    let new = chars c.args.new.now in
    renamed_more c.args.self c.args.policy old new c.sections.invariant
    (rw (c.in-Some.is, c.sections-in-sections.ensures) at c.in_ok-first.ensures)
    (renames_there (λ n. is_sought c.args.self old (Some new) n) c.in_ok-rename_section.field-0
    (rw (c.in-Some.is, c.sections-in-sections.ensures) at c.in_ok-first.ensures)
    (rw c.as_str.ensures.value at c.in_ok-rename_section.ensures.renamed))

pub sections-smaller : goal.sections-smaller
sections-smaller c =
    let old = chars c.args.old.now in
    let new = chars c.args.new.now in
    renamed_fewer c.args.self c.args.policy old new c.sections.source c.rename_section.new.self
    (rw (c.in-Some.is, c.sections-in-sections.ensures) at c.in_ok-first.ensures)
    (renames_there (λ n. is_sought c.args.self old (Some new) n) c.in_ok-rename_section.field-0
    (rw (c.in-Some.is, c.sections-in-sections.ensures) at c.in_ok-first.ensures)
    (rw c.as_str.ensures.value at c.in_ok-rename_section.ensures.renamed))

pub returns-clause-renamed : goal.returns-clause-renamed
returns-clause-renamed c =
    renamed_each c.args.self c.args.policy (chars c.args.old.now) (chars c.args.new.now) c.sections.invariant
    (rw (c.in_default.is, c.sections-in-sections.ensures) at c.in_ok-first.ensures)

pub returns-clause-document : goal.returns-clause-document
returns-clause-document c =
    renamed_document c.args.self c.args.policy (chars c.args.old.now) (chars c.args.new.now)
    c.sections.invariant
    (rw (c.in_default.is, c.sections-in-sections.ensures) at c.in_ok-first.ensures)
