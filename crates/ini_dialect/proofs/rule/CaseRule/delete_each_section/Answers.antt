use Rattle.std.proofs.Common.{chars}
use Rattle.ini_dialect.proofs.SectionEditLemmas.{deleted_document, deleted_each, deleted_fewer, deleted_found}
use Rattle.ini_dialect.proofs.SectionEditLemmas.{deleted_more, deleted_none}
use Rattle.ini_dialect.proofs.rule.CaseRule.delete_each_section.Goals as goal

pub sections-init : goal.sections-init
sections-init c = deleted_none c.args.self (chars c.args.name.now) c.args.source.now

pub sections-preserved : goal.sections-preserved
sections-preserved c =
    deleted_more c.args.self (chars c.args.name.now) c.sections.invariant
    (rw (c.in-Some.is, c.sections-in-sections.ensures) at c.in_ok-first.ensures)
    (rw c.as_str.ensures.value at c.in_ok-delete_section.ensures.deleted)
    (rw c.as_str.ensures.value at c.in_ok-delete_section.ensures.document)

pub sections-smaller : goal.sections-smaller
sections-smaller c =
    deleted_fewer c.args.self (chars c.args.name.now) c.sections.source c.delete_section.new.self
    (rw (c.in-Some.is, c.sections-in-sections.ensures) at c.in_ok-first.ensures)
    (rw c.as_str.ensures.value at c.in_ok-delete_section.ensures.document)

pub returns-clause-found : goal.returns-clause-found
returns-clause-found c =
    deleted_found c.args.self (chars c.args.name.now) c.sections.invariant
    (rw (c.in_default.is, c.sections-in-sections.ensures) at c.in_ok-first.ensures)

pub returns-clause-deleted : goal.returns-clause-deleted
returns-clause-deleted c =
    deleted_each c.args.self (chars c.args.name.now) c.sections.invariant
    (rw (c.in_default.is, c.sections-in-sections.ensures) at c.in_ok-first.ensures)

pub returns-clause-document : goal.returns-clause-document
returns-clause-document c =
    deleted_document c.args.self (chars c.args.name.now) c.sections.invariant
    (rw (c.in_default.is, c.sections-in-sections.ensures) at c.in_ok-first.ensures)
