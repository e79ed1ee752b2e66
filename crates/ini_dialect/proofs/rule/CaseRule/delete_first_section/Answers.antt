use Rattle.std.proofs.Common.{◌∙◌, Bool, Option, Some, chars, sym}
use Rattle.ini.specs.Texts.{Text}
use Rattle.ini_edit.specs.Sources.{document_in}
use Rattle.ini_dialect.specs.Lookups.{name_fits}
use Rattle.ini_dialect.specs.SectionEdits.{AreEachMade}
use Rattle.ini_dialect.proofs.SectionEditLemmas.{none_seen, removed_none, removed_seen, some_seen}
use Rattle.ini_dialect.proofs.rule.CaseRule.delete_first_section.Goals as goal

pub returns-in_default-clause-found : goal.returns-in_default-clause-found
returns-in_default-clause-found c =
    sym (none_seen (λ n. name_fits c.args.self (Some (chars c.args.name.now)) n) c.args.source.now.sections
    (rw (c.in_default.is, c.sections.ensures) at c.in_ok-first.ensures))

pub returns-in_default-clause-deleted : goal.returns-in_default-clause-deleted
returns-in_default-clause-deleted c =
    AreEachMade.none_left (rw (c.in_default.is, c.sections.ensures) at c.in_ok-first.ensures)

pub returns-in_default-clause-document : goal.returns-in_default-clause-document
returns-in_default-clause-document c =
    let fits : Option Text → Bool = λ n. name_fits c.args.self (Some (chars c.args.name.now)) n in
    sym (removed_none fits (document_in c.args.source.now)
    (none_seen fits c.args.source.now.sections
    (rw (c.in_default.is, c.sections.ensures) at c.in_ok-first.ensures)))

pub returns-clause-found : goal.returns-clause-found
returns-clause-found c =
    sym (some_seen (λ n. name_fits c.args.self (Some (chars c.args.name.now)) n) c.args.source.now.sections
    (rw (c.in-Some.is, c.sections.ensures) at c.in_ok-first.ensures))

pub returns-clause-deleted : goal.returns-clause-deleted
returns-clause-deleted c =
    AreEachMade.first_alone (rw (c.in-Some.is, c.sections.ensures) at c.in_ok-first.ensures)
    (rw c.as_str.ensures.value at c.in_ok-delete_section.ensures.deleted)

pub returns-clause-document : goal.returns-clause-document
returns-clause-document c =
    (rw c.as_str.ensures.value at c.in_ok-delete_section.ensures.document)
    ∙ removed_seen (λ n. name_fits c.args.self (Some (chars c.args.name.now)) n) c.args.source.now.sections
    (rw (c.in-Some.is, c.sections.ensures) at c.in_ok-first.ensures)
