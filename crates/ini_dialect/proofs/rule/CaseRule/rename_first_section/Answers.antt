use Rattle.std.proofs.Common.{◌∙◌, Bool, Err, Option, Some, ap, chars, sym}
use Rattle.std.proofs.lemmas.Result.{err_from_is_err_and}
use Rattle.ini.specs.Texts.{Text}
use Rattle.ini_edit.specs.Sources.{document_in}
use Rattle.ini_dialect.specs.Lookups.{name_fits}
use Rattle.ini_dialect.specs.SectionEdits.{AreEachMade}
use Rattle.ini_dialect.proofs.SectionEditLemmas.{first_none, none_seen, plain_refused, renamed_seen}
use Rattle.ini_dialect.proofs.SectionEditLemmas.{renames_there, some_seen}
use Rattle.ini_dialect.proofs.rule.CaseRule.rename_first_section.Goals as goal

pub returns-in_default-clause-found : goal.returns-in_default-clause-found
returns-in_default-clause-found c =
    sym (none_seen (λ n. name_fits c.args.self (Some (chars c.args.old.now)) n) c.args.source.now.sections
    (rw (c.in_default.is, c.sections.ensures) at c.in_ok-first.ensures))

pub returns-in_default-clause-renamed : goal.returns-in_default-clause-renamed
returns-in_default-clause-renamed c =
    AreEachMade.none_left (rw (c.in_default.is, c.sections.ensures) at c.in_ok-first.ensures)

pub returns-in_default-clause-document : goal.returns-in_default-clause-document
returns-in_default-clause-document c =
    let fits : Option Text → Bool = λ n. name_fits c.args.self (Some (chars c.args.old.now)) n in
    sym (first_none fits (Some (chars c.args.new.now)) (document_in c.args.source.now)
    (none_seen fits c.args.source.now.sections
    (rw (c.in_default.is, c.sections.ensures) at c.in_ok-first.ensures)))

pub returns-in_err-rename_section-clause-only : goal.returns-in_err-rename_section-clause-only
returns-in_err-rename_section-clause-only c =
    let r = c.from_residual-in_err-rename_section in
    let e = err_from_is_err_and r.result r.ensures.1 in
    let refused = c.in_err-rename_section.ensures in
    rw (e.1, e.2)
    (plain_refused c.in_err-rename_section.field-0.0 refused.only
    (λ is. refused.name.0 (ap Err is) c.requires.plain))

pub returns-clause-found : goal.returns-clause-found
returns-clause-found c =
    sym (some_seen (λ n. name_fits c.args.self (Some (chars c.args.old.now)) n) c.args.source.now.sections
    (rw (c.in-Some.is, c.sections.ensures) at c.in_ok-first.ensures))

pub returns-clause-renamed : goal.returns-clause-renamed
returns-clause-renamed c =
    let fits : Option Text → Bool = λ n. name_fits c.args.self (Some (chars c.args.old.now)) n in
    AreEachMade.first_alone (rw (c.in-Some.is, c.sections.ensures) at c.in_ok-first.ensures)
    (renames_there fits c.in_ok-rename_section.field-0
    (rw (c.in-Some.is, c.sections.ensures) at c.in_ok-first.ensures)
    (rw c.as_str.ensures.value at c.in_ok-rename_section.ensures.renamed))

pub returns-clause-document : goal.returns-clause-document
returns-clause-document c =
    let fits : Option Text → Bool = λ n. name_fits c.args.self (Some (chars c.args.old.now)) n in
    (renames_there fits c.in_ok-rename_section.field-0
    (rw (c.in-Some.is, c.sections.ensures) at c.in_ok-first.ensures)
    (rw c.as_str.ensures.value at c.in_ok-rename_section.ensures.renamed)).document
    ∙ renamed_seen fits c.args.source.now.sections (chars c.args.new.now)
    (rw (c.in-Some.is, c.sections.ensures) at c.in_ok-first.ensures)
