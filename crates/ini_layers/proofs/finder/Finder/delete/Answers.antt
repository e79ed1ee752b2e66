use Rattle.std.proofs.Common.{◌∙◌, ap, chars, sym}
use Rattle.ini.specs.Edits.{delete_in}
use Rattle.ini.specs.Texts.{str_name}
use Rattle.ini_edit.specs.Sources.{document_in}
use Rattle.ini_dialect.specs.Rules.{default_lookup}
use Rattle.ini_dialect.specs.SourceLookups.{AreDeletedUnder}
use Rattle.ini_dialect.proofs.DeletedUnderLemmas.{deleted_end, none_first}
use Rattle.ini_layers.proofs.FindingLemmas.{is-there, none_under, only-deleted, only-document, only-noted}
use Rattle.ini_layers.proofs.finder.Finder.delete.Goals as goal

pub returns-in-Nothing-clause-deleted : goal.returns-in-Nothing-clause-deleted
returns-in-Nothing-clause-deleted c =
    let name = str_name c.args.name in
    let key = chars c.args.key.now in
    AreDeletedUnder.none_left (none_first default_lookup name key (document_in c.args.source.now)
    (none_under name key c.args.source.now.sections c.in-Nothing.ensures.found))

pub returns-in-Nothing-clause-document : goal.returns-in-Nothing-clause-document
returns-in-Nothing-clause-document c =
    let name = str_name c.args.name in
    let key = chars c.args.key.now in
    sym (deleted_end default_lookup name key (document_in c.args.source.now)
    (none_under name key c.args.source.now.sections c.in-Nothing.ensures.found))

pub returns-in_ok-delete_at-in-Only-clause-deleted :
    goal.returns-in_ok-delete_at-in-Only-clause-deleted
returns-in_ok-delete_at-in-Only-clause-deleted c =
    let out = c.in_ok-delete_at-in-Only in
    only-deleted c.in-Only.ensures.found out.ensures.deleted
    (out.ensures.document (out.ensures.found ∙ is-there c.in-Only.ensures.found))

pub returns-in_ok-delete_at-in-Only-clause-document :
    goal.returns-in_ok-delete_at-in-Only-clause-document
returns-in_ok-delete_at-in-Only-clause-document c =
    let out = c.in_ok-delete_at-in-Only in
    only-document c.in-Only.ensures.found out.ensures.deleted
    (out.ensures.document (out.ensures.found ∙ is-there c.in-Only.ensures.found))

pub returns-in_ok-delete_at-in-Only-clause-kept : goal.returns-in_ok-delete_at-in-Only-clause-kept
returns-in_ok-delete_at-in-Only-clause-kept c =
    let out = c.in_ok-delete_at-in-Only in
    c.delete_from.ensures.deleted
    ∙ ap (delete_in (str_name c.args.name) (chars c.args.key.now)) (c.find.ensures.kept ∙ c.requires.document)
    ∙ only-noted c.in-Only.ensures.found out.ensures.deleted
    (out.ensures.document (out.ensures.found ∙ is-there c.in-Only.ensures.found))
