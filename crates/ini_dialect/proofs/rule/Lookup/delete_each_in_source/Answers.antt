use Rattle.std.proofs.Common.{◌<◌, chars, subst, sym}
use Rattle.ini.specs.Texts.{str_name}
use Rattle.ini_edit.specs.Sources.{document_in}
use Rattle.ini_dialect.specs.SourceLookups.{by_first}
use Rattle.ini_dialect.proofs.DeletedUnderLemmas.{fewer_pairs, pairs_count, so_far_deleted, so_far_document}
use Rattle.ini_dialect.proofs.DeletedUnderLemmas.{so_far_found, so_far_more, so_far_none}
use Rattle.ini_dialect.proofs.PutUnderLemmas.{deletes_there}
use Rattle.ini_dialect.proofs.rule.Lookup.delete_each_in_source.Goals as goal

pub pairs-init : goal.pairs-init
pairs-init c = so_far_none c.args.self (str_name c.args.name) (chars c.args.key.now) c.args.source.now

pub pairs-preserved : goal.pairs-preserved
pairs-preserved c =
    let name = str_name c.args.name in
    let key = chars c.args.key.now in
    so_far_more c.args.self name key c.pairs.invariant c.in-Some.ensures.found
    c.in_ok-delete_at.ensures.deleted
    (deletes_there (by_first c.args.self) name key c.pairs.source.sections
    c.in-Some.ensures.found c.in_ok-delete_at.ensures.found c.in_ok-delete_at.ensures.document)

pub pairs-smaller : goal.pairs-smaller
pairs-smaller c =
    let name = str_name c.args.name in
    let key = chars c.args.key.now in
    subst (λ d. pairs_count d < pairs_count (document_in c.pairs.source))
    (sym (deletes_there (by_first c.args.self) name key c.pairs.source.sections
    c.in-Some.ensures.found c.in_ok-delete_at.ensures.found c.in_ok-delete_at.ensures.document))
    (fewer_pairs c.args.self name key c.in-Some.ensures.found)

pub returns-clause-found : goal.returns-clause-found
returns-clause-found c =
    so_far_found c.args.self (str_name c.args.name) (chars c.args.key.now) c.pairs.invariant
    c.in_default.ensures.none

pub returns-clause-deleted : goal.returns-clause-deleted
returns-clause-deleted c =
    so_far_deleted c.args.self (str_name c.args.name) (chars c.args.key.now) c.pairs.invariant
    c.in_default.ensures.none

pub returns-clause-document : goal.returns-clause-document
returns-clause-document c =
    so_far_document c.args.self (str_name c.args.name) (chars c.args.key.now) c.pairs.invariant
    c.in_default.ensures.none
