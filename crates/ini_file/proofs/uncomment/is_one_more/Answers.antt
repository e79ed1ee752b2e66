use Rattle.std.proofs.Common.{◌∙◌, ap, chars, map}
use Rattle.ini.specs.Texts.{str_name}
use Rattle.ini_edit.specs.Sources.{document_in, given_section}
use Rattle.ini_dialect.proofs.PutUnderLemmas.{deletes_there}
use Rattle.ini_file.specs.Uncomment.{IsOneMore, is_document}
use Rattle.ini_file.proofs.UncommentLemmas.{decides_same}
use Rattle.ini_file.proofs.uncomment.is_one_more.Goals as goal

pub returns-in-Err-Parse-clause-more : goal.returns-in-Err-Parse-clause-more
returns-in-Err-Parse-clause-more c =
    IsOneMore.is_refused (rw c.in-Err-Parse.field-0-is at c.in-Err-Parse.ensures.fault)

pub returns-in_default-clause-more : goal.returns-in_default-clause-more
returns-in_default-clause-more c = IsOneMore.lacks_it c.in-Ok.ensures.document c.in_default.ensures.none

pub returns-clause-more : goal.returns-clause-more
returns-clause-more c =
    let gone =
    deletes_there c.args.rule (str_name c.args.name) (chars c.args.key.now) c.in-Ok.more.sections
    c.in-Some.ensures.found c.in_ok-delete_at.ensures.found c.in_ok-delete_at.ensures.document in
    let same = c.is_document.ensures
    ∙ ap (λ ss. is_document (map given_section ss) (map given_section c.sections-2.result.now))
    c.sections.ensures
    ∙ ap (λ ss. is_document (document_in c.delete_at.new.self) (map given_section ss)) c.sections-2.ensures
    ∙ ap (λ d. is_document d (document_in c.args.source.now)) gone in
    IsOneMore.is_read c.in-Ok.ensures.document c.in-Some.ensures.found
    (decides_same _ (document_in c.args.source.now) same)
