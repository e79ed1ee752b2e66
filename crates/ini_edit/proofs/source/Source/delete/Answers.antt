use Rattle.std.proofs.Common.{◌∙◌, ap, chars}
use Rattle.std.proofs.lemmas.Result.{on_ok_weaker}
use Rattle.ini.specs.Texts.{str_name}
use Rattle.ini_edit.specs.Sources.{document_in}
use Rattle.ini_edit.proofs.DeletedSourceLemmas.{first_document}
use Rattle.ini_edit.proofs.source.Source.delete.Goals as goal

pub returns-clause-document : goal.returns-clause-document
returns-clause-document c =
    let old = c.args.self.now in
    on_ok_weaker c.delete_nth.result
    (λ is. ap document_in is ∙ first_document old.option (str_name c.args.name)
    (chars c.args.key.now) old.sections)
    c.delete_nth.ensures.deleted
