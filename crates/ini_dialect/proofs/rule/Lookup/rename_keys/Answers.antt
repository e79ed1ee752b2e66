use Rattle.std.proofs.Common.{◌==◌, ◌∙◌, ap, chars, length, not, subst}
use Rattle.ini.specs.Texts.{str_name}
use Rattle.ini_edit.specs.Sources.{document_in}
use Rattle.ini_dialect.specs.Inside.{renamed_at}
use Rattle.ini_dialect.specs.KeyEdits.{AreKeysRenamed}
use Rattle.ini_dialect.proofs.KeyEditLemmas.{found_under, renamed_whole}
use Rattle.ini_dialect.proofs.rule.Lookup.rename_keys.Goals as goal

pub returns-clause-found : goal.returns-clause-found
returns-clause-found c =
    ap not c.is_empty.ensures
    ∙ ap (λ l. not (length l == 0)) (c.as_slice-numbers.ensures.value ∙ c.in_ok-found.ensures)
    ∙ found_under c.args.self (str_name c.args.name) (chars c.args.old.now) (document_in c.args.source.now)

pub returns-clause-renamed : goal.returns-clause-renamed
returns-clause-renamed c =
    subst (λ l. AreKeysRenamed c.args.policy (chars c.args.new.now) l c.args.source.now
    c.rename_each.new.source)
    (c.as_slice-numbers.ensures.value ∙ c.in_ok-found.ensures) c.in_ok-rename_each.ensures.renamed

pub returns-clause-document : goal.returns-clause-document
returns-clause-document c =
    let old = document_in c.args.source.now in
    let new = chars c.args.new.now in
    c.in_ok-rename_each.ensures.document
    ∙ ap (λ l. renamed_at new l old) (c.as_slice-numbers.ensures.value ∙ c.in_ok-found.ensures)
    ∙ renamed_whole c.args.self (str_name c.args.name) (chars c.args.old.now) new old
