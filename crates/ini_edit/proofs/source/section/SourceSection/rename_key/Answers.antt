use Rattle.std.proofs.Common.{chars, subst}
use Rattle.ini.specs.Texts.{is_text}
use Rattle.ini_edit.specs.Inside.SourceSteps.{IsFirstAt}
use Rattle.ini_edit.proofs.SourceRenameLemmas.{key_put}
use Rattle.ini_edit.proofs.source.section.SourceSection.rename_key.Goals as goal

pub returns-clause-renamed : goal.returns-clause-renamed
returns-clause-renamed c =
    let key = chars c.args.old.now in
    key_put key c.self.view_is
    (subst (λ l. IsFirstAt (λ p. is_text key p.key) l c.in-Some.index) c.deref.ensures.value
    c.in-Some.ensures)
    c.index_mut.ensures.value c.in_ok-rename.ensures.renamed
