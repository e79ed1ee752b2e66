use Rattle.ini_edit.proofs.SourceIndexLemmas.{key_put_at}
use Rattle.ini_edit.proofs.source.section.SourceSection.rename_at.Goals as goal

pub returns-clause-renamed : goal.returns-clause-renamed
returns-clause-renamed c = λ p at.
    key_put_at p c.self.view_is at c.index_mut.ensures.value c.in_ok-rename.ensures.renamed
