use Rattle.ini_edit.proofs.SourcePartLemmas.{end_put_in}
use Rattle.ini_edit.proofs.source.section.SourceSection.put_new_end.Goals as goal

pub returns-in-Some : goal.returns-in-Some
returns-in-Some c =
    end_put_in c.args.end c.self.view_is c.in-Some.ensures c.requires c.index_mut.ensures.value
    c.put_new_end.ensures
