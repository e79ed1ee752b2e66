use Rattle.std.proofs.Common.{map}
use Rattle.ini_edit.specs.Editings.{editing_of}
use Rattle.ini_edit.proofs.SourceListLemmas.{none_made}
use Rattle.ini_edit.proofs.source.Source.make_edits.Goals as goal

pub returns-in-Err-clause-refused : goal.returns-in-Err-clause-refused
returns-in-Err-clause-refused c =
    rw (c.refused_at.ensures, c.into.ensures, c.in-Err.ensures.only)
    (none_made c.args.write.now c.args.later (map editing_of c.args.edits.now) c.args.self.now)
