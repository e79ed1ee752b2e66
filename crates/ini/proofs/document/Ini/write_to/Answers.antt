use Rattle.ini.proofs.WritingLemmas.{same_written}
use Rattle.ini.proofs.document.Ini.write_to.Goals as goal

pub returns-clause-front : goal.returns-clause-front
returns-clause-front g c =
    λ w is. rw (same_written c.args.self.now _ w c.default.ensures is) at c.write_to_opt.ensures.front
