use Rattle.ini.proofs.WritingLemmas.{same_written}
use Rattle.ini.proofs.document.Ini.write_to_file.Goals as goal

pub returns-clause-bytes : goal.returns-clause-bytes
returns-clause-bytes g c =
    λ w is. rw (same_written c.args.self.now _ w c.default.ensures is) at c.write_to_file_opt.ensures.bytes
