use Rattle.std.proofs.Common.{rules}
use Rattle.ini_file.proofs.RefusedLemmas.{no_text_by, no_text_further}
use Rattle.ini_file.proofs.run.run.Goals as goal

pub returns-in-Err-made : goal.returns-in-Err-made
returns-in-Err-made c = search (rules, no_text_by, no_text_further)
