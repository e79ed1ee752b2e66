use Rattle.std.proofs.Common.{subst}
use Rattle.ini_text.specs.Device.Gathering.{SendsBytes}
use Rattle.ini_text.proofs.WriteLemmas.SendLemmas.{Sends-put}
use Rattle.ini_text.proofs.write.gather.Gatherer.put.Goals as goal

pub returns : goal.returns
returns g c =
    Sends-put c.utf8.text (subst (SendsBytes _ _ _ _ _ _) c.as_bytes.ensures.value c.put_bytes.ensures)
