use Rattle.std.proofs.Common.{subst}
use Rattle.ini_text.specs.Device.Gathering.{SendsBytes}
use Rattle.ini_text.proofs.WriteLemmas.MarkedByteLemmas.{marked-basics, marked-reserved}
use Rattle.ini_text.proofs.WriteLemmas.SendLemmas.{Sends-escaped}
use Rattle.ini_text.proofs.write.gather.Gatherer.put_escaped.Goals as goal

pub returns-in-Basics : goal.returns-in-Basics
returns-in-Basics g c =
    Sends-escaped c.args.policy c.utf8.text (subst (SendsBytes _ _ _ _ _ _)
    (marked-basics c.as_bytes.ensures.value c.utf8.text c.in-Basics.is) c.put_marked.ensures)

pub returns-in-Reserved : goal.returns-in-Reserved
returns-in-Reserved g c =
    Sends-escaped c.args.policy c.utf8.text (subst (SendsBytes _ _ _ _ _ _)
    (marked-reserved c.as_bytes-in-Reserved.ensures.value c.utf8.text c.in-Reserved.is)
    c.put_marked-in-Reserved.ensures)

pub returns-in_default : goal.returns-in_default
returns-in_default g c = Sends-escaped c.args.policy c.utf8.text c.put_runs.ensures
