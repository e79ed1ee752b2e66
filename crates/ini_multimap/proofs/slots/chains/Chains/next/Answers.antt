use Rattle.std.proofs.Common.{sym, ◌∙◌}
use Rattle.ini_multimap.proofs.LinkLemmas.{next_read}
use Rattle.ini_multimap.proofs.slots.chains.Chains.next.Goals as goal

pub returns-in-Some : goal.returns-in-Some
returns-in-Some c = sym (next_read c.args.self.now.links.items c.args.s c.index.result.now c.requires
    c.index.ensures ∙ sym c.slot_of.ensures ∙ c.in-Some.is)

pub returns-in-None : goal.returns-in-None
returns-in-None c = sym (next_read c.args.self.now.links.items c.args.s c.index.result.now c.requires
    c.index.ensures ∙ sym c.slot_of.ensures ∙ c.in-None.is)
