use Rattle.std.proofs.Common.{sym, ◌∙◌, ap, Some}
use Rattle.std.specs.Option.{option_map}
use Rattle.ini_multimap.proofs.SlotLemmas.{value_read}
use Rattle.ini_multimap.proofs.slots.anew.code_in.Goals as goal

pub returns-in-Some : goal.returns-in-Some
returns-in-Some g c = ap Some c.code.ensures
    ∙ sym (ap (option_map g.K.MapKey.key_code)
    (value_read c.args.keys.now c.args.s c.index-keys-s.result c.requires c.index-keys-s.is ∙ c.in-Some.is))

pub returns-in-None : goal.returns-in-None
returns-in-None g c = sym
    (ap (option_map g.K.MapKey.key_code)
    (value_read c.args.keys.now c.args.s c.index-keys-s.result c.requires c.index-keys-s.is ∙ c.in-None.is))
