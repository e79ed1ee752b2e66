use Rattle.std.proofs.Common.{◌<◌, sym, ◌∙◌, ap, arith, length}
use Rattle.ini_multimap.specs.Inside.Fits.{value_in}
use Rattle.ini_multimap.proofs.SlotLemmas.{value_read}
use Rattle.ini_multimap.proofs.slots.Slots.value.Goals as goal

pub returns : goal.returns
returns g c =
    let vs = c.self.inside.values.items in
    let within : c.args.s < length vs =
    omega (arith, c.requires, ap (λ d. length d.keys) c.self.view_is, c.self.invariant.long) in
    c.as_ref.ensures.value ∙ sym (value_read vs c.args.s c.index.result.now within c.index.ensures)
    ∙ ap (λ d. value_in d.values c.args.s) c.self.view_is
