use Rattle.std.proofs.Common.{◌-◌, ◌∙◌, ap, drop, length, take}
use Rattle.ini_multimap.specs.Slots.{pairs_in, pairs_of}
use Rattle.ini_multimap.proofs.LeadingLemmas.{pairs_from}
use Rattle.ini_multimap.proofs.slots.Slots.columns.Goals as goal

pub returns-clause-pairs : goal.returns-clause-pairs
returns-clause-pairs g c =
    let m = c.self.inside in
    let n = m.leading in
    let ks = c.as_slice.ensures.value in
    let vs = c.as_slice-2.ensures.value in
    (λ j. pairs_in (take (length (ks j) - n) (drop n (ks j))) (take (length (vs j) - n) (drop n (vs j))))
    ∙ pairs_from m.keys.items m.values.items n c.self.invariant.leads
    ∙ ap pairs_of c.self.view_is
