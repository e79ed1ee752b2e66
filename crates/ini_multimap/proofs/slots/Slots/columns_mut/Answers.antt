use Rattle.std.proofs.Common.{◌-◌, ◌∙◌, sym, ap, drop, length, take}
use Rattle.ini_multimap.specs.Slots.{pairs_in, pairs_of}
use Rattle.ini_multimap.proofs.LeadingLemmas.{length-from, pairs_from}
use Rattle.ini_multimap.proofs.slots.Slots.columns_mut.Goals as goal

pub returns : goal.returns
returns g c =
    let m = c.self.inside in
    let n = m.leading in
    let ks = c.as_slice.ensures.value in
    let vs = c.as_mut_slice.ensures.value in
    record {
      long = length-from c.as_mut_slice.result.now n ∙ (λ j. length (vs j) - n)
          ∙ ap (λ l. l - n) c.self.invariant.long ∙ (λ j. length (sym ks j) - n)
          ∙ sym (length-from c.as_slice.result.now n);
      pairs = (λ j.
          pairs_in (take (length (ks j) - n) (drop n (ks j))) (take (length (vs j) - n) (drop n (vs j))))
          ∙ pairs_from m.keys.items m.values.items n c.self.invariant.leads
          ∙ ap pairs_of c.self.view_is;
    }
