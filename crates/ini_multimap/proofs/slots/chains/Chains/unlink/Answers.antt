use Rattle.std.proofs.Common.{◌<◌, ℕ, suc, Option, None, IfSome, sym, ◌∙◌, subst, arith, length, nat_eq}
use Rattle.std.specs.HashMap.{get}
use Rattle.std.proofs.Math.ListN.{length-set}
use Rattle.ini_multimap.specs.Inside.Fits.{code_at}
use Rattle.ini_multimap.specs.Inside.Chains.{next_at, prev_at}
use Rattle.ini_multimap.proofs.LinkLemmas.{prev_within, next_within, ends_there, prev_read, next_read}
use Rattle.ini_multimap.proofs.LinkLemmas.{linked_without}
use Rattle.ini_multimap.proofs.slots.chains.Chains.unlink.Goals as goal

pub link_after-requires-clause-within : goal.link_after-requires-clause-within
link_after-requires-clause-within g c =
    let at = code_at g.K.MapKey.key_code c.args.keys.now in
    let links = c.args.self.now.links.items in
    let s = c.args.s in
    let linked = c.requires.chained.linked in
    let within : s < length links =
    omega (arith, linked.within s c.args.code c.requires.here, c.requires.chained.long) in
    let W : Option ℕ → Type 0 = λ r. IfSome r (λ t. t < length links) in
    subst W (prev_read links s c.index-link.result.now within c.index-link.ensures
    ∙ sym c.slot_of-prev.ensures)
    (prev_within at c.args.code s (length links) (prev_at links s)
    (linked.prevs s c.args.code c.requires.here) (omega (arith, within)))

pub link_before-requires-clause-within : goal.link_before-requires-clause-within
link_before-requires-clause-within g c =
    let at = code_at g.K.MapKey.key_code c.args.keys.now in
    let links = c.args.self.now.links.items in
    let mid = c.link_after.new.links.items in
    let s = c.args.s in
    let linked = c.requires.chained.linked in
    let within : s < length links =
    omega (arith, linked.within s c.args.code c.requires.here, c.requires.chained.long) in
    let W : Option ℕ → Type 0 = λ r. IfSome r (λ t. t < length mid) in
    subst W (next_read links s c.index-link.result.now within c.index-link.ensures
    ∙ sym c.slot_of-next.ensures)
    (next_within at c.args.code (suc s) (length mid) (next_at links s)
    (linked.nexts s c.args.code c.requires.here)
    (λ k e. omega (
      arith,
      linked.within k c.args.code e,
      c.requires.chained.long,
      c.link_after.ensures.links.long,
    )))

pub close_ends-requires : goal.close_ends-requires
close_ends-requires g c = ends_there (code_at g.K.MapKey.key_code c.args.keys.now) c.args.code c.args.s
    (get nat_eq c.args.self.now.ends c.args.code) (c.requires.chained.linked.firsts c.args.code)
    c.requires.here

pub returns : goal.returns
returns g c =
    let code = g.K.MapKey.key_code in
    let ks = c.args.keys.now in
    let links = c.args.self.now.links.items in
    let s = c.args.s in
    let chained = c.requires.chained in
    let within : s < length links =
    omega (arith, chained.linked.within s c.args.code c.requires.here, chained.long) in
    record {
      few = omega (arith, chained.few, length-set ks s None);
      long =
          c.link_before.ensures.long ∙ c.link_after.ensures.links.long ∙ chained.long
          ∙ sym (length-set ks s None);
      linked =
          linked_without code ks links c.link_after.new.links.items c.link_before.new.links.items s
          c.args.code (get nat_eq c.args.self.now.ends) (get nat_eq c.close_ends.new.ends)
          c.slot_of-prev.result c.slot_of-next.result
          chained.linked c.requires.here
          (prev_read links s c.index-link.result.now within c.index-link.ensures
          ∙ sym c.slot_of-prev.ensures)
          (next_read links s c.index-link.result.now within c.index-link.ensures
          ∙ sym c.slot_of-next.ensures)
          c.link_after.ensures.links c.link_before.ensures c.close_ends.ensures;
    }
