use Rattle.std.proofs.Common.{◌++◌, ◌∷◌, [], List, Option, None, sym, ◌∙◌, ap, subst, arith, length}
use Rattle.std.proofs.Common.{length-append, nat_eq}
use Rattle.std.specs.HashMap.{get}
use Rattle.ini_multimap.specs.Inside.Fits.{IsInjective, code_at}
use Rattle.ini_multimap.specs.Inside.Chains.{AreChained, IsLinked, next_at, prev_at}
use Rattle.ini_multimap.specs.declared.slots.chains.Chains.{Chains}
use Rattle.ini_multimap.specs.declared.slots.chains.Link.{Link}
use Rattle.ini_multimap.proofs.InjectiveLemmas.{injective_hole}
use Rattle.ini_multimap.proofs.LinkLemmas.{linked_hole}
use Rattle.ini_multimap.proofs.slots.chains.Chains.push_slot.Goals as goal

pub returns-in-None-clause-chained : goal.returns-in-None-clause-chained
returns-in-None-clause-chained g c =
    let code = g.K.MapKey.key_code in
    let ks = c.args.keys.now in
    let all = ks ++ None ∷ [] in
    let old = c.requires.chained in
    let links = c.args.self.now.links.items in
    let l : Link = record { prev = 4294967295; next = 4294967295 } in
    let ends = get nat_eq c.args.self.now.ends in
    let new : Chains = record { links = c.push_reserved.new.self; ends = c.args.self.now.ends } in
    let P : List Link → Type 0 = λ m. IsLinked (length all) (code_at code all) (next_at m) (prev_at m) ends in
    let Q : Option g.row.K.Denot → Type 0 = λ slot. AreChained code (ks ++ slot ∷ []) new in
    subst Q (sym c.in-None.is) (record {
      few = omega (arith, c.requires.room.slot, old.long, length-append ks (None ∷ []));
      long = ap length c.push_reserved.ensures.items
          ∙ omega (arith, length-append links (l ∷ []), old.long, length-append ks (None ∷ []));
      linked =
          subst P (sym c.push_reserved.ensures.items)
          (linked_hole code ks links l ends old.long old.linked);
    })

pub returns-in-None-clause-same : goal.returns-in-None-clause-same
returns-in-None-clause-same g c =
    let eq = g.K.PartialEq.eq in
    let code = g.K.MapKey.key_code in
    let ks = c.args.keys.now in
    let P : Option g.row.K.Denot → Type 0 = λ slot. IsInjective eq code (ks ++ slot ∷ []) in
    λ told. subst P (sym c.in-None.is) (injective_hole eq code ks told)
