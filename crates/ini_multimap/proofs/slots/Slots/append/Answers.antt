use Rattle.std.proofs.Common.{◌≡◌, sym, ◌∙◌, ap, subst, arith, length, length-append, ◌++◌, [], ◌∷◌, List}
use Rattle.std.proofs.Common.{Option, Some}
use Rattle.std.proofs.lemmas.Bool.{OnTrue_at, OnTrue_from}
use Rattle.ini_multimap.specs.Slots.{pairs_in, pairs_of}
use Rattle.std.specs.Bool.{OnTrue}
use Rattle.ini_multimap.specs.Inside.Fits.{IsInjective, holes_in}
use Rattle.ini_multimap.specs.Inside.Chains.{IsIndexed}
use Rattle.ini_multimap.proofs.LeadingLemmas.{leading_push}
use Rattle.ini_multimap.proofs.SlotLemmas.{holes_push, pairs_last}
use Rattle.ini_multimap.proofs.PairedLemmas.{paired_push}
use Rattle.ini_multimap.proofs.TagLemmas.{tagged_push}
use Rattle.ini_multimap.proofs.slots.Slots.append.Goals as goal

pub invariant_of-self-in-Ok : goal.invariant_of-self-in-Ok
invariant_of-self-in-Ok g c =
    let m = c.self.inside in
    let key = Some c.args.key ∷ [] in
    let room = c.make_room.ensures in
    let keys : c.push_reserved.new.self.items ≡ m.keys.items ++ key =
    c.push_reserved.ensures.items ∙ ap (λ l. l ++ key) room.keys in
    let values : c.push_reserved-in-Ok.new.self.items ≡ m.values.items ++ Some c.args.value ∷ [] =
    c.push_reserved-in-Ok.ensures.items ∙ ap (λ l. l ++ Some c.args.value ∷ []) room.values in
    let P : List (Option g.row.K.Denot) → Type 0 =
    λ l. IsIndexed g.K.MapKey.key_code l c.link_last-self-inside.new.index in
    let Q : List (Option g.row.K.Denot) → Type 0 =
    λ l. OnTrue c.link_last-self-inside.result (IsInjective g.K.PartialEq.eq g.K.MapKey.key_code l) in
    record {
      long = omega (
        arith,
        ap length keys,
        ap length values,
        length-append m.keys.items key,
        length-append
            m.values.items (Some c.args.value ∷ []),
        c.self.invariant.long,
      );
      indexed =
          subst P (ap (λ l. l ++ key) c.as_slice-keys.ensures.value ∙ sym c.push_reserved.ensures.items)
          c.link_last-self-inside.ensures.indexed;
      tagged = rw (keys, c.put.ensures, c.as_slice-keys.ensures.value, room.keys)
          (tagged_push g.K.MapKey.key_code m.keys.items m.tags.of c.args.key c.self.invariant.tagged);
      counted = c.self.invariant.counted ∙ sym (holes_push m.keys.items c.args.key) ∙ sym (ap holes_in keys);
      leads = rw keys (leading_push m.keys.items m.leading (Some c.args.key) c.self.invariant.leads);
      paired = OnTrue_from m.is_paired _
          (λ e. rw (keys, values) (paired_push m.keys.items m.values.items c.args.key c.args.value
          c.self.invariant.long (OnTrue_at e c.self.invariant.paired)));
      injective =
          subst Q (ap (λ l. l ++ key) c.as_slice-keys.ensures.value ∙ sym c.push_reserved.ensures.items)
          c.link_last-self-inside.ensures.known;
    }

pub returns-in-Ok-clause-ok : goal.returns-in-Ok-clause-ok
returns-in-Ok-clause-ok g c =
    let m = c.self.inside in
    let room = c.make_room.ensures in
    let keys : c.push_reserved.new.self.items ≡ m.keys.items ++ Some c.args.key ∷ [] =
    c.push_reserved.ensures.items ∙ ap (λ l. l ++ Some c.args.key ∷ []) room.keys in
    let values : c.push_reserved-in-Ok.new.self.items ≡ m.values.items ++ Some c.args.value ∷ [] =
    c.push_reserved-in-Ok.ensures.items ∙ ap (λ l. l ++ Some c.args.value ∷ []) room.values in
    (λ j. pairs_in (keys j) (values j))
    ∙ pairs_last m.keys.items m.values.items (Some c.args.key) (Some c.args.value) c.self.invariant.long
    ∙ ap (λ d. pairs_of d ++ (c.args.key, c.args.value) ∷ []) c.self.view_is
