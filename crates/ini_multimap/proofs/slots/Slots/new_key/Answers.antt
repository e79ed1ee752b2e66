use Rattle.std.proofs.Common.{[], ◌∷◌, sym, ◌∙◌, ap, take, cond}
use Rattle.ini_multimap.specs.Pairs.{fresh}
use Rattle.ini_multimap.specs.Slots.{pairs_in}
use Rattle.ini_multimap.specs.Inside.Fits.{value_in}
use Rattle.ini_multimap.proofs.PairedLemmas.{any_turned, fresh_pair, no_pair}
use Rattle.ini_multimap.proofs.slots.Slots.new_key.Goals as goal
use Rattle.ini_multimap.proofs.slots.Slots.new_key.Goals.{in_default-via-in-Some+else-not-has_key}
use Rattle.ini_multimap.proofs.slots.Slots.new_key.Goals.{in_default-via-in_default}

pub returns-in-Some : goal.returns-in-Some
returns-in-Some g c =
    let slots = c.args.self.now in
    let key = c.in-Some.key.now in
    let seen = pairs_in (take c.args.at slots.keys) (take c.args.at slots.values) in
    sym (fresh_pair g.K.PartialEq.eq seen (value_in slots.keys c.args.at)
    (value_in slots.values c.args.at) key
    c.in-Some.ensures ∙ ap (λ b. cond b [] (key ∷ [])) (sym (any_turned g.met.K.Eq.laws key seen)
    ∙ sym c.has_key.ensures ∙ c.if-not-has_key.true))

pub returns-in_default : goal.returns-in_default
returns-in_default g c =
    let slots = c.args.self.now in
    let k = value_in slots.keys c.args.at in
    let v = value_in slots.values c.args.at in
    let seen = pairs_in (take c.args.at slots.keys) (take c.args.at slots.values) in
    elim c.in_default.branch [
      | in_default-via-in-Some+else-not-has_key w ↦
          let key = w.in-Some.key.now in
          sym (fresh_pair g.K.PartialEq.eq seen k v key w.in-Some.ensures
          ∙ ap (λ b. cond b [] (key ∷ [])) (sym (any_turned g.met.K.Eq.laws key seen)
          ∙ sym w.has_key.ensures ∙ w.if-not-has_key.false))
      | in_default-via-in_default w ↦
          sym (ap (fresh g.K.PartialEq.eq seen) (no_pair k v w.in_default.ensures))
    ]
