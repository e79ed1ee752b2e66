use Rattle.std.proofs.Common.{◌≡◌, ◌<◌, Some, IsSome, is_some, sym, ◌∙◌, ap, arith, length, true≢false}
use Rattle.std.proofs.lemmas.Bool.{OnTrue_at}
use Rattle.ini_multimap.specs.Inside.Fits.{pair_key, value_in}
use Rattle.ini_multimap.proofs.SlotLemmas.{value_read}
use Rattle.ini_multimap.proofs.PairedLemmas.{paired_value, pair_is, no_key, no_value_there}
use Rattle.ini_multimap.proofs.slots.Slots.paired_key.Goals as goal
use Rattle.ini_multimap.proofs.slots.Slots.paired_key.Goals.{in_default-via-in-Some+else-is_some, then-self}
use Rattle.ini_multimap.proofs.slots.Slots.paired_key.Goals.{else-self, in_default-via-in_default}

pub returns-in-Some : goal.returns-in-Some
returns-in-Some g c =
    let m = c.self.inside in
    let ks = m.keys.items in
    let vs = m.values.items in
    let at = c.args.at in
    let within : at < length ks = omega (arith, c.requires, ap (λ d. length d.keys) c.self.view_is) in
    let here : value_in ks at ≡ Some c.in-Some.key =
    value_read ks at c.index.result.now within c.index.ensures ∙ c.in-Some.is in
    let there : IsSome (value_in vs at) = elim c.if-self.branch [
      | then-self w ↦ paired_value ks vs at c.self.invariant.long
          (OnTrue_at {b = m.is_paired} w.if-self.true c.self.invariant.paired) (ap is_some here)
      | else-self w ↦ ap is_some (value_read vs at w.index-else-self.result.now
          (omega (arith, within, c.self.invariant.long)) w.index-else-self.ensures) ∙ sym w.is_some.ensures
          ∙ sym w.value-is ∙ c.if-is_some.true
    ] in
    pair_is (value_in ks at) (value_in vs at) c.in-Some.key here there
    ∙ ap (λ d. pair_key (value_in d.keys at) (value_in d.values at)) c.self.view_is

pub returns-in_default : goal.returns-in_default
returns-in_default g c =
    let m = c.self.inside in
    let ks = m.keys.items in
    let vs = m.values.items in
    let at = c.args.at in
    let within : at < length ks = omega (arith, c.requires, ap (λ d. length d.keys) c.self.view_is) in
    let seen = ap (λ d. pair_key (value_in d.keys at) (value_in d.values at)) c.self.view_is in
    elim c.in_default.branch [
      | in_default-via-in-Some+else-is_some w ↦ elim w.if-self.branch [
        | then-self v ↦ absurd (true≢false (sym v.if-self.true ∙ sym v.value-is ∙ w.if-is_some.false))
        | else-self v ↦ no_value_there (value_in ks at) (value_in vs at)
            (ap is_some (value_read vs at v.index-else-self.result.now
            (omega (arith, within, c.self.invariant.long)) v.index-else-self.ensures) ∙ sym v.is_some.ensures
            ∙ sym v.value-is ∙ w.if-is_some.false) ∙ seen
      ]
      | in_default-via-in_default w ↦
          no_key (value_in ks at) (value_in vs at)
          (value_read ks at c.index.result.now within c.index.ensures ∙ w.in_default.is) ∙ seen
    ]
