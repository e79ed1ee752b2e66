use Rattle.std.proofs.Common.{◌≡◌, ◌<◌, sym, ◌∙◌, ap, subst, length, Option, Some, IfSome, ℕ}
use Rattle.std.proofs.lemmas.Bool.{OnTrue_from}
use Rattle.ini_multimap.specs.Inside.Fits.{IsKeyOf, value_in}
use Rattle.ini_multimap.proofs.SlotLemmas.{none_is_some, same_some, value_read}
use Rattle.ini_multimap.proofs.slots.chains.is_key_of.Goals as goal

pub returns-in-Some-keys : goal.returns-in-Some-keys
returns-in-Some-keys g c =
    let eq = g.K.PartialEq.eq in
    let ks = c.args.keys.now in
    let key = c.args.key.now in
    let s = c.in-Some.s in
    let P : Option ℕ → Type 0 = λ r. IsKeyOf eq ks r key in
    let Q : Option ℕ → Type 0 = λ r. IfSome r (λ s. s < length ks) in
    let read : value_in ks s ≡ Some c.in-Some-keys.other =
    value_read ks s c.index-keys-s.result (subst Q c.in-Some.is c.requires) c.index-keys-s.is
    ∙ c.in-Some-keys.is in
    OnTrue_from c.eq.result _
    (λ e. subst P (sym c.in-Some.is)
    (λ x f. ap (λ z. eq z key) (same_some (sym f ∙ read)) ∙ sym c.eq.ensures ∙ e))

pub returns-in-None : goal.returns-in-None
returns-in-None g c =
    let ks = c.args.keys.now in
    let s = c.in-Some.s in
    let P : Option ℕ → Type 0 = λ r. IsKeyOf g.K.PartialEq.eq ks r c.args.key.now in
    let Q : Option ℕ → Type 0 = λ r. IfSome r (λ s. s < length ks) in
    let read =
    value_read ks s c.index-keys-s.result (subst Q c.in-Some.is c.requires) c.index-keys-s.is
    ∙ c.in-None.is in
    subst P (sym c.in-Some.is) (λ x f. absurd (none_is_some (sym read ∙ f)))
