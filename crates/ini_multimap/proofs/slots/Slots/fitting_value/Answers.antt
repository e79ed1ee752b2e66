use Rattle.std.proofs.Common.{◌<◌, sym, ◌∙◌, ap, arith, length}
use Rattle.ini_multimap.specs.Inside.Fits.{fit, fits_at, value_in}
use Rattle.ini_multimap.proofs.SlotLemmas.{fit_other, fit_there, fits_read, lent_value, value_read}
use Rattle.ini_multimap.proofs.slots.Slots.fitting_value.Goals as goal
use Rattle.ini_multimap.proofs.slots.Slots.fitting_value.Goals.{in_default-via-in-Some+else-is}
use Rattle.ini_multimap.proofs.slots.Slots.fitting_value.Goals.{in_default-via-in_default}

pub returns-in-Some-clause-fits : goal.returns-in-Some-clause-fits
returns-in-Some-clause-fits g c =
    let m = c.self.inside in
    let test = g.Q.Probe.fits c.args.q in
    let value = c.index-value.result.now in
    let read = fits_read test m.keys.items m.values.items c.args.s c.index.result.now value
    (omega (arith, c.requires, ap (λ d. length d.keys) c.self.view_is)) c.self.invariant.long c.index.ensures
    c.index-value.ensures ∙ (λ j. fit test (c.in-Some.is j) value)
    ∙ fit_there test c.in-Some.key value c.if-is.ensures in
    c.as_ref.ensures.variant ∙ sym read ∙ ap (λ d. fits_at test d.keys d.values c.args.s) c.self.view_is

pub returns-in-Some-clause-value : goal.returns-in-Some-clause-value
returns-in-Some-clause-value g c =
    let vs = c.self.inside.values.items in
    let within : c.args.s < length vs =
    omega (arith, c.requires, ap (λ d. length d.keys) c.self.view_is, c.self.invariant.long) in
    lent_value c.as_ref.result (value_in c.args.self.now.values c.args.s)
    (c.as_ref.ensures.value
    ∙ sym (value_read vs c.args.s c.index-value.result.now within c.index-value.ensures)
    ∙ ap (λ d. value_in d.values c.args.s) c.self.view_is)

pub returns-in_default-clause-fits : goal.returns-in_default-clause-fits
returns-in_default-clause-fits g c =
    let m = c.self.inside in
    let test = g.Q.Probe.fits c.args.q in
    let value = c.index-value.result.now in
    let read = fits_read test m.keys.items m.values.items c.args.s c.index.result.now value
    (omega (arith, c.requires, ap (λ d. length d.keys) c.self.view_is)) c.self.invariant.long c.index.ensures
    c.index-value.ensures in
    let seen = ap (λ d. fits_at test d.keys d.values c.args.s) c.self.view_is in
    elim c.in_default.branch [
      | in_default-via-in-Some+else-is w ↦
          sym (read ∙ (λ j. fit test (w.in-Some.is j) value)
          ∙ fit_other test w.in-Some.key value w.if-is.ensures) ∙ seen
      | in_default-via-in_default w ↦ sym (read ∙ (λ j. fit test (w.in_default.is j) value)) ∙ seen
    ]
