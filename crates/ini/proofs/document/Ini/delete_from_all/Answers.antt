use Rattle.std.proofs.Common.{◌∙◌, ap, sym, chars, slice_get, add-one, arith, length, ◌≤◌}
use Rattle.std.specs.Option.{option_copied_mut}
use Rattle.ini_multimap.specs.Keys.{name_fits}
use Rattle.ini_multimap.specs.Pairs.{set_nth_value, values_at}
use Rattle.ini.specs.Texts.{str_name}
use Rattle.ini.specs.Properties.{removed}
use Rattle.ini.specs.Documents.{sections_of}
use Rattle.ini.specs.Edits.{delete_in_all}
use Rattle.ini.proofs.EverySectionLemmas.{all_edited-sections, edited, edited-all, edited-long, edited-more}
use Rattle.ini.proofs.EverySectionLemmas.{edited-zero}
use Rattle.ini.proofs.document.Ini.delete_from_all.Goals as goal

pub loop-n-init : goal.loop-n-init
loop-n-init c =
    sym (edited-zero (name_fits c.args.name) (removed (chars c.args.key.now)) c.self.inside.sections)

pub loop-n-preserved : goal.loop-n-preserved
loop-n-preserved c =
    let fits = name_fits c.args.name in
    let edit = removed (chars c.args.key.now) in
    let n = c.loop-n.n in
    let one =
    ap (λ ss. slice_get (values_at fits ss) n) (sym c.loop-n.invariant) ∙ sym c.in-Some.ensures.value in
    ap (set_nth_value fits c.loop-n.self-inside.sections n) c.remove.ensures.removed
    ∙ ap (λ ss. set_nth_value fits ss n (edit c.in-Some.section.now)) c.loop-n.invariant
    ∙ edited-more fits edit n c.self.inside.sections c.in-Some.section.now one
    ∙ ap (λ k. edited fits edit k c.self.inside.sections) (sym (add-one n))

pub returns-in_default : goal.returns-in_default
returns-in_default c =
    let fits = name_fits c.args.name in
    let key = chars c.args.key.now in
    let n = c.loop-n.n in
    let none = ap (λ ss. slice_get (values_at fits ss) n) (sym c.loop-n.invariant)
    ∙ sym c.get_nth_mut.ensures.value ∙ ap option_copied_mut c.in_default.is in
    ap sections_of (c.loop-n.invariant ∙ edited-all fits (removed key) n c.self.inside.sections none)
    ∙ all_edited-sections c.args.name key c.self.inside.sections c.name_is_text.ensures
    ∙ ap (delete_in_all (str_name c.args.name) key) c.self.view_is

pub returns : goal.returns
returns c =
    let fits = name_fits c.args.name in
    let key = chars c.args.key.now in
    let long : length c.self.inside.sections ≤ c.loop-n.n = omega arith in
    ap sections_of
    (c.loop-n.invariant ∙ edited-long fits (removed key) c.loop-n.n c.self.inside.sections long)
    ∙ all_edited-sections c.args.name key c.self.inside.sections c.name_is_text.ensures
    ∙ ap (delete_in_all (str_name c.args.name) key) c.self.view_is
