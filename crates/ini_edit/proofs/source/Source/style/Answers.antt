use Rattle.std.proofs.Common.{◌≡◌, ◌∙◌, None, Some, ap, arith, get_or, length, sym}
use Rattle.std.specs.Option.{option_or}
use Rattle.ini_edit.specs.Inside.SourceEnds.{style_in, style_of}
use Rattle.ini_edit.proofs.NewStyleLemmas.{style_found, style_in_front, style_one_more}
use Rattle.ini_edit.proofs.source.Source.style.Goals as goal

pub returns-in-Some-style_in : goal.returns-in-Some-style_in
returns-in-Some-style_in c =
    let o = c.args.self.now.option in
    let ss = c.args.self.now.sections in
    let same = ap (λ v. v.sections) c.self.view_is in
    let before = c.in-Some-checked_sub.before in
    let here = c.index.result.now in
    let more = style_one_more o ss c.in-Some-checked_sub.ensures c.sections.invariant.within
    (c.index.ensures ∙ ap (λ l. get_or l before here) same) in
    let found : Some (style_of c.in-Some-style_in.style) ≡ style_in o ss before (length here.pairs) =
    c.in-Some-style_in.ensures
    ∙ ap (λ v. style_in v.option ss before (length c.pairs-pairs.result.now)) c.self.view_is
    ∙ ap (λ l. style_in o ss before (length l)) c.pairs-pairs.ensures in
    style_found o c.args.write.now ss c.args.section c.args.index
    (c.in_default.ensures ∙ ap (λ v. style_in v.option ss c.args.section c.args.index) c.self.view_is)
    (sym c.sections.invariant.same ∙ more
    ∙ ap (λ a. option_or a (style_in_front o ss before)) (sym found))

pub sections-preserved : goal.sections-preserved
sections-preserved c =
    let o = c.args.self.now.option in
    let ss = c.args.self.now.sections in
    let same = ap (λ v. v.sections) c.self.view_is in
    let before = c.in-Some-checked_sub.before in
    let here = c.index.result.now in
    let more = style_one_more o ss c.in-Some-checked_sub.ensures c.sections.invariant.within
    (c.index.ensures ∙ ap (λ l. get_or l before here) same) in
    let none : None ≡ style_in o ss before (length here.pairs) =
    c.in_default-style_in.ensures
    ∙ ap (λ v. style_in v.option ss before (length c.pairs-pairs.result.now)) c.self.view_is
    ∙ ap (λ l. style_in o ss before (length l)) c.pairs-pairs.ensures in
    record {
      within = omega (arith, c.in-Some-checked_sub.ensures, c.sections.invariant.within);
      same = sym (more ∙ ap (λ a. option_or a (style_in_front o ss before)) (sym none))
          ∙ c.sections.invariant.same;
    }
