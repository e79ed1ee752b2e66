use Rattle.std.proofs.Common.{◌≡◌, ◌∙◌, ◌++◌, Some, ap, append_assoc, get_or, subst, sym, take}
use Rattle.std.specs.Option.{option_map}
use Rattle.ini_edit.specs.Inside.SourceElementWalks.{passed}
use Rattle.ini_edit.specs.Inside.SourceEnds.{IsPlaceAt}
use Rattle.ini_edit.specs.SourceElements.{position_of, text_before_value, up_to_value}
use Rattle.ini_edit.specs.SourcePlaces.{text_up_to}
use Rattle.ini_edit.specs.Sources.{sections_text}
use Rattle.ini_edit.proofs.SourceElementLemmas.{passed-position}
use Rattle.ini_edit.proofs.SourcePlaceLemmas.{place_read, place_take}
use Rattle.ini_edit.proofs.source.Source.position_of_value.Goals as goal

pub returns : goal.returns
returns c =
    let at = c.in_ok-section.ensures in
    let i = c.in_ok-section.section in
    let j = c.in_ok-section.pair in
    let ss = c.args.self.now.sections in
    let there = at.place in
    let s = c.index-here.result.now in
    let x = c.index-pairs-pair.result in
    let same = ap (λ v. v.sections) c.self.view_is in
    let s_is = place_read at.section (c.index-here.ensures ∙ ap (λ l. get_or l i s) same) in
    let within = subst (λ t. IsPlaceAt t.pairs there.pair j) (sym s_is) at.pair in
    let x_is =
    place_read within (subst (λ l. x ≡ get_or l j x) c.pairs-pairs.ensures c.index-pairs-pair.is) in
    let front = sections_text (take i ss) in
    let own = text_up_to s (take j s.pairs) in
    let key = up_to_value x.stretches in
    ap Some (c.value_of_pair.ensures
    ∙ ap (λ q. passed q key) (c.end_of_pairs.ensures
    ∙ ap (λ q. passed q own) c.end_of_sections-position.ensures ∙ passed-position front own)
    ∙ passed-position (front ++ own) key
    ∙ ap position_of (append_assoc front own key
    ∙ ap (λ l. sections_text l ++ (own ++ key)) (place_take at.section)
    ∙ ap (λ l. sections_text there.section.before ++ (text_up_to s l ++ key)) (place_take within)
    ∙ ap (λ t. sections_text there.section.before ++ (text_up_to t there.pair.before ++ key)) s_is
    ∙ ap (λ y. sections_text there.section.before
    ++ (text_up_to there.section.here there.pair.before ++ up_to_value y.stretches)) x_is))
    ∙ sym (ap (option_map (λ p. position_of (text_before_value p))) at.is)
