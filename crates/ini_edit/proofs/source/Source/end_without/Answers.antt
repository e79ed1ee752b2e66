use Rattle.std.proofs.Common.{◌≡◌, ◌≢◌, ◌∙◌, ◌+◌, ◌==◌, [], ap, arith, chars, get_or, length, set, subst}
use Rattle.std.proofs.lemmas.Result.{IfOk-weaker}
use Rattle.std.specs.List.{remove}
use Rattle.ini_edit.specs.Inside.SourceEnds.{IsPlaceAt, end_put_last}
use Rattle.ini_edit.specs.SourceEditsSections.{section_deleted_at, section_rest, with_rest_of_next}
use Rattle.ini_edit.specs.SourcePlaces.{Place, last_before_gap, last_gap}
use Rattle.ini_edit.specs.Sources.{SectionPiece}
use Rattle.ini_edit.specs.declared.source.pair.ends.NewEnd.{NewEnd}
use Rattle.ini_edit.proofs.SectionDeletedListLemmas.{has_before, list_put}
use Rattle.ini_edit.proofs.source.Source.end_without.Goals as goal

pub returns-clause-put : goal.returns-clause-put
returns-clause-put c =
    let ss = c.args.self.now.sections in
    let o = c.args.self.now.option in
    let i = c.args.index in
    let j = c.args.before in
    let t = c.index.result.now in
    let s = c.index-section.result.now in
    let gap = chars c.rest-rest.result.gap.now in
    let line = chars c.in_ok-line_end.line_end.now in
    let items : c.self.inside.sections.items ≡ ss = ap (λ v. v.sections) c.self.view_is in
    let option : c.self.inside.option ≡ o = ap (λ v. v.option) c.self.view_is in
    let count : c.len-count.result ≡ length ss = omega (arith, ap length items) in
    let read_t : t ≡ get_or ss j t = subst (λ l. t ≡ get_or l j t) items c.index.ensures in
    let read_s : s ≡ get_or ss i s = subst (λ l. s ≡ get_or l i s) items c.index-section.ensures in
    let gap_is : gap ≡ section_rest o (i + 1 == c.len-count.result)
    (last_before_gap c.last_before.result s s.pairs) (last_gap s) =
    c.rest-rest.ensures.gap
    ∙ ap (λ o. section_rest o (i + 1 == c.len-count.result)
    (last_before_gap c.last_before.result s s.pairs) (last_gap s)) option in
    let some : (p : Place SectionPiece) → IsPlaceAt ss p i → p.before ≢ [] =
    λ p at none. (let no : ⊥ = omega (arith, at.index, ap length none, c.requires.next) in no) in
    IfOk-weaker c.with_rest_of_next.result
    (λ (end : NewEnd). end_put_last end t
    ≡ with_rest_of_next c.self.inside.option c.last_before-front.result t line gap)
    (λ (end : NewEnd). (p : Place SectionPiece) → IsPlaceAt ss p i → (u : SectionPiece) → u ≡ get_or ss j u
    → set (remove ss i) j (end_put_last end u) ≡ section_deleted_at o p)
    (λ end put p at u read.
    list_put o i j at c.requires.next (has_before p (some p at)) end read_t read_s
    c.last_before-front.ensures c.last_before.ensures (ap (λ n. i + 1 == n) count) gap_is
    c.rest-rest.ensures.before c.in_ok-line_end.ensures.line_end
    (put ∙ ap (λ o. with_rest_of_next o c.last_before-front.result t line gap) option) read)
    c.with_rest_of_next.ensures.put
