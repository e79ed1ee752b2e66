use Rattle.std.proofs.Common.{◌∙◌, ◌+◌, ◌++◌, ap, drop, is_some, subst, sym}
use Rattle.ini_edit.specs.Inside.SourceSearches.{IsSearched}
use Rattle.ini_edit.specs.Sources.{pairs_text}
use Rattle.ini_edit.proofs.LastLineEndLemmas.{search_stays}
use Rattle.ini_edit.proofs.SourcePartLemmas.{one_pair_on, rest_of_pairs}
use Rattle.ini_edit.proofs.source.section.SourceSection.search_line_end.Goals as goal

pub loop-pair-preserved : goal.loop-pair-preserved
loop-pair-preserved c = λ front searched.
    subst (λ t. IsSearched t c.search_line_end-search.result)
    (one_pair_on front c.args.self.now c.deref-pair-items.result.now c.loop-pair.pair-index
    c.pair-item.result c.loop-pair-test.true c.pair-item.is)
    (c.search_line_end-search.ensures _ (c.loop-pair.invariant front searched))

pub returns-then-is_some : goal.returns-then-is_some
returns-then-is_some c = λ front searched.
    let s = c.args.self.now in
    let items = c.deref-pair-items.result.now in
    let next = c.loop-pair.pair-index + 1 in
    let found = c.search_line_end-search.result in
    subst (λ t. IsSearched t found)
    (rest_of_pairs front s items next
    ∙ ap (λ ps. front ++ (s.header ++ (s.after ++ pairs_text ps)))
    (c.deref-pair-items.ensures.value ∙ ap (λ s. s.pairs) c.self.view_is))
    (search_stays _ (pairs_text (drop next items)) found
    (ap is_some (sym c.found.ensures) ∙ sym c.is_some.ensures ∙ c.if-is_some.true)
    (subst (λ t. IsSearched t found)
    (one_pair_on front s items c.loop-pair.pair-index c.pair-item.result c.loop-pair-test.true
    c.pair-item.is)
    (c.search_line_end-search.ensures _ (c.loop-pair.invariant front searched))))
