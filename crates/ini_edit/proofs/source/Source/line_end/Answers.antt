use Rattle.std.proofs.Common.{◌≡◌, ◌∙◌, ◌+◌, None, ap, drop, is_some, subst, sym, take, unwrap_or}
use Rattle.std.proofs.lemmas.List.{take_all, take-append-drop}
use Rattle.ini_edit.specs.Inside.SourceSearches.{IsSearched, first_line_end}
use Rattle.ini_edit.specs.NewLines.{line_end_of}
use Rattle.ini_edit.specs.Sources.{section_text, sections_text, text_in}
use Rattle.ini_edit.proofs.InPlaceLemmas.{joined-append, joined-more}
use Rattle.ini_edit.proofs.LastLineEndLemmas.{found_none, own_line_end, own_line_end_found}
use Rattle.ini_edit.proofs.source.Source.line_end.Goals as goal

pub loop-section-init : goal.loop-section-init
loop-section-init c = record { searched = c.new-search.ensures; none = c.new-search.ensures.found }

pub loop-section-preserved : goal.loop-section-preserved
loop-section-preserved c =
    let items = c.deref-section-items.result.now in
    let i = c.loop-section.section-index in
    let found = c.search_line_end-search.result in
    record {
      searched = subst (λ t. IsSearched t found)
          (sym (joined-more section_text items i c.section-item.result c.loop-section-test.true
          c.section-item.is))
          (c.search_line_end-search.ensures (sections_text (take i items))
          c.loop-section.invariant.searched);
      none = found_none found.found (ap is_some (sym c.found.ensures) ∙ sym c.if-is_some.ensures);
    }

pub returns-then-is_some : goal.returns-then-is_some
returns-then-is_some c =
    let items = c.deref-section-items.result.now in
    let i = c.loop-section.section-index in
    let found = c.search_line_end-search.result in
    let searched = subst (λ t. IsSearched t found)
    (sym (joined-more section_text items i c.section-item.result c.loop-section-test.true c.section-item.is))
    (c.search_line_end-search.ensures (sections_text (take i items)) c.loop-section.invariant.searched) in
    let text = sym (joined-append section_text (take (i + 1) items) (drop (i + 1) items))
    ∙ ap sections_text (take-append-drop (i + 1) items ∙ c.deref-section-items.ensures.value)
    ∙ ap text_in c.self.view_is in
    c.unwrap_or.ensures ∙ ap (λ f. unwrap_or f c.args.other) c.found-then-is_some.ensures
    ∙ own_line_end_found c.args.other (sections_text (take (i + 1) items))
    (sections_text (drop (i + 1) items)) found
    (ap is_some (sym c.found.ensures) ∙ sym c.if-is_some.ensures) searched
    ∙ ap (line_end_of c.args.other) text

pub returns : goal.returns
returns c =
    let items = c.deref-section-items.result.now in
    let all = take_all c.loop-section.section-index items c.loop-section-test.false in
    let text = ap sections_text (all ∙ c.deref-section-items.ensures.value) ∙ ap text_in c.self.view_is in
    let none : first_line_end (text_in c.args.self.now) ≡ None =
    ap first_line_end (sym text) ∙ sym c.loop-section.invariant.searched.found
    ∙ c.loop-section.invariant.none in
    sym (own_line_end c.args.other (text_in c.args.self.now) ∙ ap (λ f. unwrap_or f c.args.other) none)
