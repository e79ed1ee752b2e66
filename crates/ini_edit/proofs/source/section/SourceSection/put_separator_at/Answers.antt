use Rattle.std.proofs.Common.{◌≡◌, ◌∙◌, ◌<◌, ap, length, subst, sym}
use Rattle.std.proofs.lemmas.Result.{on_ok_weaker}
use Rattle.ini_text.specs.Parsing.Items.{string_text}
use Rattle.ini_edit.specs.Inside.SourceEnds.{IsPlaceAt}
use Rattle.ini_edit.specs.SourceEditsDelete.{begin_with_blank, would_be_taken}
use Rattle.ini_edit.specs.SourceEditsSet.{with_separator}
use Rattle.ini_edit.specs.Sources.{SectionPiece, has_separator}
use Rattle.ini_edit.proofs.SourceIndexLemmas.{indexed_some}
use Rattle.ini_edit.proofs.SourcePlaceLemmas.{place_drop_more, place_read}
use Rattle.ini_edit.proofs.SourceWrittenLemmas.{changed_in}
use Rattle.ini_edit.proofs.source.section.SourceSection.put_separator_at.Goals as goal

pub put_separator-requires : goal.put_separator-requires
put_separator-requires c =
    let i = c.args.index in
    let within = subst (λ (s : SectionPiece). i < length s.pairs) (sym c.self.view_is) c.requires.index in
    let found = indexed_some c.self.inside.pairs.items i within in
    ap has_separator (place_read found.at c.index_mut.ensures.value)
    ∙ c.requires.lone found.place
    (subst (λ (s : SectionPiece). IsPlaceAt s.pairs found.place i) c.self.view_is found.at)

pub returns-clause-put : goal.returns-clause-put
returns-clause-put c = λ p at.
    let o = c.args.read in
    let there = subst (λ (s : SectionPiece). IsPlaceAt s.pairs p c.args.index) (sym c.self.view_is) at in
    let taken = c.would_be_taken-is_taken.ensures p.after
    (c.is_before_blank.ensures ∙ ap begin_with_blank (place_drop_more at))
    ∙ ap (λ q. would_be_taken o q p.after)
    (place_read there c.index.ensures ∙ sym (place_read there c.index_mut.ensures.value)) in
    on_ok_weaker c.put_separator.result
    (λ is. changed_in (with_separator o (string_text c.args.raw_value) (string_text c.args.value) p.after) p
    c.self.view_is at c.index_mut.ensures.value is)
    (c.put_separator.ensures.put p.after taken)
