use Rattle.std.proofs.Common.{◌≡◌, ◌∙◌, ◌+◌, ◌∷◌, [], ap, chars, get_or, set, sym}
use Rattle.ini_text.specs.Options.WriteOptions.{line_end}
use Rattle.ini.proofs.WritingLemmas.{chars-line_end}
use Rattle.std.specs.List.{insert}
use Rattle.ini_edit.specs.Inside.SourceEnds.{made_pair, with_new_end}
use Rattle.ini_edit.specs.SourceEdits.{with_pairs}
use Rattle.ini_edit.specs.SourceEditsAdd.{made_after, with_line_ended}
use Rattle.ini_edit.specs.SourcePlaces.{exchanged}
use Rattle.ini_edit.proofs.InsertedPairLemmas.{put_after_place, put_after_stays, was_put}
use Rattle.ini_edit.proofs.SourcePlaceLemmas.{place_read}
use Rattle.ini_edit.proofs.source.section.SourceSection.insert_after.Goals as goal

pub returns-clause-put : goal.returns-clause-put
returns-clause-put c = λ p at.
    let o = c.args.read in
    let i = c.args.index in
    let s = c.args.self.now in
    let end = line_end c.args.end in
    let make = made_pair o c.args.pair in
    let new = c.in_ok-pair.pair in
    let ended = c.put_new_end.new.self in
    let items = c.insert.new.self.items in
    let pairs = ap (λ s. s.pairs) c.self.view_is in
    let put : items ≡ insert s.pairs (i + 1) new =
    was_put c.insert.result c.self.inside.pairs.items c.in_ok-map_err.ensures.variant
    c.insert.ensures.items ∙ ap (λ l. insert l (i + 1) new) pairs in
    let is_new : new ≡ made_after o end make p.here p.after = c.in_ok-pair.ensures.made p at in
    let old_end : c.index.result.now ≡ p.here =
    place_read at (c.index.ensures ∙ ap (λ l. get_or l i c.index.result.now) pairs) in
    let is_ended : ended ≡ with_line_ended o end p.here =
    c.put_new_end.ensures
    ∙ ap (with_new_end c.in_ok-new.new) (put_after_stays at new put c.index_mut.ensures.value ∙ sym old_end)
    ∙ c.in_ok-new.ensures.ended
    ∙ ap (λ e. with_line_ended o e c.index.result.now) (ap chars c.as_str.ensures ∙ chars-line_end
    c.args.end)
    ∙ ap (with_line_ended o end) old_end in
    ap (λ t. with_pairs t (set items i ended)) c.self.view_is
    ∙ ap (with_pairs s) (put_after_place at new ended put
    ∙ ap (λ x. exchanged p (x ∷ new ∷ [])) is_ended
    ∙ ap (λ x. exchanged p (with_line_ended o end p.here ∷ x ∷ [])) is_new)
