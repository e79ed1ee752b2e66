use Rattle.std.proofs.Common.{◌≡◌, ◌∙◌, [], ◌∷◌, ap, chars, eq-eqb, refl, subst, sym, take, Some}
use Rattle.std.specs.Option.{option_map}
use Rattle.ini.specs.Texts.{is_text}
use Rattle.ini_text.specs.Grammar.CharacterKinds.{carriage_return}
use Rattle.ini_text.specs.Parsing.Items.{cow_text}
use Rattle.ini_text.specs.Grammar.Positions.{last_or}
use Rattle.ini_edit.specs.Inside.SourceEnds.{IsPlaceAt, end_put}
use Rattle.ini_edit.specs.SourceEditsDelete.{line_end_after, rest_put}
use Rattle.ini_edit.specs.SourcePlaces.{last_before_pair, text_up_to}
use Rattle.ini_edit.specs.Sources.{SectionPiece}
use Rattle.ini_edit.proofs.CommentPartLemmas.{chars-return, end_put_out, not_out, out_is}
use Rattle.ini_edit.proofs.CharsLemmas.{chars-none}
use Rattle.ini_edit.proofs.SourcePlaceLemmas.{place_read, place_take}
use Rattle.ini_edit.proofs.source.section.SourceSection.comment_out.Goals as goal

pub returns-then-is_same_text-clause-commented : goal.returns-then-is_same_text-clause-commented
returns-then-is_same_text-clause-commented c = λ p at.
    let s : SectionPiece = record {
      name = option_map cow_text c.self.inside.name;
      header = cow_text c.self.inside.header;
      after = cow_text c.self.inside.after;
      pairs = c.self.inside.pairs.items;
    } in
    let o = c.args.read in
    let there : IsPlaceAt s.pairs p c.args.index = subst (λ s. IsPlaceAt s.pairs p c.args.index)
    (sym c.self.view_is) at in
    let same : is_text (line_end_after o p.here) (carriage_return ∷ []) ≡ c.is_same_text.result =
    ap (λ q. is_text (line_end_after o q) (carriage_return ∷ [])) (sym (place_read there c.index.ensures))
    ∙ ap (λ t. is_text t (carriage_return ∷ [])) (sym c.end-end.ensures.line_end)
    ∙ ap (is_text (chars c.end-end.result.line_end.now)) (sym chars-return) ∙ sym c.is_same_text.ensures in
    (not_out o c.args.front c.args.self.now p (same ∙ c.if-is_same_text.true), refl)

pub returns-clause-commented : goal.returns-clause-commented
returns-clause-commented c = λ p at.
    let s : SectionPiece = record {
      name = option_map cow_text c.self.inside.name;
      header = cow_text c.self.inside.header;
      after = cow_text c.self.inside.after;
      pairs = c.self.inside.pairs.items;
    } in
    let i = c.args.index in
    let o = c.args.read in
    let front = c.args.front in
    let there : IsPlaceAt s.pairs p i = subst (λ s. IsPlaceAt s.pairs p i) (sym c.self.view_is) at in
    let same : is_text (line_end_after o p.here) (carriage_return ∷ []) ≡ c.is_same_text.result =
    ap (λ q. is_text (line_end_after o q) (carriage_return ∷ [])) (sym (place_read there c.index.ensures))
    ∙ ap (λ t. is_text t (carriage_return ∷ [])) (sym c.end-end.ensures.line_end)
    ∙ ap (is_text (chars c.end-end.result.line_end.now)) (sym chars-return) ∙ sym c.is_same_text.ensures in
    let now = c.args.self.now in
    let new = c.in_ok-new.new in
    let last : last_before_pair front now p ≡ 10 =
    ap (λ ps. last_or front (text_up_to now ps)) (sym (place_take at)) ∙ sym c.last_before.ensures
    ∙ c.if-last_before-ne10.false in
    let gap = ap chars c.as_str.ensures.value ∙ c.in_ok-gap.ensures.lines p at in
    out_is o front now p (eq-eqb (last_before_pair front now p) 10 last) (same ∙ c.if-is_same_text.false)
    ∙ ap Some (sym (c.put_new_end.ensures
    ∙ end_put_out new s there c.remove-pair.new.self.items c.remove-pair.ensures.items
    ∙ ap (λ t. end_put new t (take i t.pairs) p.after) c.self.view_is
    ∙ c.in_ok-new.ensures.put p.after
    ∙ ap (λ l. rest_put o l (chars c.as_str.result.now) now (take i now.pairs) p.after) chars-none
    ∙ ap (λ ps. rest_put o [] (chars c.as_str.result.now) now ps p.after) (place_take at)
    ∙ ap (λ g. rest_put o [] g now p.before p.after) gap))
