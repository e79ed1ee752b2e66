use Rattle.std.proofs.Common.{◌≡◌, ◌∙◌, ◌&&◌, ◌||◌, ◌++◌, [], None, Some, ap, chars, false, not}
use Rattle.std.proofs.Common.{append-nil, refl, subst, sym, if◌then◌else◌}
use Rattle.std.proofs.lemmas.Bool.{and_right}
use Rattle.std.proofs.lemmas.Str.{chars-nil}
use Rattle.std.specs.List.{insert}
use Rattle.ini_text.specs.Grammar.CharacterKinds.{is_line_end}
use Rattle.ini_text.specs.Grammar.Positions.{last_or}
use Rattle.ini_text.specs.Options.WriteOptions.{line_end}
use Rattle.ini_text.specs.Parsing.Fronts.{IsRest}
use Rattle.ini_text.specs.Parsing.Items.{string_text}
use Rattle.ini.proofs.WritingLemmas.{chars-line_end}
use Rattle.ini_edit.specs.Inside.SourceEnds.{made_pair, trailing_of}
use Rattle.ini_edit.specs.SourceEdits.{with_pairs}
use Rattle.ini_edit.specs.SourceEditsAdd.{would_go_on}
use Rattle.ini_edit.specs.SourceLines.{is_empty}
use Rattle.ini_edit.specs.SourcePlaces.{gap_of, is_nil, last_before_gap}
use Rattle.ini_edit.specs.declared.source.pair.ends.NewEnd.{NewEnd}
use Rattle.ini_edit.proofs.InsertedPairLemmas.{first_index, put_before, put_before_place, was_put}
use Rattle.ini_edit.proofs.SourceLineLemmas.{comments_at_end-rest}
use Rattle.ini_edit.proofs.SourcePlaceLemmas.{place_take}
use Rattle.ini_edit.proofs.source.section.SourceSection.insert_before.Goals.{else-is_empty-via-else-is_empty}
use Rattle.ini_edit.proofs.source.section.SourceSection.insert_before.Goals.{else-is_empty-via-then-is_empty+else-would_go_on}
use Rattle.ini_edit.proofs.source.section.SourceSection.insert_before.Goals as goal

pub front_before-kept-requires : goal.front_before-kept-requires
front_before-kept-requires c =
    let gap = chars c.gap_before-gap.result.now in
    subst (IsRest gap) (sym c.comments_at_end-comments.ensures)
    (comments_at_end-rest c.last_before_gap-before_gap.result gap)

pub returns-clause-put : goal.returns-clause-put
returns-clause-put c = λ p at.
    let o = c.args.read in
    let s = c.args.self.now in
    let end = line_end c.args.end in
    let make = made_pair o c.args.pair in
    let before = place_take at in
    let comments = chars c.comments_at_end-comments.result.now in
    let kept = chars c.front_before-kept.result.now in
    let new = c.in_ok-pair.pair in
    let e : NewEnd = record {
      last_word = None;
      trailing_lines = c.in_ok-trailing_lines.trailing_lines;
      after = c.in_ok-after.after;
      room = c.in_ok-room.room;
    } in
    let pairs = ap (λ s. s.pairs) c.self.view_is in
    let put : c.insert.new.self.items ≡ insert s.pairs c.args.index new =
    was_put c.insert.result c.self.inside.pairs.items c.in_ok-map_err.ensures.variant c.insert.ensures.items
    ∙ ap (λ l. insert l c.args.index new) pairs in
    let free : (is_empty comments && would_go_on o p.here) ≡ false =
    elim c.else-is_empty.branch [
      | else-is_empty-via-then-is_empty+else-would_go_on w ↦
          and_right (is_empty comments) (would_go_on o p.here)
          (sym (w.would_go_on.ensures p at) ∙ w.if-would_go_on.false)
      | else-is_empty-via-else-is_empty w ↦
          ap (λ b. b && would_go_on o p.here) (sym c.is_empty.ensures ∙ w.if-is_empty.false)
    ] in
    let end_only : string_text c.in_ok-lines.lines ≡ end =
    c.in_ok-lines.ensures.text ∙ ap (λ t. chars c.as_str.result.now ++ t) chars-nil ∙ append-nil _
    ∙ ap chars c.as_str.ensures ∙ chars-line_end c.args.end in
    let is_new : new ≡ make (not o.enabled_indented_mutiline_value || (is_nil p.before || not (is_empty
    kept)))
    end comments =
    c.in_ok-pair.ensures.pair
    ∙ ap (λ l. make c.may_be_indented-is_indented.result l comments) end_only
    ∙ ap (λ b. make b end comments) (c.may_be_indented-is_indented.ensures
    ∙ ap (λ b. not o.enabled_indented_mutiline_value || (b || not (is_empty kept))) (first_index at)) in
    let is_after : string_text c.in_ok-after.after
    ≡ kept ++ (if is_line_end (last_or c.last_before_gap-before_gap.result kept) then [] else end) =
    c.in_ok-after.ensures.text
    ∙ ap (λ b. kept ++ (if b then [] else end))
    (c.is_line_end-starts.ensures ∙ ap is_line_end c.last_or.ensures) in
    put_before o end make c.args.front s p
    (c.gap_before-gap.ensures ∙ ap (gap_of s.after) before)
    (c.last_before_gap-before_gap.ensures ∙ ap (last_before_gap c.args.front s) before)
    c.comments_at_end-comments.ensures c.front_before-kept.ensures free is_new is_after
    ∙ ap Some (sym (c.put_new_end.ensures
    ∙ put_before_place e s at new
    (ap (λ t. with_pairs t c.insert.new.self.items) c.self.view_is ∙ ap (with_pairs s) put) refl
    (c.in_ok-trailing_lines.ensures.lines ∙ ap trailing_of before)))
