use Rattle.std.proofs.Common.{◌≡◌, ◌∙◌, ◌&&◌, ◌||◌, Bool, ℕ, [], ap, chars, cond, not, subst, sym}
use Rattle.std.proofs.lemmas.Result.{IfOk-weaker}
use Rattle.ini_text.specs.Grammar.CharacterKinds.{is_blank, is_comment_mark, is_line_end, is_line_feed}
use Rattle.ini_text.specs.Grammar.Positions.{last_or}
use Rattle.ini_text.specs.Grammar.CharacterKinds.{begins}
use Rattle.ini_text.specs.Parsing.Fronts.{IsRest, front_of}
use Rattle.ini.specs.Texts.{Text}
use Rattle.ini_edit.specs.Inside.SourceEnds.{put_after_kept}
use Rattle.ini_edit.specs.SourceLines.{indentation_at_end, is_empty}
use Rattle.ini_edit.specs.SourcePlaces.{is_nil, last_before_gap, last_gap}
use Rattle.ini_edit.proofs.SourceEndLemmas.{kept_put, take_count}
use Rattle.ini_edit.proofs.SourceLineLemmas.{indentation_at_end-rest}
use Rattle.ini_edit.proofs.source.section.SourceSection.with_rest_of_next.Goals as goal

pub front_before-kept-requires : goal.front_before-kept-requires
front_before-kept-requires c =
    let gap = chars c.last_gap-gap.result.now in
    subst (IsRest gap) (sym c.indentation_at_end-indentation.ensures)
    (indentation_at_end-rest c.last_before_gap-before_gap.result gap)

pub returns-clause-put : goal.returns-clause-put
returns-clause-put c =
    let s = c.args.self.now in
    let o = c.args.read in
    let rest = chars c.args.rest.now in
    let end = chars c.args.end.now in
    let gap = chars c.last_gap-gap.result.now in
    let before = last_before_gap c.args.front s s.pairs in
    let kept = chars c.front_before-kept.result.now in
    let was : Text = front_of (last_gap s) (indentation_at_end before (last_gap s)) in
    let is_before : c.last_before_gap-before_gap.result ≡ before =
    c.last_before_gap-before_gap.ensures
    ∙ ap (last_before_gap c.args.front s) (take_count s.pairs c.count.result c.count.ensures) in
    let is_kept : kept ≡ was =
    c.front_before-kept.ensures ∙ ap (front_of gap) (c.indentation_at_end-indentation.ensures
    ∙ ap (λ l. indentation_at_end l gap) is_before)
    ∙ ap (λ g. front_of g (indentation_at_end before g)) c.last_gap-gap.ensures in
    let goes : ℕ → Bool = λ l. is_line_end l && (is_line_feed l || not (begins is_comment_mark rest)) in
    let is_goes : c.goes_before.result ≡ goes (last_or before was) =
    c.goes_before.ensures ∙ ap goes (c.last_or-last.ensures ∙ ap (λ l. last_or l kept) is_before
    ∙ ap (last_or before) is_kept) in
    let taken : Text → Bool = λ k. o.enabled_indented_mutiline_value
    && (is_empty k && (not (is_nil s.pairs) && begins is_blank rest)) in
    let is_taken : c.would_take.result ≡ taken was = c.would_take.ensures ∙ ap taken is_kept in
    IfOk-weaker c.gap_put.result _ _
    (λ new is. kept_put o kept (chars c.unless-lines.result.now) (chars c.unless-following.result.now) s
    new is
    ∙ ap (λ k. put_after_kept o k (chars c.unless-lines.result.now)
    (chars c.unless-following.result.now) s) is_kept
    ∙ ap (λ l. put_after_kept o was l (chars c.unless-following.result.now) s)
    (c.unless-lines.ensures ∙ ap (λ b. cond b [] end) is_goes)
    ∙ ap (λ r. put_after_kept o was (cond (goes (last_or before was)) [] end) r s)
    (c.unless-following.ensures ∙ ap (λ b. cond b [] rest) is_taken))
    c.gap_put.ensures.kept
