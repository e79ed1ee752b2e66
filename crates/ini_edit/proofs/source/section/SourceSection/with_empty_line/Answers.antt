use Rattle.std.proofs.Common.{◌≡◌, ◌∙◌, ◌++◌, [], ap, chars, cond, not, subst, sym}
use Rattle.std.proofs.lemmas.Str.{chars-nil}
use Rattle.ini_text.specs.Options.WriteOptions.{line_end}
use Rattle.ini_text.specs.Parsing.Fronts.{front_of}
use Rattle.ini_text.specs.Parsing.Items.{string_text}
use Rattle.ini_text.proofs.StringLemmas.FrontLemmas.{front_is}
use Rattle.ini.specs.Texts.{Text}
use Rattle.ini_edit.specs.Inside.SourceEnds.{IsKept, put_after_kept}
use Rattle.ini_edit.specs.SourceEditsSections.{ends_empty, is_ended_for, lines_between, with_last_closed}
use Rattle.ini_edit.specs.SourcePlaces.{last_gap}
use Rattle.ini_edit.specs.Sources.{SectionPiece, section_text}
use Rattle.ini_edit.proofs.SourceEndLemmas.{closed_put}
use Rattle.ini_edit.proofs.source.section.SourceSection.with_empty_line.Goals as goal

pub returns-clause-ended : goal.returns-clause-ended
returns-clause-ended c = λ after is.
    let s = c.args.self.now in
    let o = c.args.read in
    let end = line_end c.args.end in
    let before = chars c.args.before.now in
    let text = string_text c.in_ok-text.text in
    let lines = string_text c.in_ok-lines.lines in
    let new = c.in_ok-kept.kept in
    let ended = c.is_ended_for-is_ended.result in
    let is_ended : ended ≡ is_ended_for o text before s =
    c.is_ended_for-is_ended.ensures ∙ ap (λ t. is_ended_for o t before s) (ap chars c.as_str.ensures.value) in
    let is_kept : IsKept o before lines [] s.pairs new =
    subst (λ r. IsKept o before lines r s.pairs new) chars-nil
    (subst (λ l. IsKept o before l (chars []) s.pairs new) (ap chars c.as_str-2.ensures.value)
    c.in_ok-kept.ensures.kept) in
    let put : Text → Text → SectionPiece = λ t b. put_after_kept o b (lines_between o end t b s) []
    (with_last_closed o (not (is_ended_for o t b s)) s) in
    closed_put o before lines [] s new c.in_ok-last_word.last_word (not ended)
    c.in_ok-last_word.ensures.closed is_kept
    ∙ ap (λ l. put_after_kept o before l [] (with_last_closed o (not ended) s))
    (c.in_ok-lines.ensures.lines
    ∙ ap (λ e. cond e [] end ++ cond (ends_empty (text ++ cond e [] end)) [] end) is_ended)
    ∙ ap (λ e. put_after_kept o before (lines_between o end text before s) []
    (with_last_closed o (not e) s)) is_ended
    ∙ ap (λ t. put t before) (c.in_ok-text.ensures.text after is)
    ∙ ap (put (front_of (section_text s) after)) (sym (front_is before after (last_gap s) (sym is)))
