use Rattle.std.proofs.Common.{◌≡◌, ◌∙◌, ◌++◌, [], ap, ap₂, chars, sym}
use Rattle.std.proofs.lemmas.Str.{chars-nil}
use Rattle.ini.proofs.WritingLemmas.{chars-line_end}
use Rattle.ini.specs.Texts.{is_text}
use Rattle.ini_text.specs.Inside.LineReader.{past_note}
use Rattle.ini_text.specs.Options.WriteOptions.{line_end}
use Rattle.ini_text.specs.Parsing.Items.{string_text}
use Rattle.ini_edit.specs.Inside.SourceLayouts.{rules_of}
use Rattle.ini_edit.specs.SourceEntries.{behind_value}
use Rattle.ini_edit.specs.SourceLayout.{laid_gap, lines_of}
use Rattle.ini_edit.specs.SourceLines.{after_blanks}
use Rattle.ini_edit.specs.declared.source.layout.lines.Follower.TheVariants.{AsItIs}
use Rattle.ini_edit.proofs.SourceLineLemmas.{front_of_none}
use Rattle.ini_edit.proofs.source.pair.SourcePair.joins.Goals as goal

pub returns-clause-joins : goal.returns-clause-joins
returns-clause-joins c =
    let p = c.args.self.now in
    let read = c.args.rules.now.read in
    let rules = rules_of c.args.rules.now in
    let lines : chars c.as_str.result.now ≡ lines_of p [] =
    ap chars c.as_str.ensures.value ∙ c.in_ok-push_behind_value.ensures.pushed
    ∙ ap (λ t. t ++ behind_value p.stretches (chars c.after.result.now))
    (ap chars c.in_ok-lines.ensures.ok ∙ c.space_after.ensures)
    ∙ ap (λ t. p.stretches.space_after ++ behind_value p.stretches t)
    (c.after.ensures ∙ sym (front_of_none p.after)) in
    let past : chars c.past_note.result.now ≡ past_note read (after_blanks (lines_of p [])) =
    c.past_note.ensures ∙ ap (past_note read) (c.split_blanks.ensures.rest ∙ ap after_blanks lines) in
    let laid : string_text c.push_gap.new.out
    ≡ laid_gap rules AsItIs (past_note read (after_blanks (lines_of p []))) =
    c.in_ok-push_gap.ensures.pushed
    ∙ ap (λ t. t ++ laid_gap rules AsItIs (chars c.past_note.result.now))
    (ap chars c.new-laid.ensures.bytes ∙ chars-nil)
    ∙ ap (laid_gap rules AsItIs) past in
    let end : chars c.as_str-3.result.now ≡ line_end c.args.rules.now.line_end =
    ap chars c.as_str-3.ensures ∙ chars-line_end c.args.rules.now.line_end in
    c.is_same_text.ensures ∙ ap₂ is_text (ap chars c.as_str-2.ensures.value ∙ laid) end
