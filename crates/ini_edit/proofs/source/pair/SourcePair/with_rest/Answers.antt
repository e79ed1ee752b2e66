use Rattle.std.proofs.Common.{◌≡◌, ◌∙◌, ◌&&◌, ◌++◌, ap, chars, false, sym}
use Rattle.std.proofs.lemmas.Bool.{and_from, and_right}
use Rattle.ini_text.specs.Parsing.Items.{string_text}
use Rattle.ini_edit.specs.SourceLines.{is_empty}
use Rattle.ini_edit.specs.SourcePlaces.{with_end}
use Rattle.ini_edit.specs.Sources.{is_multiline}
use Rattle.ini_edit.proofs.SourceLineLemmas.{empty_chars}
use Rattle.ini_edit.proofs.SourcePartLemmas.{rest_after, rest_taken}
use Rattle.ini_edit.proofs.SourcePlaceLemmas.{same_word}
use Rattle.ini_edit.proofs.source.pair.SourcePair.with_rest.Goals.{then-is_multiline+then-is_empty+in_ok-push_text}
use Rattle.ini_edit.proofs.source.pair.SourcePair.with_rest.Goals.{else-is_multiline+in_ok-push_text-2}
use Rattle.ini_edit.proofs.source.pair.SourcePair.with_rest.Goals.{else-is_multiline-via-then-is_multiline+else-is_empty}
use Rattle.ini_edit.proofs.source.pair.SourcePair.with_rest.Goals.{else-is_multiline-via-else-is_multiline}
use Rattle.ini_edit.proofs.source.pair.SourcePair.with_rest.Goals as goal

pub returns-clause-put : goal.returns-clause-put
returns-clause-put c =
    let p = c.args.self.now in
    let lines = chars c.args.lines.now in
    let gap = chars c.args.gap.now in
    let old_lines = ap chars c.in_ok-trailing_lines.ensures.ok ∙ c.trailing_lines.ensures in
    let old_after = ap chars c.in_ok-after.ensures.ok ∙ c.after.ensures in
    ap (with_end (string_text c.if-is_multiline.trailing_lines) (string_text c.push_text-2.new.out))
    (same_word p)
    ∙ elim c.if-is_multiline.branch [
      | then-is_multiline+then-is_empty+in_ok-push_text w ↦
          rest_taken c.args.read lines gap p
          (and_from (is_multiline c.args.read p) (is_empty p.after) (sym c.is_multiline.ensures ∙ w.if-is_multiline.true)
          (sym (ap is_empty w.after-then-is_multiline.ensures)
          ∙ sym (empty_chars w.after-then-is_multiline.result.now w.after-then-is_multiline.utf8)
          ∙ sym w.is_empty.ensures ∙ w.if-is_empty.true))
          (ap string_text w.trailing_lines-is ∙ w.in_ok-push_text.ensures.pushed
          ∙ ap (λ t. t ++ lines) old_lines)
          (c.in_ok-push_text-3.ensures.pushed
          ∙ ap (λ t. t ++ gap) (ap string_text w.after-is ∙ old_after))
      | else-is_multiline+in_ok-push_text-2 w ↦
          let apart : (is_multiline c.args.read p && is_empty p.after) ≡ false =
          elim w.else-is_multiline.branch [
            | else-is_multiline-via-then-is_multiline+else-is_empty v ↦
                and_right (is_multiline c.args.read p) (is_empty p.after)
                (sym (ap is_empty v.after-then-is_multiline.ensures)
                ∙ sym (empty_chars v.after-then-is_multiline.result.now v.after-then-is_multiline.utf8)
                ∙ sym v.is_empty.ensures ∙ v.if-is_empty.false)
            | else-is_multiline-via-else-is_multiline v ↦ ap (λ b. b && is_empty p.after) (sym c.is_multiline.ensures ∙ v.if-is_multiline.false)
          ] in
          rest_after c.args.read lines gap p apart (ap string_text w.trailing_lines-is ∙ old_lines)
          (c.in_ok-push_text-3.ensures.pushed
          ∙ ap (λ t. t ++ gap) (ap string_text w.after-is ∙ w.in_ok-push_text-2.ensures.pushed
          ∙ ap (λ t. t ++ lines) old_after))
    ]
