use Rattle.std.proofs.Common.{◌≡◌, ◌∙◌, [], ◌++◌, ap, append-nil, append_assoc, chars, if◌then◌else◌, refl}
use Rattle.std.proofs.Common.{sym, None, take}
use Rattle.std.proofs.lemmas.Bool.{cond-false, cond-true}
use Rattle.ini_text.specs.Options.WriteOptions.{line_end}
use Rattle.ini_text.specs.Parsing.Items.{string_text}
use Rattle.ini_edit.specs.Inside.SourceEnds.{trailing_of}
use Rattle.ini_edit.specs.SourceEditsComments.{lines_of_comment}
use Rattle.ini_edit.specs.declared.source.pair.ends.NewEnd.{NewEnd}
use Rattle.ini_edit.proofs.CommentPartLemmas.{put_is}
use Rattle.ini_edit.proofs.source.section.SourceSection.comments_put.Goals as goal
use Rattle.ini_edit.proofs.source.section.SourceSection.comments_put.Goals.{then-takes_lines_at+in_ok-push_text}
use Rattle.ini_edit.proofs.source.section.SourceSection.comments_put.Goals.{else-takes_lines_at+in_ok-push_text-2}

pub returns-clause-put : goal.returns-clause-put
returns-clause-put c =
    let o = c.args.read in
    let s = c.args.self.now in
    let before = take c.args.index s.pairs in
    let kept = chars c.args.kept.now in
    let lines = chars c.args.lines.now in
    let comments = chars c.args.comments.now in
    let lacking = chars c.line_end_lacking.result.now in
    let rest = lines_of_comment (line_end c.args.end) comments in
    let taken = c.takes_lines_at.result in
    let first = string_text c.if-takes_lines_at.after in
    let trailing : string_text c.if-takes_lines_at.trailing_lines
    ≡ trailing_of before ++ (if taken then lines else []) =
    elim c.if-takes_lines_at.branch [
      | then-takes_lines_at+in_ok-push_text w ↦
          ap string_text w.trailing_lines-is ∙ w.in_ok-push_text.ensures.pushed
          ∙ ap (λ t. t ++ lines) c.in_ok-trailing_lines.ensures.lines
          ∙ ap (λ t. trailing_of before ++ t) (sym (cond-true taken lines [] w.if-takes_lines_at.true))
      | else-takes_lines_at+in_ok-push_text-2 w ↦
          ap string_text w.trailing_lines-is ∙ c.in_ok-trailing_lines.ensures.lines
          ∙ sym (append-nil (trailing_of before))
          ∙ ap (λ t. trailing_of before ++ t) (sym (cond-false taken lines [] w.if-takes_lines_at.false))
    ] in
    let start : first ≡ kept ++ (if taken then [] else lines) =
    elim c.if-takes_lines_at.branch [
      | then-takes_lines_at+in_ok-push_text w ↦
          ap string_text w.after-is ∙ ap chars c.in_ok-after.ensures.ok ∙ sym (append-nil kept)
          ∙ ap (λ t. kept ++ t) (sym (cond-true taken [] lines w.if-takes_lines_at.true))
      | else-takes_lines_at+in_ok-push_text-2 w ↦
          ap string_text w.after-is ∙ w.in_ok-push_text-2.ensures.pushed
          ∙ ap (λ t. t ++ lines) (ap chars c.in_ok-after.ensures.ok)
          ∙ ap (λ t. kept ++ t) (sym (cond-false taken [] lines w.if-takes_lines_at.false))
    ] in
    let last : string_text c.push_text-3.new.out ≡ kept ++ ((if taken then [] else lines) ++ rest) =
    c.in_ok-push_text-4.ensures.pushed ∙ ap (λ t. t ++ lacking) c.in_ok-push_text-3.ensures.pushed
    ∙ append_assoc first comments lacking
    ∙ ap (λ t. first ++ t) c.line_end_lacking.ensures
    ∙ ap (λ t. t ++ rest) start ∙ append_assoc kept (if taken then [] else lines) rest in
    let new : NewEnd = record {
      last_word = None;
      trailing_lines = c.if-takes_lines_at.trailing_lines;
      after = c.push_text-3.new.out;
      room = c.in_ok-room.room;
    } in
    put_is o kept lines rest s before new taken c.takes_lines_at.ensures refl trailing last
