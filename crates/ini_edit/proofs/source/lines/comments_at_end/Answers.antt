use Rattle.std.proofs.Common.{◌≡◌, ◌&&◌, arith, chars, cond, not, rules}
use Rattle.ini_text.specs.Grammar.CharacterKinds.{is_comment_mark}
use Rattle.ini_edit.proofs.SourceLineWalkLemmas.{comments_start, comments_step}
use Rattle.ini_edit.proofs.source.lines.comments_at_end.Goals as goal

pub characters-init : goal.characters-init
characters-init c = record {
  comments = search rules;
  rest = search rules;
  so_far = comments_start c.args.before (chars c.args.text.now);
}

pub characters-preserved : goal.characters-preserved
characters-preserved c =
    let column = c.characters.is_column_one in
    let comment = c.characters.is_comment in
    let mark = is_comment_mark c.in-Some.c in
    let marks : c.if-is_column_one.is_comment ≡ cond column mark comment = grind arith in
    let comments : chars c.if-is_column_one.comments.now
    ≡ cond (column && (mark && not comment)) (chars c.characters.rest.now)
    (chars c.characters.comments.now) =
    grind arith in
    record {
      comments = search rules;
      rest = search rules;
      so_far = comments_step column comment (chars c.characters.comments.now) c.in-Some.ensures.characters
          marks comments c.characters.invariant.so_far;
    }
