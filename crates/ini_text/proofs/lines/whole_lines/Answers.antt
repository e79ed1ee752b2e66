use Rattle.std.proofs.Common.{arith, ◌∙◌, ap, sym, subst, Some, None, chars, count_by, IsUtf8}
use Rattle.std.proofs.lemmas.Str.{chars-nil}
use Rattle.std.proofs.lemmas.Str.Pattern.{rfind_char}
use Rattle.ini_text.specs.Grammar.CharacterKinds.{line_feed, is_line_feed}
use Rattle.ini_text.specs.Grammar.Positions.{is_column_one}
use Rattle.ini_text.proofs.StringLemmas.LineCountLemmas.{lines_end, feeds_of_lines, feeds_of_text, no_lines}
use Rattle.ini_text.proofs.lines.whole_lines.Goals as goal

pub returns-in_default-clause-line_start : goal.returns-in_default-clause-line_start
returns-in_default-clause-line_start c = ap is_column_one chars-nil

pub returns-in_default-clause-lines : goal.returns-in_default-clause-lines
returns-in_default-clause-lines c = sym (ap (count_by is_line_feed) chars-nil)

pub returns-in_default-clause-all : goal.returns-in_default-clause-all
returns-in_default-clause-all c =
    let text = c.args.text.now in
    no_lines text c.utf8.text (rfind_char line_feed text None c.in_default.ensures.cases (omega arith))

pub returns-clause-line_start : goal.returns-clause-line_start
returns-clause-line_start c =
    let text = c.args.text.now in
    let lines = c.split_at.result.0.now in
    let is_last = rfind_char line_feed text (Some c.in-Some.last) c.in-Some.ensures.cases (omega arith) in
    let utf8 = subst IsUtf8 c.as_bytes.ensures.value c.as_bytes.ensures.utf8 in
    lines_end text lines c.in-Some.last c.utf8.text is_last utf8 c.split_at.ensures.front

pub returns-clause-lines : goal.returns-clause-lines
returns-clause-lines c =
    c.line_feeds.ensures ∙ feeds_of_text c.as_bytes.result.now c.as_bytes.ensures.utf8
    ∙ ap (λ bs. count_by is_line_feed (chars bs)) c.as_bytes.ensures.value

pub returns-clause-all : goal.returns-clause-all
returns-clause-all c =
    let text = c.args.text.now in
    let lines = c.split_at.result.0.now in
    let is_last = rfind_char line_feed text (Some c.in-Some.last) c.in-Some.ensures.cases (omega arith) in
    c.line_feeds.ensures ∙ ap (count_by is_line_feed) c.as_bytes.ensures.value
    ∙ feeds_of_lines text lines c.in-Some.last c.utf8.text is_last c.split_at.ensures.front
