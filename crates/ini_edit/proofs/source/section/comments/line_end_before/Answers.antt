use Rattle.std.proofs.Common.{◌∙◌, [], ap, chars, eq-eqb, ne_eqb, sym}
use Rattle.std.proofs.lemmas.Bool.{cond-false, cond-true, or_from, or_left, or_right}
use Rattle.ini.proofs.WritingLemmas.{chars-line_end}
use Rattle.ini_text.specs.Grammar.CharacterKinds.{is_line_feed}
use Rattle.ini_text.specs.Options.WriteOptions.{line_end}
use Rattle.ini_edit.specs.SourceLines.{is_empty}
use Rattle.ini_edit.proofs.CharsLemmas.{chars-none}
use Rattle.ini_edit.proofs.source.section.comments.line_end_before.Goals as goal

pub returns-then-is_empty : goal.returns-then-is_empty
returns-then-is_empty c =
    let empty = is_empty (chars c.args.comments.now) in
    chars-none ∙ sym (cond-true _ [] (line_end c.args.end)
    (or_left empty (is_line_feed c.args.last) (sym c.is_empty.ensures ∙ c.if-is_empty.true)))

pub returns-then-last-eq10 : goal.returns-then-last-eq10
returns-then-last-eq10 c =
    let empty = is_empty (chars c.args.comments.now) in
    chars-none ∙ sym (cond-true _ [] (line_end c.args.end)
    (or_right empty (is_line_feed c.args.last) (eq-eqb c.args.last 10 c.if-last-eq10.true)))

pub returns : goal.returns
returns c =
    ap chars c.as_str.ensures ∙ chars-line_end c.args.end
    ∙ sym (cond-false _ [] (line_end c.args.end)
    (or_from (is_empty (chars c.args.comments.now)) (is_line_feed c.args.last)
    (sym c.is_empty.ensures ∙ c.if-is_empty.false) (ne_eqb c.args.last 10 c.if-last-eq10.false)))
