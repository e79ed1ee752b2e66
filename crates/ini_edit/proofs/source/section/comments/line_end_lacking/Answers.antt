use Rattle.std.proofs.Common.{◌∙◌, ◌++◌, ap, chars, eq-eqb, ne_eqb, sym}
use Rattle.ini.proofs.WritingLemmas.{chars-line_end}
use Rattle.ini_text.specs.Grammar.CharacterKinds.{line_feed}
use Rattle.ini_text.specs.Grammar.Positions.{last_or}
use Rattle.ini_text.specs.Options.WriteOptions.{line_end}
use Rattle.ini_edit.proofs.CommentPartLemmas.{none_lacking, one_lacking}
use Rattle.ini_edit.proofs.CharsLemmas.{chars-none}
use Rattle.ini_edit.proofs.source.section.comments.line_end_lacking.Goals as goal

pub returns-then-last_or-eq10 : goal.returns-then-last_or-eq10
returns-then-last_or-eq10 c =
    let comments = chars c.args.comments.now in
    ap (λ t. comments ++ t) chars-none
    ∙ none_lacking (line_end c.args.end) comments
    (eq-eqb (last_or line_feed comments) 10 (sym c.last_or.ensures ∙ c.if-last_or-eq10.true))

pub returns : goal.returns
returns c =
    let comments = chars c.args.comments.now in
    ap (λ t. comments ++ t) (ap chars c.as_str.ensures ∙ chars-line_end c.args.end)
    ∙ one_lacking (line_end c.args.end) comments
    (ne_eqb (last_or line_feed comments) 10 (λ is. c.if-last_or-eq10.false (c.last_or.ensures ∙ is)))
