use Rattle.std.proofs.Common.{◌∙◌, ap, ne_eqb, sym}
use Rattle.std.proofs.lemmas.Bool.{cond-false}
use Rattle.std.proofs.lemmas.Str.{chars-nil}
use Rattle.ini_text.specs.Grammar.CharacterKinds.{is_line_feed}
use Rattle.ini_edit.specs.SourceEditsDelete.{to_line_feed}
use Rattle.ini_edit.proofs.CharsLemmas.{chars-feed}
use Rattle.ini_edit.proofs.source.pair.ends.to_line_feed.Goals as goal

pub returns-then-last-eq10 : goal.returns-then-last-eq10
returns-then-last-eq10 c = chars-nil ∙ ap to_line_feed (sym c.if-last-eq10.true)

pub returns-else-last-eq10 : goal.returns-else-last-eq10
returns-else-last-eq10 c =
    chars-feed ∙ sym (cond-false (is_line_feed c.args.last) _ _ (ne_eqb _ _ c.if-last-eq10.false))
