use Rattle.std.proofs.Common.{◌∙◌, ◌++◌, ap, append-nil, chars, false, rules, sym}
use Rattle.std.proofs.lemmas.Str.{chars-nil}
use Rattle.ini_text.specs.Parsing.Items.{string_text}
use Rattle.ini_edit.specs.SourceEntries.{comments_from}
use Rattle.ini_edit.proofs.source.layout.entries.comments_in.Goals as goal

pub characters-init : goal.characters-init
characters-init c = (
  ap (λ t. t ++ comments_from false (chars c.args.gap.now)) (ap chars c.new-comments.ensures.bytes
      ∙ chars-nil),
  search rules,
)

pub characters-preserved : goal.characters-preserved
characters-preserved c = (
  c.in_ok-is_inside.ensures.pushed
      ∙ ap (λ t. string_text c.characters.comments ++ comments_from c.characters.is_inside t)
      (sym c.in-Some.ensures.characters)
      ∙ c.characters.invariant.0,
  search rules,
)

pub returns-clause-comments : goal.returns-clause-comments
returns-clause-comments c =
    sym (append-nil (string_text c.characters.comments))
    ∙ sym (ap (λ t. string_text c.characters.comments ++ comments_from c.characters.is_inside t)
    c.in_default.ensures.characters) ∙ c.characters.invariant.0
