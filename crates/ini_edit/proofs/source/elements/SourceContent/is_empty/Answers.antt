use Rattle.std.proofs.Common.{◌∙◌, ap, sym}
use Rattle.ini_edit.specs.SourceElements.{content_text, shown_content}
use Rattle.ini_edit.specs.SourceLines.{is_empty}
use Rattle.ini_edit.proofs.source.elements.SourceContent.is_empty.Goals as goal

pub returns-in-Header : goal.returns-in-Header
returns-in-Header c =
    c.is_empty.ensures ∙ ap (λ s. is_empty (content_text (shown_content s))) (sym c.in-Header.is)

pub returns-in-Pair : goal.returns-in-Pair
returns-in-Pair c =
    c.is_empty-in-Pair.ensures ∙ ap (λ s. is_empty (content_text (shown_content s))) (sym c.in-Pair.is)

pub returns-in-Between : goal.returns-in-Between
returns-in-Between c =
    c.is_empty-in-Between.ensures ∙ ap (λ s. is_empty (content_text (shown_content s))) (sym c.in-Between.is)
