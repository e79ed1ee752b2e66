use Rattle.std.proofs.Common.{◌≡◌, ◌∙◌, ◌++◌, [], ap, chars, cond}
use Rattle.ini_text.specs.Options.WriteOptions.{line_end}
use Rattle.ini_text.specs.Parsing.Items.{string_text}
use Rattle.ini.proofs.WritingLemmas.{chars-line_end}
use Rattle.ini_edit.specs.SourceEditsSections.{ends_empty}
use Rattle.ini_edit.proofs.EmptyLineEndLemmas.{empty_line_is}
use Rattle.ini_edit.proofs.source.section.ends.lines_between.Goals as goal

pub returns-clause-lines : goal.returns-clause-lines
returns-clause-lines c =
    let end = line_end c.args.end in
    let glue = cond c.args.is_ended [] end in
    let is_glue : chars c.unless-glue.result.now ≡ glue =
    c.unless-glue.ensures ∙ ap (λ t. cond c.args.is_ended [] t) (ap chars c.as_str.ensures
    ∙ chars-line_end c.args.end) in
    c.in_ok-push_text-2.ensures.pushed
    ∙ ap (λ t. t ++ chars c.empty_line.result.now) (ap chars c.in_ok-lines.ensures.ok ∙ is_glue)
    ∙ ap (λ t. glue ++ t) (empty_line_is c.empty_line.ensures
    ∙ ap (λ t. cond (ends_empty t) [] end) (ap chars c.as_str-2.ensures.value
    ∙ c.in_ok-push_text.ensures.pushed ∙ ap (λ t. string_text c.args.text ++ t) is_glue))
