use Rattle.std.proofs.Common.{◌∙◌, ◌++◌, ap, map, sym}
use Rattle.std.specs.Prelude.{codes}
use Rattle.ini.specs.Texts.{str_text}
use Rattle.ini_file.specs.Told.{json_line}
use Rattle.ini_file.proofs.TypedGetLemmas.{got-no-texts, got-texts}
use Rattle.ini_file.proofs.told.json_of_texts.Goals as goal

pub returns-then-is_empty : goal.returns-then-is_empty
returns-then-is_empty c =
    got-no-texts json_line c.as_slice-texts.result.now _
    (ap (map str_text) c.as_slice-texts.ensures.value ∙ c.in_ok-got.ensures)
    (sym c.is_empty.ensures ∙ c.if-is_empty.true)

pub returns : goal.returns
returns c =
    got-texts json_line c.as_slice-texts.result.now _
    (ap (map str_text) c.as_slice-texts.ensures.value ∙ c.in_ok-got.ensures)
    (sym c.is_empty.ensures ∙ c.if-is_empty.false) c.push.new.self
    (c.in_ok-push.ensures.items
    ∙ ap (λ b. b ++ codes "\n") (rw c.new-bytes.ensures.items at c.in_ok-push_value.ensures))
