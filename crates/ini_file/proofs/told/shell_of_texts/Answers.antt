use Rattle.std.proofs.Common.{◌∙◌, ap, flat_map, map, sym}
use Rattle.ini.specs.Texts.{str_name, str_text}
use Rattle.ini_file.specs.Shells.{shell_line}
use Rattle.ini_file.proofs.TypedGetLemmas.{got-no-texts, got-texts}
use Rattle.ini_file.proofs.told.shell_of_texts.Goals as goal

pub returns-then-is_empty : goal.returns-then-is_empty
returns-then-is_empty c =
    let w = c.args.wanted in
    got-no-texts (λ texts. flat_map (shell_line (str_name w.section) (str_text w.key)) texts)
    c.as_slice-texts.result.now _ (ap (map str_text) c.as_slice-texts.ensures.value ∙ c.in_ok-got.ensures)
    (sym c.is_empty.ensures ∙ c.if-is_empty.true)

pub returns : goal.returns
returns c =
    let w = c.args.wanted in
    got-texts (λ texts. flat_map (shell_line (str_name w.section) (str_text w.key)) texts)
    c.as_slice-texts.result.now _ (ap (map str_text) c.as_slice-texts.ensures.value ∙ c.in_ok-got.ensures)
    (sym c.is_empty.ensures ∙ c.if-is_empty.false) c.push_shell_values.new.bytes
    (rw c.new-bytes.ensures.items at c.in_ok-push_shell_values.ensures)
