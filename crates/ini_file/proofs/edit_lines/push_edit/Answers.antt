use Rattle.std.proofs.Common.{◌≡◌, ◌++◌, OnOk, refl, subst}
use Rattle.std.specs.Prelude.{encode_utf8_all}
use Rattle.ini_layers.specs.Differences.{setting_change}
use Rattle.ini_file.proofs.ChangeLemmas.{of-edit}
use Rattle.ini_file.proofs.edit_lines.push_edit.Goals as goal

pub returns : goal.returns
returns c =
    let is = of-edit (setting_change c.args.change) _ _ _ c.args.change.key.now _ _ _ _ c.name_of.ensures refl
    c.old_of.ensures c.new_of.ensures in
    subst (λ text. OnOk c.push_parts.result (c.push_parts.new.lines.items
    ≡ c.args.lines.now.items ++ encode_utf8_all text)) is c.push_parts.ensures
