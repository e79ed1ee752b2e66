use Rattle.std.proofs.Common.{◌≡◌, ◌++◌, OnOk, subst}
use Rattle.std.specs.Prelude.{encode_utf8_all}
use Rattle.ini.specs.Texts.{str_name}
use Rattle.ini_file.proofs.ChangeLemmas.{of-conflict}
use Rattle.ini_file.proofs.change_lines.push_conflict.Goals as goal

pub returns : goal.returns
returns c =
    let change = c.args.conflict.change in
    let is = of-conflict (str_name change.name) _ _ _ change.key.now c.front_of.ensures
    (str_name change.old) (str_name change.new) (str_name c.args.conflict.theirs) _ _ _ _ _ _
    c.told.ensures c.told-2.ensures c.told-3.ensures in
    subst (λ text. OnOk c.push_parts.result (c.push_parts.new.lines.items
    ≡ c.args.lines.now.items ++ encode_utf8_all text)) is c.push_parts.ensures
