use Rattle.std.proofs.Common.{◌≡◌, ◌++◌, OnOk, subst}
use Rattle.std.specs.Prelude.{encode_utf8_all}
use Rattle.ini.specs.Texts.{str_name}
use Rattle.ini_file.proofs.ChangeLemmas.{of-changed, of-gone, of-new}
use Rattle.ini_file.proofs.change_lines.push_words.Goals as goal

pub returns-in-Some-Some : goal.returns-in-Some-Some
returns-in-Some-Some c =
    let is = of-changed (str_name c.args.change.name) _ _ _ c.args.change.key.now c.front_of.ensures
    c.args.front.now c.in-Some-Some.old.now c.in-Some-Some.new.now c.args.end.now in
    rw (c.in-Some-Some.is-0, c.in-Some-Some.is-1)
    (subst (λ text. OnOk c.push_parts.result (c.push_parts.new.lines.items
    ≡ c.args.lines.now.items ++ encode_utf8_all text)) is c.push_parts.ensures)

pub returns-in-Some-None : goal.returns-in-Some-None
returns-in-Some-None c =
    let is = of-gone (str_name c.args.change.name) _ _ _ c.args.change.key.now c.front_of.ensures
    c.args.front.now c.in-Some-None.old.now c.args.end.now in
    rw (c.in-Some-None.is-0, c.in-Some-None.is-1)
    (subst (λ text. OnOk c.push_parts-in-Some-None.result (c.push_parts-in-Some-None.new.lines.items
    ≡ c.args.lines.now.items ++ encode_utf8_all text)) is c.push_parts-in-Some-None.ensures)

pub returns-in-None-Some : goal.returns-in-None-Some
returns-in-None-Some c =
    let is = of-new (str_name c.args.change.name) _ _ _ c.args.change.key.now c.front_of.ensures
    c.args.front.now c.in-None-Some.new.now c.args.end.now in
    rw (c.in-None-Some.is-0, c.in-None-Some.is-1)
    (subst (λ text. OnOk c.push_parts-in-None-Some.result (c.push_parts-in-None-Some.new.lines.items
    ≡ c.args.lines.now.items ++ encode_utf8_all text)) is c.push_parts-in-None-Some.ensures)
