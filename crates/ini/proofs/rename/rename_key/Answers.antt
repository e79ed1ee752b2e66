use Rattle.std.proofs.Common.{◌∙◌, chars, ap, not, refl, sym}
use Rattle.std.specs.Option.{option_map}
use Rattle.ini.specs.Texts.{is_text, str_text}
use Rattle.ini.proofs.RenameLemmas.{none_found, renamed-none}
use Rattle.ini.proofs.rename.rename_key.Goals as goal

pub returns-then-is_none-clause-renamed : goal.returns-then-is_none-clause-renamed
returns-then-is_none-clause-renamed c =
    let none = none_found (option_map str_text) c.get.result _ refl
    (c.is_none.ensures ∙ ap not c.if-is_none.true) c.get.ensures in
    sym (renamed-none (is_text (chars c.args.key.now)) (chars c.args.other.now) c.args.section.now none)
