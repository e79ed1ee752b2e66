use Rattle.std.proofs.Common.{◌∙◌, ap, not, refl, sym}
use Rattle.std.specs.Option.{option_copied}
use Rattle.ini.specs.Texts.{is_name, str_name}
use Rattle.ini.proofs.RenameLemmas.{none_found, renamed-none}
use Rattle.ini.proofs.document.Ini.rename_section.Goals as goal

pub returns-then-is_none-clause-renamed : goal.returns-then-is_none-clause-renamed
returns-then-is_none-clause-renamed c =
    let none = none_found option_copied c.section.result _ refl
    (c.is_none.ensures ∙ ap not c.if-is_none.true) c.section.ensures in
    sym (renamed-none (is_name (str_name c.args.name)) (str_name c.args.other) c.args.self.now none)
