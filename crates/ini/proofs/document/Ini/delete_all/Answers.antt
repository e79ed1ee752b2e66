use Rattle.std.proofs.Common.{◌∙◌, ap, sym, is_some}
use Rattle.ini.specs.Texts.{str_name}
use Rattle.ini.proofs.EverySectionLemmas.{all_gone}
use Rattle.ini.proofs.document.Ini.delete_all.Goals as goal

pub returns : goal.returns
returns c =
    let none = ap is_some (sym c.delete.ensures.section) ∙ sym c.is_some.ensures ∙ c.if-is_some.false in
    all_gone (str_name c.args.name) c.args.self.now c.sections.self c.delete.new.self
    c.sections.invariant none c.delete.ensures.removed
