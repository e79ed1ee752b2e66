use Rattle.std.proofs.Common.{◌∙◌, ap, subst, sym}
use Rattle.ini.specs.Texts.{str_name, str_text}
use Rattle.ini_edit.specs.Sources.{document_in}
use Rattle.ini_dialect.specs.Lookups.{delete_under}
use Rattle.ini_dialect.specs.SourceLookups.{AreDeletedUnder}
use Rattle.ini_dialect.proofs.RuleLemmas.{own-default}
use Rattle.ini_layers.specs.Differences.{setting_change}
use Rattle.ini_layers.specs.declared.change.SettingValue.TheVariants.{Counting}
use Rattle.ini_layers.proofs.MadeLemmas.{default-made, on_both, out-made}
use Rattle.ini_layers.proofs.finder.Finder.put.Goals as goal

pub returns-in-Some-clause-made : goal.returns-in-Some-clause-made
returns-in-Some-clause-made c =
    on_both c.set.result c.set.ensures.set c.set.ensures.document
    (default-made c.args.rule c.args.write.now (setting_change c.args.change) (str_text c.in-Some.value)
    (ap str_name c.in-Some.is) c.requires.own)

pub returns-in_ok-delete-in-None-clause-made : goal.returns-in_ok-delete-in-None-clause-made
returns-in_ok-delete-in-None-clause-made c =
    let out = c.in_ok-delete-in-None.ensures in
    let change = setting_change c.args.change in
    let old = c.args.source.now in
    let same = sym (own-default c.args.rule c.requires.own) in
    out-made c.args.rule c.args.write.now Counting change (ap str_name c.in-None.is)
    (subst (λ r. AreDeletedUnder r change.name change.key old.option old.sections c.delete.new.source.sections)
    same out.deleted)
    out.option (out.document ∙ ap (λ r. delete_under r change.name change.key (document_in old)) same)
