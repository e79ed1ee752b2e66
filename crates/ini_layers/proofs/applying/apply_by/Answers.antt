use Rattle.std.proofs.Common.{map, subst}
use Rattle.ini_edit.specs.Sources.{document_in}
use Rattle.ini_layers.specs.Differences.{setting_change}
use Rattle.ini_layers.specs.SourceChanges.{AreMadeBy}
use Rattle.ini_layers.proofs.AfterLemmas.{difference-leads}
use Rattle.ini_layers.proofs.MadeLemmas.{made-values, none_made}
use Rattle.ini_layers.proofs.applying.apply_by.Goals as goal

pub returns-in-Err-clause-refused : goal.returns-in-Err-clause-refused
returns-in-Err-clause-refused c =
    rw (c.refused_at.ensures, c.into.ensures, c.in-Err.ensures.only)
    (none_made c.args.which c.args.rule c.args.write.now
    (map setting_change c.args.changes.now) c.args.source.now)

pub returns-clause-made : goal.returns-clause-made
returns-clause-made c =
    subst (λ p. AreMadeBy c.args.which c.args.rule c.args.write.now p (map setting_change c.args.changes.now)
    c.put_all.new.source)
    c.in-Ok.ensures.copied c.in_ok-put_all.ensures.made

pub returns-clause-values : goal.returns-clause-values
returns-clause-values c = made-values c.args.which c.args.rule c.args.write.now (returns-clause-made c)

pub returns-clause-leads : goal.returns-clause-leads
returns-clause-leads c =
    difference-leads c.args.which c.args.rule (map setting_change c.args.changes.now)
    (document_in c.args.source.now) _
    (returns-clause-values c)
