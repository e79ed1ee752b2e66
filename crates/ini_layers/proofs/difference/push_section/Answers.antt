use Rattle.ini.specs.Texts.{str_name, str_text}
use Rattle.ini_layers.proofs.ListingLemmas.{change_made, lists-step}
use Rattle.ini_layers.proofs.difference.push_section.Goals as goal

pub loop-key-preserved : goal.loop-key-preserved
loop-key-preserved c =
    lists-step c.args.which c.args.from.now c.args.to.now (str_name c.args.name)
    (str_text c.in-Some-2.key, str_text c.in-Some-2.field-0-1) _ c.in-Some-2.ensures.steps
    c.loop-key.invariant
    (change_made c.args.from.now c.args.to.now (str_name c.args.name) (str_text c.in-Some-2.key) _ _ _ _
    c.value_in.ensures c.value_in-in-loop-key.ensures c.section-old.ensures c.section-new.ensures)
    c.in_ok-push_change.ensures.seen c.in_ok-push_change.ensures.listed
