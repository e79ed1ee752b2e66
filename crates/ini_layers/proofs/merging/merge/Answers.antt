use Rattle.std.proofs.Common.{◌≡◌, arith, subst}
use Rattle.ini_edit.specs.Sources.{document_in}
use Rattle.ini_dialect.specs.Flattened.{flattened}
use Rattle.ini_layers.specs.Merging.{flat_sides, taken_changes, taken_under}
use Rattle.ini_layers.specs.SourceChanges.{AreMade}
use Rattle.ini_layers.specs.declared.change.SettingValue.TheVariants.{Counting}
use Rattle.ini_layers.proofs.MadeLemmas.{none_made}
use Rattle.ini_layers.proofs.MergeLemmas.{made-nothing, merged-from_base, taken-alike, taken-none}
use Rattle.ini_layers.proofs.ToldLemmas.{alike-flat}
use Rattle.ini_layers.proofs.merging.merge.Goals as goal

pub returns-in-Err-clause-refused : goal.returns-in-Err-clause-refused
returns-in-Err-clause-refused c =
    rw (c.refused_at.ensures, c.into.ensures, c.in-Err.ensures.only_memory)
    (none_made Counting c.args.rule c.args.write.now (taken_under c.args.rule c.args.side c.args.base.now
    c.args.ours.now (document_in c.args.theirs.now)) c.args.theirs.now)

pub returns-clause-made : goal.returns-clause-made
returns-clause-made c =
    let is : c.in-Ok.sides ≡ flat_sides c.args.rule c.args.base.now c.args.ours.now
    (document_in c.args.theirs.now) = grind arith in
    subst (λ s. AreMade c.args.rule c.args.write.now c.args.theirs.now
    (taken_changes c.args.side s.base s.ours s.theirs) c.in_ok-new.new) is c.in_ok-new.ensures.made

pub returns-clause-merged : goal.returns-clause-merged
returns-clause-merged c =
    c.in_ok-new.ensures.merged c.args.base.now c.args.ours.now (grind arith)

pub returns-clause-ours_is_base : goal.returns-clause-ours_is_base
returns-clause-ours_is_base c = λ agree.
    made-nothing Counting c.args.rule c.args.write.now (returns-clause-made c)
    (taken-none c.args.side (flattened c.args.rule c.args.base.now) (flattened c.args.rule c.args.ours.now)
    (flattened c.args.rule (document_in c.args.theirs.now))
    (alike-flat Counting c.args.rule c.args.base.now c.args.ours.now agree))

pub returns-clause-theirs_is_base : goal.returns-clause-theirs_is_base
returns-clause-theirs_is_base c =
    merged-from_base Counting c.args.rule c.args.side c.args.base.now c.args.ours.now
    (document_in c.args.theirs.now) _ (returns-clause-merged c)

pub returns-clause-both_alike : goal.returns-clause-both_alike
returns-clause-both_alike c = λ agree.
    made-nothing Counting c.args.rule c.args.write.now (returns-clause-made c)
    (taken-alike c.args.side (flattened c.args.rule c.args.base.now)
    (flattened c.args.rule c.args.ours.now) (flattened c.args.rule (document_in c.args.theirs.now))
    (alike-flat Counting c.args.rule c.args.ours.now (document_in c.args.theirs.now) agree))
