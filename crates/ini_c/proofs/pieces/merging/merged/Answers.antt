use Rattle.std.proofs.Common.{◌≡◌, arith, subst}
use Rattle.ini_edit.specs.Sources.{document_in}
use Rattle.ini_layers.specs.Merging.{flat_sides_by, taken_by, taken_changes}
use Rattle.ini_layers.specs.Settings.{flat_by}
use Rattle.ini_layers.specs.SourceChanges.{AreMadeBy}
use Rattle.ini_layers.proofs.MadeLemmas.{none_made}
use Rattle.ini_layers.proofs.MergeLemmas.{made-nothing, merged-from_base, taken-alike, taken-none}
use Rattle.ini_layers.proofs.ToldLemmas.{alike-flat}
use Rattle.ini_c.proofs.pieces.merging.merged.Goals as goal

pub returns-in-Err-clause-refused : goal.returns-in-Err-clause-refused
returns-in-Err-clause-refused c =
    let which = c.args.rule.which in
    let lookup = c.args.rule.lookup in
    rw (c.into.ensures, c.in-Err.ensures.only_memory)
    (none_made which lookup c.args.write.now (taken_by which lookup c.args.side c.args.base.now
    c.args.ours.now (document_in c.args.theirs.now)) c.args.theirs.now)

pub returns-clause-made : goal.returns-clause-made
returns-clause-made c =
    let which = c.args.rule.which in
    let lookup = c.args.rule.lookup in
    let is : c.in-Ok.sides ≡ flat_sides_by which lookup c.args.base.now c.args.ours.now
    (document_in c.args.theirs.now) = grind arith in
    subst (λ s. AreMadeBy which lookup c.args.write.now c.args.theirs.now
    (taken_changes c.args.side s.base s.ours s.theirs) c.in_ok-new.new) is c.in_ok-new.ensures.made

pub returns-clause-merged : goal.returns-clause-merged
returns-clause-merged c =
    c.in_ok-new.ensures.merged c.args.base.now c.args.ours.now (grind arith)

pub returns-clause-ours_is_base : goal.returns-clause-ours_is_base
returns-clause-ours_is_base c = λ agree.
    let which = c.args.rule.which in
    let lookup = c.args.rule.lookup in
    made-nothing which lookup c.args.write.now (returns-clause-made c)
    (taken-none c.args.side (flat_by which lookup c.args.base.now) (flat_by which lookup c.args.ours.now)
    (flat_by which lookup (document_in c.args.theirs.now))
    (alike-flat which lookup c.args.base.now c.args.ours.now agree))

pub returns-clause-theirs_is_base : goal.returns-clause-theirs_is_base
returns-clause-theirs_is_base c =
    merged-from_base c.args.rule.which c.args.rule.lookup c.args.side c.args.base.now c.args.ours.now
    (document_in c.args.theirs.now) _ (returns-clause-merged c)

pub returns-clause-both_alike : goal.returns-clause-both_alike
returns-clause-both_alike c = λ agree.
    let which = c.args.rule.which in
    let lookup = c.args.rule.lookup in
    made-nothing which lookup c.args.write.now (returns-clause-made c)
    (taken-alike c.args.side (flat_by which lookup c.args.base.now)
    (flat_by which lookup c.args.ours.now) (flat_by which lookup (document_in c.args.theirs.now))
    (alike-flat which lookup c.args.ours.now (document_in c.args.theirs.now) agree))
