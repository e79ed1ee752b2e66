use Rattle.ini.specs.Texts.{str_name}
use Rattle.std.proofs.Common.{ap, refl}
use Rattle.ini_layers.specs.Differences.{setting_change}
use Rattle.ini_file.proofs.LeftLemmas.{ours_made}
use Rattle.ini_file.proofs.left_conflicts.make_ours.Goals as goal

pub returns-in-Some-clause-made : goal.returns-in-Some-clause-made
returns-in-Some-clause-made c =
    ours_made c.args.which c.args.rule c.args.write.now c.args.source.now c.apply_in_place_by.new.source
    (setting_change c.args.change) _ c.apply_in_place_by.result (ap str_name c.in-Some.is)
    c.apply_in_place_by.ensures.made

pub returns-in-None-clause-made : goal.returns-in-None-clause-made
returns-in-None-clause-made c = rw c.in-None.is refl
