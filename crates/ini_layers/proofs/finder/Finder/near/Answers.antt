use Rattle.std.proofs.Common.{chars}
use Rattle.ini.specs.Texts.{str_name}
use Rattle.ini_layers.proofs.FindingLemmas.{there}
use Rattle.ini_layers.proofs.finder.Finder.near.Goals as goal

pub returns : goal.returns
returns c =
    there (str_name c.args.name) (chars c.args.key.now) c.sections-sections.ensures c.in_ok-section.ensures
    c.index-sections-section.is c.pairs.ensures c.in_ok-pair.ensures
