use Rattle.std.proofs.Common.{ap, sym, is_some}
use Rattle.ini.proofs.PropertyLemmas.{found_by_text}
use Rattle.ini.proofs.properties.Properties.get_by_bytes.Goals as goal

pub returns-in-Some-clause-text : goal.returns-in-Some-clause-text
returns-in-Some-clause-text c some = found_by_text c.self.inside.pairs c.args.key.now
    (ap is_some (sym c.in-Some.ensures))
