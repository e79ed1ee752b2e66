use Rattle.std.proofs.Common.{subst}
use Rattle.std.specs.Str.{chars}
use Rattle.ini_text.specs.Device.Gathering.{Sends}
use Rattle.ini.proofs.WritingLemmas.{pair_parts}
use Rattle.ini.proofs.write.write_pair.Goals as goal

pub returns : goal.returns
returns g c =
    let parts = pair_parts c.args.option.now (chars c.args.key.now) (chars c.args.value.now) in
    subst (Sends _ _ _ _ _ _) parts (simp c.as_str-end.ensures at c.put_line.ensures)
