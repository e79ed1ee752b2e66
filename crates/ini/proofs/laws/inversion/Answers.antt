-- The inversion.
use Rattle.std.proofs.Common.{chars}
use Rattle.ini.proofs.InversionLemmas.{inverts, of_characters, own_document}
use Rattle.ini.proofs.laws.inversion.Goals as goal

pub returns : goal.returns
returns c =
    let o = c.args.read in
    let w = c.args.write.now in
    record {
      characters = of_characters o w c.requires.plain;
      document = own_document o w c.requires.plain;
      inverts = inverts o w c.requires.plain (chars c.args.follows.now) c.requires.follows;
    }
