-- A plain document's text alone.
use Rattle.ini.proofs.InversionLemmas.{of_characters, own_document}
use Rattle.ini.proofs.laws.loads_back.Goals as goal

pub returns : goal.returns
returns c =
    let o = c.args.read in
    let w = c.args.write.now in
    record {
      characters = of_characters o w c.requires;
      document = own_document o w c.requires;
    }
