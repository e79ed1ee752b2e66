-- One text, one document.
use Rattle.ini.proofs.InversionLemmas.{same_text}
use Rattle.ini.proofs.laws.same_text.Goals as goal

pub returns : goal.returns
returns c =
    same_text c.args.read c.args.write.now c.args.one.now c.args.other.now c.requires.one c.requires.other
    c.requires.same
