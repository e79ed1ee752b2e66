use Rattle.std.proofs.Common.{◌∙◌, sym}
use Rattle.ini_file.proofs.PlacedLemmas.{name-past, name-there}
use Rattle.ini_file.proofs.layer_origins.name_at.Goals as goal

pub returns-in-Some : goal.returns-in-Some
returns-in-Some c =
    let found = c.in-Some.ensures.lookup in
    c.as_str.ensures.value
    ∙ name-there c.args.names.now c.args.index c.in-Some.name.now found.3.0 found.1

pub returns-in-None : goal.returns-in-None
returns-in-None c = sym (name-past c.args.names.now c.args.index c.in-None.ensures.lookup.3)
