use Rattle.std.proofs.Common.{None, Some, arith, lit<}
use Rattle.std.proofs.lemmas.Str.Pattern.{split_once_first}
use Rattle.ini_file.proofs.spelling.parted.Goals as goal

pub returns-in-Some : goal.returns-in-Some
returns-in-Some c =
    let parts = split_once_first 61 c.args.word.now (Some (c.in-Some.name, c.in-Some.text))
    c.in-Some.ensures.cases (lit< tt) in
    grind (arith, parts.0, parts.1, parts.2)

pub returns-in-None : goal.returns-in-None
returns-in-None c =
    let lacks = split_once_first 61 c.args.word.now None c.in-None.ensures.cases (lit< tt) in
    grind (arith, lacks)
