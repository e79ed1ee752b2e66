use Rattle.std.proofs.Common.{rules, tests}
use Rattle.std.proofs.lemmas.Iterator.{YieldsList-from_chars}
use Rattle.std.proofs.lemmas.Iterator.Search.{all_from_yields_List}
use Rattle.ini_text.proofs.plain.has_no_close_bracket.Goals as goal

pub returns : goal.returns
returns c = all_from_yields_List _ _ _ _ c.all.ensures.ran
    (YieldsList-from_chars c.args.name.now c.utf8.name cc) (λ x b q k. search (rules, tests))
