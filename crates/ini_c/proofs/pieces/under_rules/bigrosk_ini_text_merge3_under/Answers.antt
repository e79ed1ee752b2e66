use Rattle.std.proofs.Common.{sym}
use Rattle.ini_c.proofs.pieces.under_rules.bigrosk_ini_text_merge3_under.Goals as goal

pub returns-in-Some-clause-made : goal.returns-in-Some-clause-made
returns-in-Some-clause-made c = λ is.
    rw (c.in-Some.ensures.lookup, sym c.in-Some.ensures.which) (c.merge_under.ensures.made is)

pub returns-in-Some-clause-theirs_is_base : goal.returns-in-Some-clause-theirs_is_base
returns-in-Some-clause-theirs_is_base c = λ is.
    rw (c.in-Some.ensures.lookup, sym c.in-Some.ensures.which) (c.merge_under.ensures.theirs_is_base is)
