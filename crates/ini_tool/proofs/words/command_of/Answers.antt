use Rattle.ini_tool.proofs.RequestLemmas.{with_one, with_three, with_two, without_arguments}
use Rattle.ini_tool.proofs.words.command_of.Goals as goal

pub returns-in_default-word : goal.returns-in_default-word
returns-in_default-word c =
    without_arguments _ _ c.in-empty.len_below
    c.in_default-word.not-fmt c.in_default-word.not-list

pub returns-in_default-word-2 : goal.returns-in_default-word-2
returns-in_default-word-2 c =
    with_one _ _ c.in-len1.len_at_least c.in-len1.len_below
    c.in_default-word-2.not-get c.in_default-word-2.not-del

pub returns-in_default-word-3 : goal.returns-in_default-word-3
returns-in_default-word-3 c =
    with_two _ _ c.in-len2.len_at_least c.in-len2.len_below
    c.in_default-word-3.not-get c.in_default-word-3.not-del c.in_default-word-3.not-set

pub returns-in_default-word-4 : goal.returns-in_default-word-4
returns-in_default-word-4 c =
    with_three _ _ c.in-len3.len_at_least c.in-len3.len_below
    c.in_default-word-4.not-set
