use Rattle.ini_text.proofs.parser.short.split_coded.Goals as goal

pub returns : goal.returns
returns c = rw c.split_at.ensures.back c.in_ok-value.ensures.0
