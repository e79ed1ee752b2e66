use Rattle.ini_text.proofs.StringLemmas.ScanLemmas.{front_boundary, front_le, front_chars}
use Rattle.ini_text.proofs.text.front_before.Goals as goal

pub overflow_sub-text : goal.overflow_sub-text
overflow_sub-text c = front_le c.args.text.now c.args.rest.now c.utf8.text c.utf8.rest c.requires

pub split_at-requires : goal.split_at-requires
split_at-requires c = front_boundary c.args.text.now c.args.rest.now c.utf8.text c.utf8.rest c.requires

pub returns : goal.returns
returns c =
    front_chars c.args.text.now c.args.rest.now c.split_at.result.0.now c.utf8.text c.utf8.rest c.requires
    c.split_at.ensures.front
