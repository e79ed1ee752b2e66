use Rattle.ini_text.proofs.PlaceLemmas.SpaceAfterLemmas.{space_boundary, space_whole, space_parts}
use Rattle.ini_text.proofs.parser.placed.split_space_after.Goals as goal

pub split_at-requires : goal.split_at-requires
split_at-requires c =
    space_boundary c.args.lines.now c.without_space_after.result.now c.utf8.lines c.without_space_after.utf8
    c.without_space_after.ensures

pub returns-clause-whole : goal.returns-clause-whole
returns-clause-whole c = space_whole c.args.lines.now c.without_space_after.result.now c.split_at.result.0.now
    c.split_at.result.1.now c.utf8.lines c.without_space_after.utf8
    c.without_space_after.ensures c.split_at.ensures.front c.split_at.ensures.back

pub returns-clause-space_after : goal.returns-clause-space_after
returns-clause-space_after c =
    space_parts c.args.lines.now c.without_space_after.result.now c.split_at.result.0.now
    c.split_at.result.1.now c.utf8.lines c.without_space_after.utf8
    c.without_space_after.ensures c.split_at.ensures.front c.split_at.ensures.back
