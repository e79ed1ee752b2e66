use Rattle.std.proofs.Common.{rules}
use Rattle.std.specs.Str.{IsUtf8}
use Rattle.ini_file.specs.Ruled.{ruled_of}
use Rattle.ini_file.proofs.SideEndLemmas.{ends_sides}
use Rattle.ini_file.proofs.three_way.merge_sides.Goals as goal

pub returns-in-Ok-text_of : goal.returns-in-Ok-text_of
returns-in-Ok-text_of c =
    let parts = c.in-Ok-text_of.ensures.parts in
    let utf8 : IsUtf8 c.in-Ok-text_of.text.now = search rules in
    ends_sides (ruled_of c.args.ruled) c.args.side c.args.base.now c.args.ours.now c.args.theirs.now _ _
    c.in-Ok.ensures.loaded c.in-Ok-load.ensures.loaded c.in-Ok-text_of.front.now c.in-Ok-text_of.text.now
    parts.0 parts.1 utf8 c.merge_into.result c.merge_into.ensures
