use Rattle.std.proofs.Common.{◌∙◌, ap, chars, refl}
use Rattle.ini.specs.Texts.{str_name}
use Rattle.ini_file.specs.LeftConflicts.{IsPutAbove, RefusesAbove, side_comment}
use Rattle.ini_file.proofs.LeftLemmas.{put_if, refused_if}
use Rattle.ini_file.proofs.left_conflicts.put_above.Goals as goal

pub returns-in_default-clause-put : goal.returns-in_default-clause-put
returns-in_default-clause-put c = IsPutAbove.nowhere c.in_default.ensures.none refl

pub returns-in_default-comment_after-clause-refused : goal.returns-in_default-comment_after-clause-refused
returns-in_default-comment_after-clause-refused c = RefusesAbove.no_memory

pub returns-clause-put : goal.returns-clause-put
returns-clause-put c =
    put_if c.args.which c.args.rule c.args.write.now c.args.source.now c.set_comment_in_source.new.source
    (str_name c.args.change.name) (chars c.args.change.key.now) _
    (side_comment (chars c.args.told.0.now) (str_name c.args.told.1)) _ c.set_comment_in_source.result
    c.in-Some.ensures.found (ap chars c.as_str.ensures.value ∙ c.in-Ok.ensures)
    c.set_comment_in_source.ensures.set

pub returns-clause-refused : goal.returns-clause-refused
returns-clause-refused c =
    refused_if c.args.which c.args.rule c.args.write.now c.args.source.now (str_name c.args.change.name)
    (chars c.args.change.key.now) _ (side_comment (chars c.args.told.0.now) (str_name c.args.told.1)) _
    c.set_comment_in_source.result c.in-Some.ensures.found
    (ap chars c.as_str.ensures.value ∙ c.in-Ok.ensures) c.set_comment_in_source.ensures.refused
