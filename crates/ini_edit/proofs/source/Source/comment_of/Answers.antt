use Rattle.std.proofs.Common.{◌∙◌, ap}
use Rattle.std.specs.Option.{option_map}
use Rattle.ini_edit.specs.SourceEditsComments.{comments_above}
use Rattle.ini_edit.proofs.SourceIndexLemmas.{found_indexed}
use Rattle.ini_edit.proofs.source.Source.comment_of.Goals as goal

pub returns : goal.returns
returns c = c.comment_at.ensures ∙ ap (option_map comments_above) (found_indexed c.in_ok-section.ensures)
