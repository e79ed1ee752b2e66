use Rattle.std.proofs.Common.{◌∙◌, ap, not}
use Rattle.std.proofs.lemmas.Str.{chars-nil}
use Rattle.ini_edit.specs.SourceLines.{is_empty, line_end_at_end}
use Rattle.ini_edit.proofs.GapPlaceLemmas.{same_place}
use Rattle.ini_edit.proofs.source.place.after_header.Goals as goal

pub returns : goal.returns
returns c =
    let line = c.split_line.ensures.line in
    same_place line
    (ap not (c.is_empty.ensures
    ∙ ap is_empty (c.line_end_at_end.ensures ∙ ap line_end_at_end line)))
    chars-nil c.split_line.ensures.rest
