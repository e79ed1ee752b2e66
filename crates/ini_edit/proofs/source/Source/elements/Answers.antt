use Rattle.std.proofs.Common.{◌∙◌, [], ap, filter}
use Rattle.std.specs.Slice.Iter.{iter_rest}
use Rattle.ini_edit.specs.Inside.SourceElementWalks.{placed_from}
use Rattle.ini_edit.specs.SourceElements.{has_characters, placed_contents, sections_contents}
use Rattle.ini_edit.proofs.SourceElementLemmas.{placed_after}
use Rattle.ini_edit.proofs.source.Source.elements.Goals as goal

pub returns : goal.returns
returns c =
    let sections = sections_contents (iter_rest c.iter.result) in
    ap (λ p. filter has_characters (placed_from p sections)) c.first.ensures
    ∙ ap (filter has_characters) (placed_after [] sections)
    ∙ ap (λ ss. filter has_characters (placed_contents [] (sections_contents ss)))
    (c.iter.ensures.rest ∙ c.sections.ensures)
