use Rattle.std.proofs.Common.{◌∙◌, Some, ap, sym}
use Rattle.std.specs.Option.{option_map}
use Rattle.ini_edit.specs.Inside.SourceEnds.{style_of}
use Rattle.ini_edit.specs.SourceLayout.{without_pad}
use Rattle.ini_edit.proofs.CharsLemmas.{chars-none}
use Rattle.ini_edit.proofs.source.layout.pair.without_pad.Goals as goal

pub returns-in-Some : goal.returns-in-Some
returns-in-Some c =
    ap (λ t. Some (record (style_of c.in-Some.style) { pad = t })) chars-none
    ∙ sym (ap (λ s. option_map without_pad (option_map style_of s)) c.in-Some.is)
