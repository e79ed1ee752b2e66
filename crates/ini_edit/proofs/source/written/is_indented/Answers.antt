use Rattle.std.proofs.Common.{◌∙◌, ap, not, sym}
use Rattle.ini_text.specs.Parsing.Fronts.{front_of}
use Rattle.ini_edit.specs.SourceLines.{after_blanks, is_empty}
use Rattle.ini_edit.proofs.StyleLemmas.{blanks_begin}
use Rattle.ini_edit.proofs.source.written.is_indented.Goals as goal

pub returns : goal.returns
returns c =
    ap not (c.is_empty.ensures ∙ ap is_empty (c.split_blanks.ensures.blanks
    ∙ ap (λ t. front_of t (after_blanks t)) c.raw_key.ensures))
    ∙ sym (blanks_begin c.args.pair.now.stretches.key)
