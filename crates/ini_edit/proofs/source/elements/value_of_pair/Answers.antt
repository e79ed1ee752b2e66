use Rattle.std.proofs.Common.{◌∙◌, ◌++◌, ap, append_assoc, sym}
use Rattle.ini_text.specs.Grammar.Places.{separator_text}
use Rattle.ini_edit.specs.Inside.SourceElementWalks.{passed}
use Rattle.ini_edit.proofs.SourceElementLemmas.{onward, passed-append}
use Rattle.ini_edit.proofs.source.elements.value_of_pair.Goals as goal

pub returns : goal.returns
returns c =
    let s = c.args.pair.now.stretches in
    let between = separator_text s.separator in
    c.after.ensures ∙ onward c.end_of_key.ensures c.space_before.ensures
    ∙ sym (passed-append c.args.position (s.key ++ between) s.space_before)
    ∙ ap (passed c.args.position) (append_assoc s.key between s.space_before)
