use Rattle.std.proofs.Common.{◌∙◌, ◌++◌, ◌∷◌, [], ap, refl, sym}
use Rattle.ini_text.specs.Grammar.Places.{separator_text}
use Rattle.ini_edit.specs.Inside.SourceElementWalks.{passed, passed_character}
use Rattle.ini_edit.proofs.SourceElementLemmas.{onward, passed-append}
use Rattle.ini_edit.proofs.source.elements.end_of_key.Goals as goal

pub returns-in-Some : goal.returns-in-Some
returns-in-Some c =
    let key = c.args.pair.now.stretches.key in
    let m = c.in-Some.separator in
    c.next.ensures ∙ ap (λ p. passed_character p m) (c.after-end.ensures ∙ onward refl c.raw_key.ensures)
    ∙ sym (passed-append c.args.position key (m ∷ []))
    ∙ ap (λ o. passed c.args.position (key ++ separator_text o)) c.in-Some.ensures
