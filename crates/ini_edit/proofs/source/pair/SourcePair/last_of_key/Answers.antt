use Rattle.std.proofs.Common.{◌∙◌, ◌++◌, ◌∷◌, [], ap, sym}
use Rattle.ini_text.specs.Grammar.Places.{separator_text}
use Rattle.ini_text.specs.Grammar.Positions.{last_or}
use Rattle.ini_text.proofs.LawLemmas.PieceLemmas.{last_or-append}
use Rattle.ini_edit.proofs.source.pair.SourcePair.last_of_key.Goals as goal

pub returns-in-Some : goal.returns-in-Some
returns-in-Some c =
    let key = c.args.self.now.stretches.key in
    sym (last_or-append c.args.front key (c.in-Some.separator ∷ []))
    ∙ ap (λ o. last_or c.args.front (key ++ separator_text o)) c.in-Some.ensures
