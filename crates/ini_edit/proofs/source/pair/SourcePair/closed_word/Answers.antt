use Rattle.std.proofs.Common.{◌≡◌, ◌∙◌, ◌∷◌, ◌++◌, [], ap, chars, cond, sym}
use Rattle.std.proofs.lemmas.Bool.{cond-false, cond-true}
use Rattle.ini_text.specs.Grammar.CharacterKinds.{backslash, space}
use Rattle.ini_edit.specs.SourcePlaces.{last_word}
use Rattle.ini_edit.proofs.PairEndLemmas.{closed_by_one, closed_not}
use Rattle.ini_edit.proofs.source.pair.SourcePair.closed_word.Goals.{else-read, then-read}
use Rattle.ini_edit.proofs.source.pair.SourcePair.closed_word.Goals as goal

pub returns-then-not-takes_next-clause-closed : goal.returns-then-not-takes_next-clause-closed
returns-then-not-takes_next-clause-closed c =
    sym (closed_not c.args.read c.args.self.now (sym c.takes_next.ensures ∙ c.if-not-takes_next.true))

pub returns-clause-closed : goal.returns-clause-closed
returns-clause-closed c =
    let escape = c.args.read.enabled_escape in
    let last : c.if-read.push ≡ cond escape backslash space = elim c.if-read.branch [
      | then-read w ↦ w.push-is ∙ sym (cond-true escape backslash space w.if-read.true)
      | else-read w ↦ w.push-is ∙ sym (cond-false escape backslash space w.if-read.false)
    ] in
    c.in_ok-push.ensures
    ∙ ap (λ t. t ++ c.if-read.push ∷ []) (ap chars c.in_ok-word.ensures.ok ∙ c.last_word.ensures)
    ∙ ap (λ x. last_word c.args.self.now ++ x ∷ []) last
    ∙ sym (closed_by_one c.args.read c.args.self.now
    (sym c.takes_next.ensures ∙ c.if-not-takes_next.false))
