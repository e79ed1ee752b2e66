use Rattle.std.proofs.Common.{chars}
use Rattle.std.proofs.lemmas.List.{get_or_default}
use Rattle.ini_dialect.specs.Guesses.{AreGuesses}
use Rattle.ini_dialect.proofs.GuessLemmas.{all_guessed, one_more_guessed}
use Rattle.ini_dialect.proofs.guessing.guesses.Goals as goal

pub loop-place-init : goal.loop-place-init
loop-place-init c = rw c.new-guesses.ensures.items AreGuesses.none

pub loop-place-preserved : goal.loop-place-preserved
loop-place-preserved c =
    let pushed = c.in_ok-push_guess.ensures.pushed in
    one_more_guessed (chars c.args.text.now) c.dialects-all.result.now c.loop-place.place _
    c.loop-place-test.true (get_or_default _ _ _ _ c.loop-place-test.true) c.loop-place.invariant pushed.0
    pushed.1 pushed.2

pub returns-clause-ranked : goal.returns-clause-ranked
returns-clause-ranked c =
    all_guessed (chars c.args.text.now) c.dialects-all.result.now c.loop-place.place c.dialects-all.ensures
    c.loop-place-test.false c.loop-place.invariant c.sort_unstable.ensures.permutation
