use Rattle.std.proofs.Common.{rules}
use Rattle.ini_text.specs.Parsing.Trivia.{AreTrivia}
use Rattle.ini_text.proofs.ReaderLemmas.TriviaLemmas.{skips_all, skips_one}
use Rattle.ini_text.proofs.parser.trivia.after_trivia.Goals as goal

pub trivia-init : goal.trivia-init
trivia-init c = record { text = search rules; within = c.requires; skipped = AreTrivia.none }

pub trivia-smaller : goal.trivia-smaller
trivia-smaller c =
    (skips_one c.args.read.now _ c.trivia.invariant.within c.trivia.invariant.skipped c.front_before.ensures
    c.in-Some.ensures).shorter

pub trivia-preserved : goal.trivia-preserved
trivia-preserved c =
    let one =
    skips_one c.args.read.now _ c.trivia.invariant.within c.trivia.invariant.skipped c.front_before.ensures
    c.in-Some.ensures in
    record { text = search rules; within = one.within; skipped = one.skipped }

pub returns-clause-skipped : goal.returns-clause-skipped
returns-clause-skipped c =
    skips_all c.args.read.now _ c.trivia.invariant.within c.trivia.invariant.skipped c.front_before.ensures
    c.in_default.ensures
