use Rattle.std.proofs.Common.{length, chars}
use denote.Text.{Utf8}
use denote.Shadow.{shadow}
use Rattle.ini_text.specs.Parsing.Fronts.{front_of, IsRest}
use Rattle.ini_text.specs.Parsing.Trivia.{AreTrivia}
use Rattle.ini_text.proofs.parser.trivia.after_trivia.Given as goal

abbrev pub decreases-trivia : goal.decreases-trivia
decreases-trivia l = length (chars l.rest)

abbrev pub invariant-trivia : goal.invariant-trivia
invariant-trivia l = record {
  text : shadow (Utf8 l.rest);
  within : IsRest (chars l.fn.text) (chars l.rest);
  skipped : AreTrivia l.fn.read (front_of (chars l.fn.text) (chars l.fn.start))
      (front_of (chars l.fn.text) (chars l.rest));
}
