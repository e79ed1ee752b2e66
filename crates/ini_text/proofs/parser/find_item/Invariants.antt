use Rattle.std.proofs.Common.{◌≤◌, [], length, chars}
use denote.Text.{Utf8}
use denote.Shadow.{shadow}
use Rattle.ini_text.specs.Parsing.Fronts.{front_of, IsRest}
use Rattle.ini_text.specs.Grammar.Texts.{Reads}
use Rattle.ini_text.proofs.parser.find_item.Given as goal

abbrev pub decreases-elements : goal.decreases-elements
decreases-elements l = length (chars l.rest)

abbrev pub invariant-elements : goal.invariant-elements
invariant-elements l = record {
  text : shadow (Utf8 l.rest);
  within : IsRest (chars l.fn.text) (chars l.rest);
  reads : Reads l.read (chars l.fn.text) (front_of (chars l.fn.text) (chars l.fn.start)) []
      (front_of (chars l.fn.text) (chars l.rest));
  left : length (chars l.rest) ≤ length (chars l.fn.start);
  front : length (front_of (chars l.fn.text) (chars l.fn.start))
      ≤ length (front_of (chars l.fn.text) (chars l.rest));
}
