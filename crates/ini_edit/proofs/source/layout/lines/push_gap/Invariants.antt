use Rattle.std.proofs.Common.{◌≡◌, ◌++◌, length, chars}
use denote.Shadow.{shadow}
use denote.Text.{Utf8}
use Rattle.ini_text.specs.Parsing.Fronts.{IsRest, front_of}
use Rattle.ini_text.specs.Parsing.Items.{string_text}
use Rattle.ini_edit.specs.Inside.SourceLayouts.{rules_of}
use Rattle.ini_edit.specs.SourceLayout.{laid_gap, laid_lines}
use Rattle.ini_edit.proofs.source.layout.lines.push_gap.Given as goal

abbrev pub invariant-characters : goal.invariant-characters
invariant-characters l = record {
  line : shadow (Utf8 l.line);
  rest : shadow (Utf8 l.rest);
  is_rest : IsRest (chars l.line) (chars l.rest);
  so_far : string_text l.out ++ laid_lines (rules_of l.fn.rules) l.fn.follower l.is_inside l.ends
      (front_of (chars l.line) (chars l.rest)) (chars l.rest)
      ≡ string_text l.initial.out ++ laid_gap (rules_of l.fn.rules) l.fn.follower (chars l.fn.gap);
}

abbrev pub decreases-characters : goal.decreases-characters
decreases-characters l = length (chars l.rest)
