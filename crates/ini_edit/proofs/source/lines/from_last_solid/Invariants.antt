use Rattle.std.proofs.Common.{◌≡◌, length, chars}
use denote.Shadow.{shadow}
use denote.Text.{Utf8}
use Rattle.std.specs.Option.{option_map}
use Rattle.ini.specs.Texts.{str_text}
use Rattle.ini_edit.specs.Inside.CommentStates.{comment_state_of}
use Rattle.ini_edit.specs.SourceLines.{from_last_solid}
use Rattle.ini_edit.proofs.SourceLineWalkLemmas.{solid_so_far}
use Rattle.ini_edit.proofs.source.lines.from_last_solid.Given as goal

abbrev pub invariant-characters : goal.invariant-characters
invariant-characters l = record {
  rest : shadow (Utf8 l.rest);
  so_far : solid_so_far (comment_state_of l.state) l.last (option_map str_text l.solid) (chars l.rest)
      ≡ from_last_solid l.fn.before (chars l.fn.text);
}

abbrev pub decreases-characters : goal.decreases-characters
decreases-characters l = length (chars l.rest)
