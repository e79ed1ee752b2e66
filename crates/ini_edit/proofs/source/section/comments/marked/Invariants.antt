use Rattle.std.proofs.Common.{◌≡◌, ◌∷◌, ◌++◌, chars, length}
use denote.Shadow.{shadow}
use denote.Text.{Utf8}
use Rattle.ini_text.specs.Grammar.CharacterKinds.{semicolon, space}
use Rattle.ini_text.specs.Parsing.Items.{string_text}
use Rattle.ini_edit.specs.SourceEditsComments.{marked}
use Rattle.ini_edit.proofs.source.section.comments.marked.Given as goal

abbrev pub invariant-characters : goal.invariant-characters
invariant-characters l = record {
  so_far : string_text l.marks ++ marked (chars l.rest) ≡ semicolon ∷ space ∷ marked (chars l.fn.text);
  rest : shadow (Utf8 l.rest);
}

abbrev pub decreases-characters : goal.decreases-characters
decreases-characters l = length (chars l.rest)
