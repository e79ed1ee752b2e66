use Rattle.std.proofs.Common.{◌++◌, length, chars}
use denote.Shadow.{shadow}
use denote.Text.{Utf8}
use Rattle.ini.specs.Texts.{Text}
use Rattle.ini_edit.specs.Inside.SourceSearches.{IsSearched}
use Rattle.ini_edit.proofs.LastLineEndLemmas.{SearchedTo}
use Rattle.ini_edit.proofs.source.lines.LineEndSearch.after.Given as goal

abbrev pub invariant-characters : goal.invariant-characters
invariant-characters l = record {
  rest : shadow (Utf8 l.rest);
  so_far : (front : Text) → IsSearched front l.fn.self
      → SearchedTo (front ++ chars l.fn.text) l.last (chars l.rest);
}

abbrev pub decreases-characters : goal.decreases-characters
decreases-characters l = length (chars l.rest)
