use Rattle.std.proofs.Common.{◌≡◌, None, take}
use Rattle.ini_edit.specs.Inside.SourceSearches.{IsSearched}
use Rattle.ini_edit.specs.Sources.{sections_text}
use Rattle.ini_edit.proofs.source.Source.line_end.Given as goal

abbrev pub invariant-loop-section : goal.invariant-loop-section
invariant-loop-section l = record {
  searched : IsSearched (sections_text (take l.section-index l.section-items)) l.search;
  none : l.search.found ≡ None;
}
