use Rattle.std.proofs.Common.{◌++◌, take}
use Rattle.ini.specs.Texts.{Text}
use Rattle.ini_edit.specs.Inside.SourceSearches.{IsSearched}
use Rattle.ini_edit.specs.Sources.{pairs_text}
use Rattle.ini_edit.proofs.source.section.SourceSection.search_line_end.Given as goal

abbrev pub invariant-loop-pair : goal.invariant-loop-pair
invariant-loop-pair l =
    (front : Text) → IsSearched front l.fn.search
    → IsSearched (front ++ (l.self.header ++ (l.self.after
    ++ pairs_text (take l.pair-index l.pair-items)))) l.search
