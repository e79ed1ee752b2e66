use Rattle.std.proofs.Common.{ap, subst}
use Rattle.ini_text.specs.Grammar.Places.{separator_text}
use Rattle.ini_edit.specs.Inside.SourceSearches.{IsSearched}
use Rattle.ini_edit.proofs.SourcePartLemmas.{search_parts}
use Rattle.ini_edit.proofs.source.pair.SourcePair.search_line_end.Goals as goal

pub returns : goal.returns
returns c = λ front searched.
    subst (λ t. IsSearched t c.after-7.result)
    (search_parts front c.args.self.now c.raw_key.ensures (ap separator_text c.separator.ensures)
    c.space_before.ensures c.raw_value.ensures c.space_after.ensures c.note.ensures
    c.trailing_lines.ensures c.after-6.ensures)
    (c.after-7.ensures _ (c.after-5.ensures _ (c.after-4.ensures _ (c.after-3.ensures _
    (c.after-search.ensures _ (c.after-2.ensures _ (c.after_separator-search.ensures _
    (c.after.ensures front searched))))))))
