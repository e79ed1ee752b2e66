use Rattle.std.proofs.Common.{◌≡◌, take}
use Rattle.ini_text.specs.Parsing.Items.{string_text}
use Rattle.ini_edit.specs.Inside.Spans.{span_source}
use Rattle.ini_edit.specs.Sources.{joined}
use Rattle.ini_edit.proofs.SourceSpanLemmas.{spans_to_gap}
use Rattle.ini_edit.proofs.source.section.SourceSection.text_before.Given as goal

abbrev pub invariant-loop-i : goal.invariant-loop-i
invariant-loop-i l =
    string_text l.text ≡ joined span_source (spans_to_gap l.self (take l.i l.pair-items))
