-- The lines after a multiline value without the quiet ones at their end, before all that may follow it.
use Rattle.std.proofs.Common.{◌≡◌, ◌≢◌, ◌∙◌, true, false, [], ◌++◌, ap, append_assoc, refl, sym}
use Rattle.std.proofs.lemmas.Bool.{and_parts, both_ways}
use Rattle.std.proofs.lemmas.List.Folds.{list_all-append}
use Rattle.std.specs.List.{list_all}
use Rattle.ini_text.specs.Grammar.CharacterKinds.{is_line_feed}
use Rattle.ini_text.specs.Grammar.Places.{TrailingLines}
use Rattle.ini_text.specs.Grammar.Values.{LineEnd, MoreLines}
use Rattle.ini_text.specs.Options.WriteOptions.{line_end}
use Rattle.ini_text.specs.declared.option.ParseOption.{ParseOption}
use Rattle.ini_text.specs.declared.write.option.LineSeparator.{LineSeparator}
use Rattle.ini.specs.Texts.{Text}
use Rattle.ini_edit.specs.Places.{Follows}
use Rattle.ini_edit.specs.SourceLines.{LinePlace, ends_in_line, quiet_lines_at_end, quiet_lines_from}
use Rattle.ini_edit.proofs.QuietWalkLemmas.{past_end}
use Rattle.ini_edit.proofs.EndedLemmas.{line_end-some-after}
use Rattle.ini_edit.proofs.PairMoreLemmas.{trailing_more}
use Rattle.ini_edit.proofs.TrailingCutLemmas.{LinesCut, line_end_moved, lines_cut}

-- The lines after a multiline value are cut before the quiet ones at their end; or there are none, and the
-- last line ends with the text, or there are no lines.
pub data TrailingCut (o : ParseOption) (t x : Text) : Type 0 where
  cut : (front : Text) → front ≢ [] → t ≡ front ++ quiet_lines_at_end o t → ends_in_line o front ≡ true
      → ((y : Text) → Follows o y → TrailingLines o front y) → TrailingCut o t x
  unended : t ≢ [] → quiet_lines_at_end o t ≡ [] → x ≡ [] → ends_in_line o t ≡ false
      → ((sep : LineSeparator) (y : Text) → Follows o y → TrailingLines o (t ++ line_end sep) y)
      → TrailingCut o t x
  nothing : t ≡ [] → x ≡ [] → TrailingCut o t x

module _ {o : ParseOption} (on : o.enabled_indented_mutiline_value ≡ true) where
  lines_trailing : {e t r u : Text} → LineEnd e (t ++ r) → MoreLines o t r u
      → list_all is_line_feed u ≡ true
      → TrailingCut o (e ++ t) r
  lines_trailing {e} {t} {r} {u} end more all = at (lines_cut on more all)
    where
      at : LinesCut o t r u (quiet_lines_from o LinePlace.line t) → TrailingCut o (e ++ t) r
      at (LinesCut.cut f) =
          let b_is = (past_end o t r end).0 in
          let b = quiet_lines_from o LinePlace.line t in
          let end_follows : Follows o [] = record { no_blank = λ _. tt; no_line_end = λ _. tt } in
          TrailingCut.cut (e ++ f.front) (line_end-some-after f.front (t ++ r) end)
          (ap (λ z. e ++ z) f.whole ∙ sym (append_assoc e f.front b)
          ∙ ap (λ z. (e ++ f.front) ++ z) (sym b_is))
          ((past_end o f.front [] (line_end_moved t r b f.front on end f.whole end_follows)).1 ∙ f.ends)
          (λ y follows. TrailingLines.lines on (line_end_moved t r b f.front on end f.whole follows)
          (f.are y follows)
          (and_parts (list_all is_line_feed f.value) _
          (sym (list_all-append is_line_feed f.value f.feeds)
          ∙ ap (list_all is_line_feed) (sym f.is) ∙ all)).0)
      at (LinesCut.unended none empty inside) =
          TrailingCut.unended (line_end-some-after t (t ++ r) end) ((past_end o t r end).0 ∙ none) empty
          ((past_end o t r end).1 ∙ inside)
          (λ sep y follows. trailing_more sep follows on (TrailingLines.lines on end more all))

  pub trailing_cut : {t x : Text} → TrailingLines o t x → TrailingCut o t x
  trailing_cut (TrailingLines.line off closes) =
      absurd (both_ways o.enabled_indented_mutiline_value off on)
  trailing_cut (TrailingLines.end _) = TrailingCut.nothing refl refl
  trailing_cut (TrailingLines.lines _ end more all) = lines_trailing end more all
