-- The lines after a multiline value with a line end more.
use Rattle.std.proofs.Common.{◌≡◌, ◌∙◌, true, [], ◌++◌, ap, append-nil, refl, subst}
use Rattle.std.proofs.lemmas.Bool.{and_from, both_ways}
use Rattle.std.proofs.lemmas.List.Folds.{list_all-append}
use Rattle.std.specs.List.{list_all}
use Rattle.ini_text.specs.Grammar.CharacterKinds.{is_line_feed}
use Rattle.ini_text.specs.Grammar.Places.{TrailingLines}
use Rattle.ini_text.specs.Grammar.Values.{MoreLines}
use Rattle.ini_text.specs.Options.WriteOptions.{line_end}
use Rattle.ini_text.specs.declared.option.ParseOption.{ParseOption}
use Rattle.ini_text.specs.declared.write.option.LineSeparator.{LineSeparator}
use Rattle.ini_text.proofs.PlainLemmas.PlainPairLemmas.{line_end-is}
use Rattle.ini.specs.Texts.{Text}
use Rattle.ini_edit.specs.Places.{Follows}
use Rattle.ini_edit.proofs.FeedLinesLemmas.{feeds_glued}
use Rattle.ini_edit.proofs.LinesGluedLemmas.{ended_glued}

module _ {o : ParseOption} (sep : LineSeparator) {x : Text} (follows : Follows o x)
    (on : o.enabled_indented_mutiline_value ≡ true) where
  pub trailing_more : {t r : Text} → TrailingLines o t r → TrailingLines o (t ++ line_end sep) x
  trailing_more (TrailingLines.line off closes) =
      absurd (both_ways o.enabled_indented_mutiline_value off on)
  trailing_more (TrailingLines.end _) =
      subst (λ t. TrailingLines o t x) (append-nil (line_end sep))
      (TrailingLines.lines {t = []} on (line_end-is sep x)
      (MoreLines.done (follows.no_blank on) (follows.no_line_end on)) refl)
  trailing_more (TrailingLines.lines {e} {t} {r} {u} _ end more all) =
      let n = ended_glued sep follows on [] t r u end more (λ h. refl)
      (feeds_glued sep follows on more all) in
      let feeds : list_all is_line_feed n.value ≡ true =
      ap (list_all is_line_feed) n.is ∙ list_all-append is_line_feed u n.feeds
      ∙ and_from (list_all is_line_feed u) (list_all is_line_feed n.feeds) all n.all in
      subst (λ t. TrailingLines o t x) n.whole (TrailingLines.lines on n.is_end n.more feeds)
