-- How a text is read into pieces.
use Rattle.std.specs.Prelude.{◌≡◌, ◌≢◌, List, [], ◌++◌, Option, MatchOption, chars}
use Rattle.ini_text.specs.Grammar.CharacterKinds.{line_feed}
use Rattle.ini_text.specs.Grammar.Texts.{Reads}
use Rattle.ini_text.specs.Parsing.Parser.{Place}
use Rattle.ini_text.specs.Parsing.Places.{StandsBetween, gives}
use Rattle.ini_text.specs.declared.option.ParseOption.{ParseOption}
use Rattle.ini_text.specs.declared.parser.placed.PlacedElement.{PlacedElement}
use Rattle.ini.specs.Texts.{Text}
use Rattle.ini_edit.specs.Inside.Spans.{Span, span_source}
use Rattle.ini_edit.specs.Inside.Walks.{IsReading}
use Rattle.ini_edit.specs.SourceReads.{ArePlacedSpans}
use Rattle.ini_edit.specs.Sources.{joined}
use Rattle.ini_edit.specs.declared.source.gap.Reached.{Reached}

module _ (o : ParseOption) (T : Text) where
  -- the parser stands after the item that follows the front, or at the text's end
  abbrev pub IsPastItem : Text → Place → Option PlacedElement → Type 0
  IsPastItem front q item =
      MatchOption item ((front ≡ T) × (q.front ≡ T))
      (λ e. StandsBetween o T front q.front e × (gives e.content ≢ []))

  -- after the front b stood elements that give nothing, and then an item or the text's end
  pub record ReachesItem (b : Text) (q : Place) (found : Reached) : Type 0 where
    pub is_reading : IsReading o T q
    pub nothing : Reads o T b [] (b ++ chars found.gap.now)
    pub item : IsPastItem (b ++ chars found.gap.now) q found.item

  -- the spans are those of the text up to the item, after which the parser stands
  pub record ReadsSpans (p : Place) (spans : List Span) (item : Option PlacedElement) : Type 0 where
    pub is_reading : IsReading o T p
    pub rest : Text
    pub whole : T ≡ joined span_source spans ++ rest
    pub are : ArePlacedSpans o line_feed spans rest
    pub past : IsPastItem (joined span_source spans) p item
