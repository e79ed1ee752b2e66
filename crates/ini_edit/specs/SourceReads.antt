-- The pieces that a text is read in: each header and each pair where the grammar places it, and between them
-- what gives nothing.
use Rattle.std.specs.Prelude.{ℕ, List, [], ◌∷◌}
use Rattle.ini_text.specs.Grammar.CharacterKinds.{line_feed}
use Rattle.ini_text.specs.Grammar.Places.{ArePlaced}
use Rattle.ini_text.specs.declared.option.ParseOption.{ParseOption}
use Rattle.ini.specs.Texts.{Text}
use Rattle.ini_edit.specs.Inside.InPlace.{AreInPlace}
use Rattle.ini_edit.specs.Inside.Spans.{BeginGeneral, IsSpan, Span, opening, pair, gap, sections_spans}
use Rattle.ini_edit.specs.Inside.Spans.{span_source}
use Rattle.ini_edit.specs.Sources.{SectionPiece}

module _ (o : ParseOption) where
  -- after the character c and before r a pair stands in its stretches, and all else as it does in any text in
  -- pieces
  abbrev pub IsPlacedSpan : ℕ → Span → Text → Type 0
  IsPlacedSpan c (pair p key value) r = ArePlaced o (c ∷ []) p r key value
  IsPlacedSpan c (opening name source) r = IsSpan o c (opening name source) r
  IsPlacedSpan c (gap source) r = IsSpan o c (gap source) r

  abbrev pub ArePlacedSpans : ℕ → List Span → Text → Type 0
  ArePlacedSpans = AreInPlace span_source IsPlacedSpan

  -- the sections are those that a whole text is read in
  pub record AreRead (ss : List SectionPiece) : Type 0 where
    pub begin_general : BeginGeneral ss
    pub placed : ArePlacedSpans line_feed (sections_spans ss) []
