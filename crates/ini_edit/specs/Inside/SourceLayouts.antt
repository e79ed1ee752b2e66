-- The rules of a layout, in the words of the definitions; what is compared of two texts in pieces; and where
-- a layout keeps all.
use Rattle.std.specs.Prelude.{◌≡◌, ◌&&◌, Bool, false, List, [], ◌∷◌, ⊤}
use Rattle.std.specs.Option.{option_map}
use Rattle.ini_text.specs.Options.WriteOptions.{line_end}
use Rattle.ini_text.specs.Parsing.Fronts.{IsRest}
use Rattle.ini_text.specs.declared.option.ParseOption.{ParseOption}
use Rattle.ini.specs.Texts.{Text, is_name, is_text}
use Rattle.ini_edit.specs.Inside.SourceEnds.{style_of}
use Rattle.ini_edit.specs.SourceEntries.{behind_value, comments_in, entries_in}
use Rattle.ini_edit.specs.SourceLayout.{Rules, laid_text}
use Rattle.ini_edit.specs.SourcePlaces.{gap_of, is_nil}
use Rattle.ini_edit.specs.Sources.{PairPiece, Pieces, SectionPiece}
use Rattle.ini_edit.specs.WholeTexts.{IsReadInPieces}
use Rattle.ini_edit.specs.declared.source.layout.Layout.{Layout}
use Rattle.ini_edit.specs.declared.source.layout.rules.Rules.{Rules as LaidRules}

abbrev pub rules_of : LaidRules → Rules
rules_of r = record {
  option = r.read;
  style = option_map style_of r.style;
  indentation = r.indentation;
  blank_lines = r.blank_lines;
  aligned = r.aligned;
  line_end = line_end r.line_end;
}

-- what follows the last of the pairs ends in this rest
abbrev pub EndsInRest : (rest : Text) → List PairPiece → Type 0
EndsInRest rest [] = ⊤
EndsInRest rest (p ∷ ps) = IsRest (gap_of p.after ps) rest

-- lists are as long, and each of one says the same as the other one's
abbrev pub all_same : {A : Type 0} → (A → A → Bool) → List A → List A → Bool
all_same same [] ys = is_nil ys
all_same same (x ∷ xs) [] = false
all_same same (x ∷ xs) (y ∷ ys) = same x y && all_same same xs ys

-- whether two pairs, and two sections, say the same
abbrev pub says_same_pair : PairPiece → PairPiece → Bool
says_same_pair p q =
    is_text p.key q.key && (is_text p.value q.value
    && is_text (comments_in (behind_value p.stretches p.after)) (comments_in (behind_value q.stretches q.after)))

abbrev pub says_same_section : SectionPiece → SectionPiece → Bool
says_same_section s t =
    is_name s.name t.name && (is_text (comments_in s.after) (comments_in t.after)
    && all_same says_same_pair s.pairs t.pairs)

-- the text of pieces, laid out, is read again as saying the same, and stays when it is laid out again
pub record KeepsBy (o : ParseOption) (l : Layout) (old : Pieces) : Type 0 where
  pub new : Pieces
  pub is_read : IsReadInPieces o (laid_text l old) new
  pub same : entries_in new ≡ entries_in old
  pub steady : laid_text l new ≡ laid_text l old
