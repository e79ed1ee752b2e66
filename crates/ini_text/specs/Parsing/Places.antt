-- The elements of the code with their places, in the grammar's words, and what a call gives that asks for
-- the next one.
use Rattle.std.specs.Prelude.{◌≡◌, ℕ, ◌<◌, List, [], ◌∷◌, ◌++◌, length, ⊤, chars, Option, Result}
use Rattle.std.specs.Prelude.{MatchOption, MatchResult}
use Rattle.std.specs.Cow.{cow_str_bytes}
use Rattle.ini_text.specs.Grammar.Elements.{Given, Header, Pair, Element, ElementStops}
use Rattle.ini_text.specs.Grammar.Places.{Stretches, pair_source, ArePlaced}
use Rattle.ini_text.specs.Grammar.Positions.{line_of, column_of}
use Rattle.ini_text.specs.Errors.Messages.{HasMessage}
use Rattle.ini_text.specs.Parsing.Items.{cow_text}
use Rattle.ini_text.specs.declared.error.Error.{Error}
use Rattle.ini_text.specs.declared.error.Error.TheVariants as errors
use Rattle.ini_text.specs.declared.error.ParseKind.{ParseKind}
use Rattle.ini_text.specs.declared.option.ParseOption.{ParseOption}
use Rattle.ini_text.specs.declared.parser.placed.PairPlaces.{PairPlaces}
use Rattle.ini_text.specs.declared.parser.placed.Content.{Content}
use Rattle.ini_text.specs.declared.parser.placed.Content.TheVariants as contents
use Rattle.ini_text.specs.declared.parser.placed.PlacedElement.{PlacedElement}

abbrev pub stretches_of : PairPlaces → Stretches
stretches_of p = record {
  key = chars p.key.now;
  separator = p.separator;
  space_before = chars p.space_before.now;
  raw_value = chars p.raw_value.now;
  space_after = chars p.space_after.now;
  note = chars p.note.now;
  trailing_lines = chars p.trailing_lines.now;
}

-- what an element gives
abbrev pub gives : Content → List Given
gives contents.Nothing = []
gives (contents.Header name) = Header (cow_text name) ∷ []
gives (contents.Pair pair) = Pair (cow_text pair.key) (cow_text pair.value) ∷ []

-- after the front b and before r, the source of a pair is made of its stretches
abbrev pub HasPlaces : ParseOption → List ℕ → List ℕ → List ℕ → Content → Type 0
HasPlaces o b source r (contents.Pair pair) = (source ≡ pair_source (stretches_of pair.places))
    × ArePlaced o b (stretches_of pair.places) r (cow_text pair.key) (cow_text pair.value)
HasPlaces o b source r _ = ⊤

-- between the fronts b and c of the text T stands the element
pub record StandsBetween (o : ParseOption) (T b c : List ℕ) (e : PlacedElement) : Type 0 where
  pub rest : List ℕ
  pub whole : T ≡ b ++ (chars e.source.now ++ rest)
  pub reaches : c ≡ b ++ chars e.source.now
  pub longer : length b < length c
  pub is_element : Element o b (chars e.source.now) rest (gives e.content)
  pub places : HasPlaces o b (chars e.source.now) rest e.content

-- right after the front b an element begins in which reading stops, with this kind, line and column
pub record StopsAfter (o : ParseOption) (T b : List ℕ) (kind : ParseKind) (line column : ℕ) : Type 0 where
  pub source : List ℕ
  pub rest : List ℕ
  pub whole : T ≡ b ++ (source ++ rest)
  pub stops : ElementStops o b source rest kind
  pub line_is : line ≡ line_of (b ++ source)
  pub column_is : column ≡ column_of (b ++ source)

-- what the element after the front b is refused with
abbrev pub RefusesElement : ParseOption → List ℕ → List ℕ → Error → Type 0
RefusesElement o T b (errors.Memory _) = ⊤
RefusesElement o T b (errors.Parse e) =
    StopsAfter o T b e.kind e.line e.col × HasMessage e.kind (cow_str_bytes e.msg)
RefusesElement o T b _ = ⊥

-- from the front b to the front c of the text T: nothing, only at the text's end; an element; or a refusal
abbrev pub AnswersElement : ParseOption → List ℕ → List ℕ → List ℕ
    → Result (Option PlacedElement) Error → Type 0
AnswersElement o T b c r =
    MatchResult r
    (λ found. MatchOption found ((b ≡ T) × (c ≡ T)) (StandsBetween o T b c))
    (RefusesElement o T b)
