-- Laws of plain names and pairs as they are written, and of a text after another.
use Rattle.std.specs.Prelude.{◌≡◌, ℕ, ◌+◌, Bool, true, false, List, [], ◌∷◌, ◌++◌, count_by, if◌then◌else◌}
use Rattle.std.specs.Prelude.{not, ◌==◌, ⊤, chars}
use Rattle.ini_text.specs.Grammar.CharacterKinds.{open_bracket, close_bracket, is_line_feed, BeginsWithNo}
use Rattle.ini_text.specs.Grammar.Elements.{Given, Header, Pair, Gap, Element}
use Rattle.ini_text.specs.Escaping.EscapedTexts.{escaped}
use Rattle.ini_text.specs.Laws.Plain.{IsPlainKey}
use Rattle.ini_text.specs.Grammar.Positions.{line_of, column_of, is_column_one}
use Rattle.ini_text.specs.Grammar.Texts.{Reads, Derives, Stops}
use Rattle.ini_text.specs.Options.WriteOptions.{line_end}
use Rattle.ini_text.specs.declared.error.ParseKind.{ParseKind}
use Rattle.ini_text.specs.declared.option.ParseOption.{ParseOption}
use Rattle.ini_text.specs.declared.write.policy.EscapePolicy.{EscapePolicy}
use Rattle.ini_text.specs.declared.write.option.WriteOption.{WriteOption}

module _ (w : WriteOption) where
  -- a line end, or two
  abbrev pub line_ends : Bool → List ℕ
  line_ends twice = line_end w.line_separator ++ (if twice then line_end w.line_separator else [])

  -- what is written of a name, up to the line end
  abbrev pub header_source : List ℕ → List ℕ
  header_source name = open_bracket ∷ (escaped w.escape_policy name ++ close_bracket ∷ [])

  -- what is written of a pair, up to the line end
  abbrev pub pair_source : List ℕ → List ℕ → List ℕ
  pair_source key value =
      escaped w.escape_policy key ++ (chars w.kv_separator.now ++ escaped w.escape_policy value)

-- a row of gaps of source s, after the front b and before r
pub data AreGaps (r : List ℕ) : List ℕ → List ℕ → Type 0 where
  none : {b : List ℕ} → AreGaps r b []
  more : {b s t : List ℕ} → Gap b s (t ++ r) → AreGaps r (b ++ s) t → AreGaps r b (s ++ t)

-- After the front b the source is one element, which gives the item, and what follows it up to r are gaps.
-- After those column one begins.
pub record IsElementThenGaps (o : ParseOption) (b source gaps r : List ℕ) (item : Given) : Type 0 where
  pub element : Element o b source (gaps ++ r) (item ∷ [])
  pub are_gaps : AreGaps r (b ++ source) gaps
  pub column_one : is_column_one (b ++ (source ++ gaps)) ≡ true

-- after the front b and before r the source gives the item, and after it column one begins
abbrev pub GivesLine : ParseOption → List ℕ → List ℕ → List ℕ → Given → Type 0
GivesLine o b source r item =
    Reads o (b ++ (source ++ r)) b (item ∷ []) (b ++ source) × (is_column_one (b ++ source) ≡ true)

-- a name's written line: a header that gives the name, and gaps
abbrev pub IsHeaderLine : ParseOption → WriteOption → Bool → List ℕ → List ℕ → List ℕ → Type 0
IsHeaderLine o w twice b name r =
    IsElementThenGaps o b (header_source w name) (line_ends w twice) r (Header name)

-- a pair's written line: a pair that gives key and value; the line ends are taken by it where values are
-- multiline, else they are gaps
pub record IsPairLine (o : ParseOption) (w : WriteOption) (twice : Bool)
    (b key value r : List ℕ) : Type 0 where
  pub taken : o.enabled_indented_mutiline_value ≡ true
      → IsElementThenGaps o b (pair_source w key value ++ line_ends w twice) [] r (Pair key value)
  pub left : o.enabled_indented_mutiline_value ≡ false
      → IsElementThenGaps o b (pair_source w key value) (line_ends w twice) r (Pair key value)

-- what may follow a pair: nothing, a header, or a plain key as it is written
pub data FollowsPair (o : ParseOption) (policy : EscapePolicy) : List ℕ → Type 0 where
  nothing : FollowsPair o policy []
  header : {r : List ℕ} → FollowsPair o policy (open_bracket ∷ r)
  pair : {key : List ℕ} (r : List ℕ) → IsPlainKey o policy key
      → FollowsPair o policy (escaped policy key ++ r)

-- After the text W, which gives the items `before`, the text Y has the same outcome: its items come after
-- those of W, and a stop is as many lines further down as W has line feeds.
pub record IsMoved (o : ParseOption) (W Y : List ℕ) (before : List Given) : Type 0 where
  pub derives : {items : List Given} → Derives o Y items → Derives o (W ++ Y) (before ++ items)
  pub stops : {kind : ParseKind} {front : List ℕ} → Stops o Y kind front → Stops o (W ++ Y) kind (W ++ front)
  pub line : (front : List ℕ) → line_of (W ++ front) ≡ line_of front + count_by is_line_feed W
  pub column : (front : List ℕ) → column_of (W ++ front) ≡ column_of front

-- the same, whichever items W gives
abbrev pub Moves : ParseOption → List ℕ → List ℕ → Type 0
Moves o W Y = (before : List Given) → Reads o (W ++ Y) [] before W → IsMoved o W Y before

-- the items begin with a header, where there are any
abbrev pub BeginsWithHeader : List Given → Type 0
BeginsWithHeader [] = ⊤
BeginsWithHeader (Header name ∷ items) = ⊤
BeginsWithHeader (Pair key value ∷ items) = ⊥

-- the text is empty, or an opening bracket begins it
abbrev pub IsEmptyOrHeader : List ℕ → Type 0
IsEmptyOrHeader text = BeginsWithNo (λ c. not (c == open_bracket)) text

-- whichever items the text gives, they begin with a header, where there are any
abbrev pub GivesHeaderFirst : ParseOption → List ℕ → Type 0
GivesHeaderFirst o text = (items : List Given) → Derives o text items → BeginsWithHeader items
