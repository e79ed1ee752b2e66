-- Places: the stretches of which a pair's source is made, in order, and what each holds.
use Rattle.std.specs.Prelude.{◌≡◌, ◌≢◌, ℕ, Bool, true, false, not, ◌||◌, List, [], ◌∷◌, ◌++◌, Option, Some}
use Rattle.std.specs.Prelude.{None}
use Rattle.std.specs.List.{list_all}
use Rattle.ini_text.specs.Grammar.CharacterKinds.{line_feed, carriage_return, backslash, is_line_feed}
use Rattle.ini_text.specs.Grammar.CharacterKinds.{is_inline_white, is_separator, BeginsWithNo}
use Rattle.ini_text.specs.Grammar.Positions.{last_or}
use Rattle.ini_text.specs.Grammar.WhiteSpace.{Lead}
use Rattle.ini_text.specs.Grammar.Strings.{Closes, plain_ends}
use Rattle.ini_text.specs.Grammar.Lines.{Line, LineText, LineTail}
use Rattle.ini_text.specs.Grammar.Values.{CommentLine, GoesOn, LineEnd, MoreLines, Value}
use Rattle.ini_text.specs.Grammar.Keys.{KeyFront}
use Rattle.ini_text.specs.Options.Backslashes.{Backslash, is_special, begins_escape}
use Rattle.ini_text.specs.Options.ReadOptions.{backslash_of}
use Rattle.ini_text.specs.declared.option.LoneLine.TheVariants.{Key}
use Rattle.ini_text.specs.declared.option.ParseOption.{ParseOption}

-- A pair's stretches: its key, with the blanks that indent it; the separator, which a key alone lacks; the
-- white space before its value; the value as it is written; the white space after that; a note in the same
-- line; and the lines that give nothing more.
pub record Stretches : Type 0 where
  pub key : List ℕ
  pub separator : Option ℕ
  pub space_before : List ℕ
  pub raw_value : List ℕ
  pub space_after : List ℕ
  pub note : List ℕ
  pub trailing_lines : List ℕ

-- what stands after the separator
abbrev pub value_source : Stretches → List ℕ
value_source p = p.space_before ++ (p.raw_value ++ (p.space_after ++ (p.note ++ p.trailing_lines)))

abbrev pub separator_text : Option ℕ → List ℕ
separator_text None = []
separator_text (Some m) = m ∷ []

-- what stands after the key
abbrev pub after_key_source : Stretches → List ℕ
after_key_source p = separator_text p.separator ++ value_source p

abbrev pub pair_source : Stretches → List ℕ
pair_source p = p.key ++ after_key_source p

-- lines with which a value goes on, up to the text of the last, which gives more than line feeds, before r
pub data LastLine (o : ParseOption) : List ℕ → List ℕ → Type 0 where
  last : {w l r u : List ℕ} → GoesOn o w (l ++ r) → LineText o false l r u
      → list_all is_line_feed u ≡ false → LastLine o (w ++ l) r
  empty_lf : {t r : List ℕ} → LastLine o t r → LastLine o (line_feed ∷ t) r
  empty_cr_lf : {t r : List ℕ} → LastLine o t r → LastLine o (carriage_return ∷ line_feed ∷ t) r
  continued : {w l e t r u : List ℕ} → GoesOn o w (l ++ (e ++ (t ++ r)))
      → Line o false l (e ++ (t ++ r)) u → LineEnd e (t ++ r) → LastLine o t r
      → LastLine o (w ++ (l ++ (e ++ t))) r
  comment : {s e t r : List ℕ} → CommentLine o s (e ++ (t ++ r)) → LineEnd e (t ++ r) → LastLine o t r
      → LastLine o (s ++ (e ++ t)) r

-- a value's lines up to the text of the first, or of the last that gives more than line feeds, before r
pub data OwnLines (o : ParseOption) : List ℕ → List ℕ → Type 0 where
  first : {l r u : List ℕ} → LineText o true l r u → OwnLines o l r
  more : {l e t r u : List ℕ} → Line o true l (e ++ (t ++ r)) u → LineEnd e (t ++ r) → LastLine o t r
      → OwnLines o (l ++ (e ++ t)) r

-- what stands after a value's own lines, before r: nothing; or, where values are multiline, their last line
-- end and lines that give line feeds alone
pub data TrailingLines (o : ParseOption) : List ℕ → List ℕ → Type 0 where
  line : {r : List ℕ} → o.enabled_indented_mutiline_value ≡ false → Closes plain_ends r → TrailingLines o [] r
  end : o.enabled_indented_mutiline_value ≡ true → TrailingLines o [] []
  lines : {e t r u : List ℕ} → o.enabled_indented_mutiline_value ≡ true → LineEnd e (t ++ r)
      → MoreLines o t r u → list_all is_line_feed u ≡ true → TrailingLines o (e ++ t) r

-- the last character is neither inline white nor a backslash that takes the next one along
abbrev pub ends_bare : Backslash → List ℕ → Bool
ends_bare b cs = not (is_inline_white (last_or line_feed cs) || begins_escape b (last_or line_feed cs))

-- Of a value's own lines the white space at their end stands after the value, unless a backslash stands
-- before it that takes it along: then all is the value's own.
pub data SpaceAfter (b : Backslash) : List ℕ → List ℕ → Type 0 where
  bare : {raw_value space_after : List ℕ} → ends_bare b raw_value ≡ true
      → list_all is_inline_white space_after ≡ true → SpaceAfter b raw_value space_after
  escaped : (front white : List ℕ) → is_special b ≡ true → list_all is_inline_white white ≡ true
      → SpaceAfter b (front ++ backslash ∷ white) []

-- the stretches before r have a separator, and after it those of this value
pub record HasValue (o : ParseOption) (p : Stretches) (r value : List ℕ) : Type 0 where
  pub separator : ℕ
  pub separator_is : p.separator ≡ Some separator
  pub separates : is_separator separator ≡ true
  pub gives : Value o (value_source p) r value
  pub space_before : Lead p.space_before
      (p.raw_value ++ (p.space_after ++ (p.note ++ (p.trailing_lines ++ r))))
  pub raw_value : OwnLines o (p.raw_value ++ p.space_after) (p.note ++ (p.trailing_lines ++ r))
  pub space_after : SpaceAfter (backslash_of o) p.raw_value p.space_after
  pub note : LineTail p.note (p.trailing_lines ++ r)
  pub trailing_lines : TrailingLines o p.trailing_lines r

-- the stretches before r are those of a key alone
pub record IsLone (o : ParseOption) (p : Stretches) (r value : List ℕ) : Type 0 where
  pub may_be : o.line_without_separator ≡ Key
  pub no_separator : p.separator ≡ None
  pub nothing : value_source p ≡ []
  pub empty : value ≡ []
  pub next : BeginsWithNo is_separator r

-- what stands after a key
pub data FollowsKey (o : ParseOption) (p : Stretches) (r value : List ℕ) : Type 0 where
  has_value : HasValue o p r value → FollowsKey o p r value
  is_lone : IsLone o p r value → FollowsKey o p r value

-- after the front b and before r the stretches are those of a pair of this key and value
pub record ArePlaced (o : ParseOption) (b : List ℕ) (p : Stretches) (r key value : List ℕ) : Type 0 where
  pub key_front : KeyFront o b p.key (after_key_source p ++ r) key
  pub some : key ≢ []
  pub after_key : FollowsKey o p r value
