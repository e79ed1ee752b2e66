-- Lines of a value: quoted parts, and then one plain part to the line's end; and notes.
use Rattle.std.specs.Prelude.{◌≡◌, ℕ, Bool, true, false, not, ◌&&◌, if◌then◌else◌, List, [], ◌∷◌, ◌++◌}
use Rattle.std.specs.List.{list_all}
use Rattle.ini_text.specs.Grammar.CharacterKinds.{is_comment_mark, is_line_end, is_quote_mark, BeginsWithNo}
use Rattle.ini_text.specs.Grammar.WhiteSpace.{trimmed, end_trimmed}
use Rattle.ini_text.specs.Grammar.Strings.{Closes, Str, StrStops, quote_ends, plain_ends, noted}
use Rattle.ini_text.specs.Options.ReadOptions.{backslash_of}
use Rattle.ini_text.specs.declared.option.ParseOption.{ParseOption}
use Rattle.ini_text.specs.declared.error.ParseKind.{ParseKind}

-- a row of quoted parts, their values joined, and whether there is one
pub data Quoted (o : ParseOption) : List ℕ → List ℕ → Bool → Type 0 where
  none : Quoted o [] [] false
  part : {m : ℕ} {s v q w : List ℕ} {some : Bool} → o.enabled_quote ≡ true → is_quote_mark m ≡ true
      → Str (backslash_of o) (quote_ends m) s (m ∷ []) v
      → Quoted o q w some → Quoted o (m ∷ (s ++ m ∷ q)) (v ++ w) true

-- with quotes on, the plain part begins with no mark
abbrev pub BeginsPlain : ParseOption → List ℕ → Type 0
BeginsPlain o cs = o.enabled_quote ≡ true → BeginsWithNo is_quote_mark cs

-- the plain value is trimmed on both sides on a first line without quoted parts, else at its end alone
abbrev pub plain_value : Bool → Bool → List ℕ → List ℕ
plain_value first quoted v = if first && not quoted then trimmed v else end_trimmed v

-- the text of a line, of source s before r, with its value; `first` says that it is its value's first line
pub data LineText (o : ParseOption) (first : Bool) : List ℕ → List ℕ → List ℕ → Type 0 where
  text : {q w p r v : List ℕ} {quoted : Bool} → Quoted o q w quoted → BeginsPlain o (p ++ r)
      → Str (backslash_of o) (noted o plain_ends) p r v
      → LineText o first (q ++ p) r (w ++ plain_value first quoted v)

-- a line's source at whose end reading stops, before r
pub data LineStops (o : ParseOption) : List ℕ → List ℕ → ParseKind → Type 0 where
  in_quotes : {q w s r : List ℕ} {quoted : Bool} {m : ℕ} {kind : ParseKind} → Quoted o q w quoted
      → o.enabled_quote ≡ true → is_quote_mark m ≡ true
      → StrStops (backslash_of o) (quote_ends m) s r kind → LineStops o (q ++ m ∷ s) r kind
  in_plain : {q w s r : List ℕ} {quoted : Bool} {kind : ParseKind} → Quoted o q w quoted
      → BeginsPlain o (s ++ r)
      → StrStops (backslash_of o) (noted o plain_ends) s r kind → LineStops o (q ++ s) r kind

-- a note before r: a comment mark, and what follows it in its line
pub data Note : List ℕ → List ℕ → Type 0 where
  note : {m : ℕ} {s r : List ℕ} → is_comment_mark m ≡ true → list_all (λ c. not (is_line_end c)) s ≡ true
      → Closes plain_ends r → Note (m ∷ s) r

-- after a line's text: nothing, or a note
pub data LineTail : List ℕ → List ℕ → Type 0 where
  none : {r : List ℕ} → Closes plain_ends r → LineTail [] r
  note : {s r : List ℕ} → Note s r → LineTail s r

-- the line of source s before r, with its value
pub data Line (o : ParseOption) (first : Bool) : List ℕ → List ℕ → List ℕ → Type 0 where
  line : {t n r v : List ℕ} → LineText o first t (n ++ r) v → LineTail n r → Line o first (t ++ n) r v
