-- What the text of a value says, in one form for each kind.
use Rattle.std.specs.Prelude.{◌≡◌, ◌==◌, ◌<◌, ◌+◌, ◌/◌, ◌%◌, ◌^◌, ◌++◌, ℕ, ℤ, Bool, true, false, FitsSigned}
use Rattle.std.specs.Prelude.{if◌then◌else◌, List, [], ◌∷◌, codes, length, Option, None, Some}
use Rattle.std.specs.Float.Ieee.{Float, binary64}
use Rattle.std.specs.Float.Parse.{parse_float}
use Rattle.std.specs.Fmt.{decimal, signed_decimal}
use Rattle.std.specs.Int.{w64}
use Rattle.std.specs.declared.alloc.Global.{Global}
use Rattle.std.specs.declared.vec.Vec.{Vec}
use Rattle.ini_dialect.specs.Typed.{Counts, CountsSigned, bool_of, sizes, spans}
use Rattle.ini_words.specs.Words.{Word}
use Rattle.ini_file.specs.declared.manner.ValueKind.{ValueKind}
use Rattle.ini_file.specs.declared.manner.ValueKind.TheVariants as kinds
use Rattle.ini_file.specs.declared.typed.Converted.{Converted}
use Rattle.ini_file.specs.declared.typed.Converted.TheVariants.{Not, Texts}

-- a bool
abbrev pub bool_word : Bool → Word
bool_word b = if b then codes "true" else codes "false"

abbrev pub SaysBool : (value out : Word) → Type 0
SaysBool value out = (b : Bool) × (bool_of value ≡ Some b) × (out ≡ bool_word b)

-- a whole number, and one of bytes, in decimal
abbrev pub SaysInteger : (value out : Word) → Type 0
SaysInteger value out =
    (n : ℤ) × FitsSigned w64 n × CountsSigned sizes value n × (out ≡ signed_decimal n)

abbrev pub SaysSize : (value out : Word) → Type 0
SaysSize value out = (n : ℕ) × (n < 2 ^ 64) × Counts sizes value n × (out ≡ decimal n)

-- a float, as std prints it
abbrev pub SaysFloat : (value out : Word) → Type 0
SaysFloat value out = (x : Float) × (parse_float binary64 value ≡ Some x)

-- the six digits of a number of microseconds
abbrev pub six_digits : ℕ → Word
six_digits micros =
    (0x30 + micros / 100_000) ∷ (0x30 + micros / 10_000 % 10) ∷ (0x30 + micros / 1_000 % 10)
    ∷ (0x30 + micros / 100 % 10) ∷ (0x30 + micros / 10 % 10) ∷ (0x30 + micros % 10) ∷ []

-- seconds, and microseconds after a point, where there are any
abbrev pub seconds : (whole micros : ℕ) → Word
seconds whole micros = decimal whole ++ (if micros == 0 then [] else 0x2E ∷ six_digits micros)

-- a span of time, in seconds
abbrev pub SaysDuration : (value out : Word) → Type 0
SaysDuration value out =
    (n : ℕ) × (n < 2 ^ 64) × Counts spans value n × (out ≡ seconds (n / 1_000_000) (n % 1_000_000))

-- nothing, or a slash and more, stands below a folder
abbrev pub is_below : Word → Bool
is_below [] = true
is_below (first ∷ more) = first == 0x2F

-- the home folder, if there is one, and what stands below it
abbrev pub SaysBelow : Option Word → (below out : Word) → Type 0
SaysBelow None below out = ⊥
SaysBelow (Some home) below out = (is_below below ≡ true) × (out ≡ home ++ below)

-- the name of a file: `~` alone, or before a slash, at its front is the home folder; with other characters
-- after it, it is a user's, whose home folder isn't known
abbrev pub SaysPathBy : (is_tilde : Bool) → Option Word → (first : ℕ) → (more out : Word) → Type 0
SaysPathBy true home first more out = SaysBelow home more out
SaysPathBy false home first more out = out ≡ first ∷ more

abbrev pub SaysPath : Option Word → (value out : Word) → Type 0
SaysPath home [] out = out ≡ []
SaysPath home (first ∷ more) out = SaysPathBy (first == 0x7E) home first more out

-- what a value says of the kind, where the home folder is this
abbrev pub Says : ValueKind → Option Word → (value out : Word) → Type 0
Says kinds.Bool home value out = SaysBool value out
Says kinds.Integer home value out = SaysInteger value out
Says kinds.Size home value out = SaysSize value out
Says kinds.Float home value out = SaysFloat value out
Says kinds.Duration home value out = SaysDuration value out
Says kinds.Path home value out = SaysPath home value out

-- what is said stands after the old bytes; or nothing is said
abbrev pub Appended : (Word → Type 0) → (old new : Word) → Bool → Type 0
Appended IsSaid old new true = (out : Word) × IsSaid out × (new ≡ old ++ out)
Appended IsSaid old new false = (out : Word) → IsSaid out → ⊥

-- what each value says, with its end
pub data AreSaid (kind : ValueKind) (home : Option Word) (end : Word)
    : (values : List Word) → Word → Type 0 where
  none : AreSaid kind home end [] []
  then : {values : List Word} {texts : Word} → AreSaid kind home end values texts
      → (value out : Word) → Says kind home value out
      → AreSaid kind home end (values ++ value ∷ []) (texts ++ (out ++ end))

-- the value at the index says nothing, and each before it something
pub record IsFirstUnsaid (kind : ValueKind) (home : Option Word) (end : Word) (values : List Word)
    (index : ℕ)
    : Type 0 where
  pub before : List Word
  pub value : Word
  pub after : List Word
  pub texts : Word
  pub splits : values ≡ before ++ value ∷ after
  pub at : length before ≡ index
  pub are_said : AreSaid kind home end before texts
  pub says_nothing : (out : Word) → Says kind home value out → ⊥

-- what a call answers
abbrev pub AreConverted : ValueKind → Option Word → (end : Word) → List Word → Converted → Type 0
AreConverted kind home end values (Texts texts) = AreSaid kind home end values texts.items
AreConverted kind home end values (Not index) = IsFirstUnsaid kind home end values index
