-- How the places of a pair are found in a text of which it is known what it gives.
use Rattle.std.specs.Prelude.{◌≡◌, ℕ, true, List, [], ◌∷◌, ◌++◌, drop, ⊤, chars, Option, Some, Result}
use Rattle.std.specs.Prelude.{MatchOption, IfOk, MatchResult}
use Rattle.std.specs.Borrow.{Bor}
use Rattle.std.specs.List.{list_all}
use Rattle.ini_text.specs.Grammar.CharacterKinds.{is_blank, is_inline_white, is_line_feed, is_separator}
use Rattle.ini_text.specs.Grammar.CharacterKinds.{BeginsWith, BeginsWithNo}
use Rattle.ini_text.specs.Grammar.Elements.{Pair, Element}
use Rattle.ini_text.specs.Grammar.Places.{LastLine, OwnLines, SpaceAfter, TrailingLines, ArePlaced}
use Rattle.ini_text.specs.Grammar.Places.{pair_source}
use Rattle.ini_text.specs.Grammar.Lines.{LineTail}
use Rattle.ini_text.specs.Grammar.Values.{LineEnd, MoreLines}
use Rattle.ini_text.specs.Grammar.WhiteSpace.{without_outer_line_feeds}
use Rattle.ini_text.specs.Inside.ItemSearch.{StopIsWithin}
use Rattle.ini_text.specs.Inside.Reading.{found, prepend, altered_answer}
use Rattle.ini_text.specs.Inside.Scans.{skipped}
use Rattle.ini_text.specs.Inside.ElementReader.{key_string}
use Rattle.ini_text.specs.Inside.LineReader.{past_note}
use Rattle.ini_text.specs.Inside.ValueReader.{more_lines, value}
use Rattle.ini_text.specs.Parsing.Fronts.{front_of, IsRest}
use Rattle.ini_text.specs.Parsing.Parser.{TellsRefusal, refusal_of}
use Rattle.ini_text.specs.Parsing.Places.{StandsBetween, RefusesElement, stretches_of}
use Rattle.ini_text.specs.Options.Backslashes.{Backslash}
use Rattle.ini_text.specs.declared.error.Error.{Error}
use Rattle.ini_text.specs.Parsing.Items.{cow_text}
use Rattle.ini_text.specs.declared.option.ParseOption.{ParseOption}
use Rattle.ini_text.specs.declared.item.BorrowedItem.{BorrowedItem}
use Rattle.ini_text.specs.declared.item.BorrowedItem.TheVariants as items
use Rattle.ini_text.specs.declared.parser.fault.Stop.{Stop}
use Rattle.ini_text.specs.declared.parser.rests.Rests.{Rests}
use Rattle.std.specs.declared.alloc.Global.{Global}
use Rattle.std.specs.declared.borrow.CowStr.{CowStr}
use Rattle.ini_text.specs.declared.parser.placed.PairPlaces.{PairPlaces}
use Rattle.ini_text.specs.declared.parser.placed.PlacedElement.{PlacedElement}

-- Of the value after a separator, which is `gives`, its own lines begin at `start`, and their text ends at
-- `tail`; `rest` follows the value.
pub record HasTail (o : ParseOption) (text start tail gives rest : List ℕ) : Type 0 where
  pub own : List ℕ
  pub note : List ℕ
  pub following : List ℕ
  pub skips : start ≡ skipped is_inline_white text
  pub own_is : start ≡ own ++ tail
  pub tail_is : tail ≡ note ++ (following ++ rest)
  pub past_note : past_note o tail ≡ following ++ rest
  pub reads : value o text ≡ found gives rest
  pub own_lines : OwnLines o own tail
  pub is_note : LineTail note (following ++ rest)
  pub is_tail : TrailingLines o following rest

-- Of a value the text of its own lines is known up to `tail`, and the lines after them, which give nothing,
-- up to `rest`. So far they give `given`.
pub record TailSoFar (o : ParseOption) (text start tail rest given : List ℕ) : Type 0 where
  pub before : List ℕ
  pub own : List ℕ
  pub note : List ℕ
  pub end : List ℕ
  pub lines : List ℕ
  pub start_is : start ≡ before ++ rest
  pub own_is : start ≡ own ++ tail
  pub tail_is : tail ≡ note ++ (end ++ (lines ++ rest))
  pub past_note : past_note o tail ≡ end ++ (lines ++ rest)
  pub is_note : LineTail note (end ++ (lines ++ rest))
  pub own_lines : OwnLines o own tail
  pub ends : LineEnd end (lines ++ rest)
  pub reads : value o text ≡ altered_answer without_outer_line_feeds (prepend given (more_lines o rest))
  pub closes : (s r v : List ℕ) → s ++ r ≡ rest → MoreLines o s r v → list_all is_line_feed v ≡ true
      → (u : List ℕ) × MoreLines o (lines ++ s) r u × (list_all is_line_feed u ≡ true)
  pub grows : (s r : List ℕ) → s ++ r ≡ rest → LastLine o s r → OwnLines o (before ++ s) r

-- where the lines stand of a value that was read
abbrev pub HasLines : ParseOption → List ℕ → Rests → Result (CowStr Global × Bor (List ℕ)) Stop → Type 0
HasLines o text rests r =
    IfOk r (λ p. HasTail o text (chars rests.start.now) (chars rests.tail.now) (cow_text p.0)
    (chars p.1.now))

-- after a key the value's own lines stand between `start` and `tail`; or the key stands alone
pub data ReadsAfterKey (o : ParseOption) (after_key start tail gives rest : List ℕ) : Type 0 where
  with_value : BeginsWith is_separator after_key → HasTail o (drop 1 after_key) start tail gives rest
      → ReadsAfterKey o after_key start tail gives rest
  alone : BeginsWithNo is_separator after_key → ReadsAfterKey o after_key start tail gives rest

-- a pair was read at the front of a text: after the blanks of its key a string ends before `after_key`
pub record ReadsPair (o : ParseOption) (text after_key start tail gives rest : List ℕ) : Type 0 where
  pub key : List ℕ
  pub key_is : key_string o (skipped is_blank text) ≡ found key after_key
  pub after_key_is : ReadsAfterKey o after_key start tail gives rest

-- where the value stands that was read
abbrev pub HasRestsOf : ParseOption → List ℕ → Rests → List ℕ → List ℕ → Type 0
HasRestsOf o text rests value rest =
    ReadsPair o text (chars rests.after_key.now) (chars rests.start.now) (chars rests.tail.now) value rest

-- where what was read stands, if it is a pair
abbrev pub HasRests : ParseOption → List ℕ → Rests → Option BorrowedItem → List ℕ → Type 0
HasRests o text rests (Some (items.Pair key value)) rest = HasRestsOf o text rests (cow_text value) rest
HasRests o text rests _ rest = ⊤

-- the same after the key
abbrev pub HasValueRests : ParseOption → List ℕ → Rests → Option BorrowedItem → List ℕ → Type 0
HasValueRests o after_key rests (Some (items.Pair key value)) rest =
    (chars rests.after_key.now ≡ after_key)
    × ReadsAfterKey o after_key (chars rests.start.now) (chars rests.tail.now) (cow_text value) rest
HasValueRests o after_key rests _ rest = ⊤

-- no pair was read
abbrev pub IsHeader : Option BorrowedItem → Type 0
IsHeader (Some (items.Pair key value)) = ⊥
IsHeader _ = ⊤

-- of lines this part stands before the white space at their end
abbrev pub IsBeforeSpace : Backslash → List ℕ → List ℕ → Type 0
IsBeforeSpace b lines raw_value =
    (space_after : List ℕ) × (lines ≡ raw_value ++ space_after) × SpaceAfter b raw_value space_after

-- a text goes on with a pair up to the rest r
abbrev pub BeginsPair : ParseOption → List ℕ → List ℕ → Type 0
BeginsPair o t r = (b : List ℕ) × (s : List ℕ) × (key : List ℕ) × (value : List ℕ)
    × Element o b s r (Pair key value ∷ []) × (s ++ r ≡ t)

-- the places are those of the pair with which the text goes on, whatever stands before it
abbrev pub PlacesPair : ParseOption → List ℕ → List ℕ → PairPlaces → Type 0
PlacesPair o t r p = (b s key value : List ℕ) → Element o b s r (Pair key value ∷ []) → s ++ r ≡ t
    → (s ≡ pair_source (stretches_of p)) × ArePlaced o b (stretches_of p) r key value

-- the element at the rest `start` of a text, and what follows it
abbrev pub FindsElement : ParseOption → List ℕ → List ℕ
    → Result (Option PlacedElement × Bor (List ℕ)) Stop → Type 0
FindsElement o T start r =
    MatchResult r
    (λ p. IsRest T (chars p.1.now) × MatchOption p.0
    ((front_of T start ≡ T) × (front_of T (chars p.1.now) ≡ T))
    (StandsBetween o T (front_of T start) (front_of T (chars p.1.now))))
    (λ stop. StopIsWithin T stop × ((e : Error) → TellsRefusal (refusal_of T stop) e
    → RefusesElement o T (front_of T start) e))
