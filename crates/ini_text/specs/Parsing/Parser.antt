-- Where a parser stands, and what one call of it does.
use Rattle.std.specs.Prelude.{◌≡◌, ℕ, ◌<◌, List, [], ◌∷◌, ◌++◌, length, ⊤, chars, Option, Some, None}
use Rattle.std.specs.Prelude.{Result, Ok, Err, IsSomeAnd, MatchOption, MatchResult}
use Rattle.std.specs.Cow.{cow_str_bytes}
use Rattle.ini_text.specs.Grammar.Elements.{Given, ElementStops}
use Rattle.ini_text.specs.Parsing.Items.{borrowed_item_of, item_of}
use Rattle.ini_text.specs.Errors.Messages.{HasMessage}
use Rattle.ini_text.specs.Grammar.Positions.{line_of, column_of}
use Rattle.ini_text.specs.Grammar.Texts.{Reads}
use Rattle.ini_text.specs.declared.error.Error.{Error}
use Rattle.ini_text.specs.declared.error.Error.TheVariants as errors
use Rattle.ini_text.specs.declared.error.ParseKind.{ParseKind}
use Rattle.ini_text.specs.declared.item.BorrowedItem.{BorrowedItem}
use Rattle.ini_text.specs.declared.item.Item.{Item}
use Rattle.ini_text.specs.declared.option.ParseOption.{ParseOption}
use Rattle.ini_text.specs.declared.parser.fault.Stop.{Stop}
use Rattle.ini_text.specs.declared.parser.fault.Stop.TheVariants as stops
use Rattle.ini_text.specs.Parsing.Fronts.{front_of}

-- a refusal that was answered: when out of memory, or with kind, line, column and message
pub data AnsweredRefusal : Type 0 where
  memory : AnsweredRefusal
  parse : ParseKind → ℕ → ℕ → List ℕ → AnsweredRefusal

pub record Place : Type 0 where
  pub option : ParseOption
  pub text : List ℕ
  pub front : List ℕ
  pub refusal : Option AnsweredRefusal

-- the error tells the refusal
abbrev pub TellsRefusal : AnsweredRefusal → Error → Type 0
TellsRefusal memory (errors.Memory _) = ⊤
TellsRefusal (parse kind line column message) (errors.Parse e) =
    (e.kind ≡ kind) × (e.line ≡ line) × (e.col ≡ column) × (cow_str_bytes e.msg ≡ message)
TellsRefusal _ _ = ⊥

-- after the front b, elements that give nothing reach a front after which reading stops, with this kind,
-- line and column
pub record StopsPast (o : ParseOption) (T b : List ℕ) (kind : ParseKind) (line column : ℕ) : Type 0 where
  pub front : List ℕ
  pub source : List ℕ
  pub rest : List ℕ
  pub reads : Reads o T b [] front
  pub whole : T ≡ front ++ (source ++ rest)
  pub stops : ElementStops o front source rest kind
  pub line_is : line ≡ line_of (front ++ source)
  pub column_is : column ≡ column_of (front ++ source)

-- what the text is refused with after the front b
abbrev pub Refuses : ParseOption → List ℕ → List ℕ → Error → Type 0
Refuses o T b (errors.Memory _) = ⊤
Refuses o T b (errors.Parse e) =
    StopsPast o T b e.kind e.line e.col × HasMessage e.kind (cow_str_bytes e.msg)
Refuses o T b _ = ⊥

-- from the front b to the front c of the text T: no item, only at the text's end; an item, and a longer
-- front; or a refusal
abbrev pub Answers : {I : Type 0} → (I → Given) → ParseOption → List ℕ → List ℕ → List ℕ
    → Result (Option I) Error → Type 0
Answers view o T b c r =
    MatchResult r
    (λ found. MatchOption found ((c ≡ T) × Reads o T b [] T)
    (λ item. (length b < length c) × Reads o T b (view item ∷ []) c))
    (Refuses o T b)

abbrev pub AnswersItem : ParseOption → List ℕ → List ℕ → List ℕ → Result (Option Item) Error → Type 0
AnswersItem o T b c r = Answers item_of o T b c r

-- the same, of an item that may borrow
abbrev pub AnswersBorrowed : ParseOption → List ℕ → List ℕ → List ℕ → Result (Option BorrowedItem) Error
    → Type 0
AnswersBorrowed o T b c r = Answers borrowed_item_of o T b c r

-- a refusal stays, and the first one is kept
abbrev pub KeepsRefusal : {X : Type 0} → Option AnsweredRefusal → Option AnsweredRefusal → Result X Error
    → Type 0
KeepsRefusal (Some refusal) new r = new ≡ Some refusal
KeepsRefusal None new (Ok item) = new ≡ None
KeepsRefusal None new (Err e) = IsSomeAnd new (λ refusal. TellsRefusal refusal e)

-- the refusal of a text that stops
abbrev pub refusal_of : List ℕ → Stop → AnsweredRefusal
refusal_of T stops.Memory = memory
refusal_of T (stops.Fault fault) =
    let front = front_of T (chars fault.rest.now) in
    parse fault.kind (line_of front) (column_of front) fault.message.now
