-- What comes of a text, and of a text after a document's own.
use Rattle.std.specs.Prelude.{◌≡◌, ℕ, ◌+◌, ◌++◌, drop, count_by}
use Rattle.ini_text.specs.Grammar.CharacterKinds.{is_line_feed}
use Rattle.ini_text.specs.Grammar.Positions.{line_of, column_of}
use Rattle.ini_text.specs.Grammar.Texts.{Stops}
use Rattle.ini_text.specs.declared.error.ParseKind.{ParseKind}
use Rattle.ini_text.specs.declared.option.ParseOption.{ParseOption}
use Rattle.ini_text.specs.declared.write.option.WriteOption.{WriteOption}
use Rattle.ini.specs.Texts.{Text}
use Rattle.ini.specs.Documents.{Document}
use Rattle.ini.specs.Loading.{IsDocumentOf}
use Rattle.ini.specs.Written.{written}

-- a document, or a refusal with its kind, line and column
pub data Outcome : Type 0 where
  loaded : Document → Outcome
  refused : ParseKind → ℕ → ℕ → Outcome

-- reading the text stops for this reason, in this line and column
pub record IsRefusedAt (o : ParseOption) (T : Text) (kind : ParseKind) (line column : ℕ) : Type 0 where
  pub front : Text
  pub stops : Stops o T kind front
  pub line_is : line ≡ line_of front
  pub column_is : column ≡ column_of front

-- what comes of the text
abbrev pub HasOutcome : ParseOption → Text → Outcome → Type 0
HasOutcome o T (loaded d) = IsDocumentOf o T d
HasOutcome o T (refused kind line column) = IsRefusedAt o T kind line column

-- one outcome comes of the text, and no other
pub record HasOneOutcome (o : ParseOption) (T : Text) : Type 0 where
  pub outcome : Outcome
  pub comes : HasOutcome o T outcome
  pub alone : (x : Outcome) → HasOutcome o T x → x ≡ outcome

-- The outcome after the document d, whose text has n line feeds: the sections of d and then those of the
-- other document but its first, which is the general one; or the refusal, n lines further down.
abbrev pub after : Document → ℕ → Outcome → Outcome
after d n (loaded e) = loaded (d ++ drop 1 e)
after d n (refused kind line column) = refused kind (line + n) column

-- what comes of Y comes of it after the document's text, after the document
abbrev pub Inverts : ParseOption → WriteOption → Document → Text → Type 0
Inverts o w d Y =
    let text = written d w in
    (x : Outcome) → HasOutcome o Y x → HasOutcome o (text ++ Y) (after d (count_by is_line_feed text) x)
