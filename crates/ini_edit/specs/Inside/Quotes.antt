-- How a quoted part is found to be all of a value's source.
use Rattle.std.specs.Prelude.{◌≡◌, ℕ, Bool, true, false, not, ◌&&◌, ◌==◌, if◌then◌else◌, [], ◌∷◌, ◌++◌}
use Rattle.std.specs.Prelude.{Option, Some, None}
use Rattle.ini_text.specs.Grammar.CharacterKinds.{is_quote_mark}
use Rattle.ini_text.specs.Grammar.Places.{OwnLines}
use Rattle.ini_text.specs.Options.Backslashes.{begins_escape}
use Rattle.ini_text.specs.Options.ReadOptions.{backslash_of}
use Rattle.ini_text.specs.declared.option.ParseOption.{ParseOption}
use Rattle.ini.specs.Texts.{Text}

-- a raw value: with white space after it, it is the lines of a value
pub record IsOwnSource (o : ParseOption) (raw_value : Text) : Type 0 where
  pub space_after : Text
  pub rest : Text
  pub lines : OwnLines o (raw_value ++ space_after) rest

-- what follows the first mark that no backslash takes; the text's first character is taken or isn't
abbrev pub after_quote_mark : ParseOption → ℕ → Bool → Text → Option Text
after_quote_mark o m taken [] = None
after_quote_mark o m taken (c ∷ cs) =
    if c == m && not taken then Some cs
    else after_quote_mark o m (begins_escape (backslash_of o) c && not taken) cs

-- a mark begins the text, and where it stands next with no backslash that takes it, it ends the text
pub record IsBetweenQuoteMarks (o : ParseOption) (text : Text) (m : ℕ) : Type 0 where
  pub mark : is_quote_mark m ≡ true
  pub following : Text
  pub whole : text ≡ m ∷ following
  pub ends : after_quote_mark o m false following ≡ Some []
