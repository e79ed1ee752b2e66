-- Quotes around a value's source, and the quote in which a value is written in another one's place.
use Rattle.std.specs.Prelude.{◌≡◌, ℕ, Bool, true, false, not, ◌&&◌, if◌then◌else◌, [], ◌∷◌, ◌++◌, ◌==◌}
use Rattle.std.specs.List.{list_any}
use Rattle.ini_text.specs.Grammar.CharacterKinds.{double_quote, is_quote_mark}
use Rattle.ini_text.specs.Grammar.Strings.{Str, quote_ends}
use Rattle.ini_text.specs.Escaping.EscapedTexts.{escaped}
use Rattle.ini_text.specs.Options.ReadOptions.{backslash_of}
use Rattle.ini_text.specs.declared.option.ParseOption.{ParseOption}
use Rattle.ini_text.specs.declared.write.policy.EscapePolicy.{EscapePolicy}
use Rattle.ini.specs.Texts.{Text}
use Rattle.ini_edit.specs.SourceLines.{is_empty}

-- the mark stands in the text
abbrev pub has_quote_mark : Text → ℕ → Bool
has_quote_mark text m = list_any (λ c. c == m) text

-- what is written of a value between a quote's marks; with an empty quote the value stands bare
abbrev pub written_in : EscapePolicy → Text → Text → Text
written_in policy quote value = quote ++ (escaped policy value ++ quote)

-- the quote that is tried first: double marks where an empty value would stand bare before a note
abbrev pub quote_before : ParseOption → (note quote value : Text) → Text
quote_before o note quote value =
    if o.enabled_quote && (is_empty quote && (is_empty value && not (is_empty note))) then double_quote ∷ []
    else quote

-- a value's source stands in quotes: where these are read, it is one quoted part of this mark
pub record StandsInQuotes (o : ParseOption) (raw_value : Text) (m : ℕ) : Type 0 where
  pub on : o.enabled_quote ≡ true
  pub mark : is_quote_mark m ≡ true
  pub content : Text
  pub given : Text
  pub string : Str (backslash_of o) (quote_ends m) content (m ∷ []) given
  pub whole : raw_value ≡ m ∷ (content ++ m ∷ [])

-- The quote in which a value is written in the place of one whose source is `own`: that in which the old one
-- stands, where its mark doesn't stand in the value; else an empty one.
pub data KeepsQuote (o : ParseOption) (raw_value value : Text) : Text → Type 0 where
  kept : {m : ℕ} → StandsInQuotes o raw_value m → has_quote_mark value m ≡ false
      → KeepsQuote o raw_value value (m ∷ [])
  none : ((m : ℕ) → StandsInQuotes o raw_value m → has_quote_mark value m ≡ true)
      → KeepsQuote o raw_value value []
