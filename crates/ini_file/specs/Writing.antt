-- How documents and new lines are written: by the options, and with a separator that is chosen.
use Rattle.std.specs.Prelude.{◌≡◌, ⊤, ℕ, List, codes, chars, Option, None, Some, unwrap_or}
use Rattle.std.specs.Borrow.{Bor}
use Rattle.std.specs.Option.{option_map}
use Rattle.ini_text.specs.Laws.Plain.{IsPlainSeparator}
use Rattle.ini_text.specs.declared.write.option.WriteOption.{WriteOption}
use Rattle.ini_words.specs.Words.{Word}
use Rattle.ini_words.specs.declared.options.Options.{Options}

-- the word that an `Option<&str>` stands for
abbrev pub word_of : Option (Bor (List ℕ)) → Option Word
word_of text = option_map (λ t. t.now) text

-- where no separator is chosen `=` alone stands between a key and its value
pub record IsWriting (o : Options) (separator : Option Word) (w : WriteOption) : Type 0 where
  pub escape_policy : w.escape_policy ≡ o.escape_policy
  pub line_separator : w.line_separator ≡ o.line_separator
  pub kv_separator : w.kv_separator.now ≡ unwrap_or separator (codes "=")

-- what a separator that is chosen separates is read back
abbrev pub Separates : Option Word → Type 0
Separates None = ⊤
Separates (Some separator) = IsPlainSeparator (chars separator)
