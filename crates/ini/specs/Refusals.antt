-- Refusals that stand whatever follows the text.
use Rattle.std.specs.Prelude.{◌≡◌, ◌≢◌}
use Rattle.ini_text.specs.Laws.Readings.{IsWholeBeforeCr}
use Rattle.ini_text.specs.declared.error.ParseError.{ParseError}
use Rattle.ini_text.specs.declared.error.ParseKind.TheVariants.{EndOfText, CrAlone}
use Rattle.ini_text.specs.declared.option.ParseOption.{ParseOption}
use Rattle.ini.specs.Texts.{Text}
use Rattle.ini.specs.Loading.{IsStopOf}

-- reading the text stops at a character, and not for the text's end: it isn't cut short, and it isn't whole
-- but for a CR at its end
pub record IsRefusedAtCharacter (o : ParseOption) (T : Text) (e : ParseError) : Type 0 where
  pub refused : IsStopOf o T e
  pub not_cut_short : e.kind ≢ EndOfText
  pub no_last_cr : e.kind ≡ CrAlone → ¬ IsWholeBeforeCr o T
