-- A whole text laid out: what it says stays, and laid out again it stays as it is.
use Rattle.std.specs.Prelude.{◌≡◌, ◌≢◌, Option, None, Some, ⊤}
use Rattle.ini_text.specs.Laws.Plain.{IsPlainSeparator}
use Rattle.ini_text.specs.declared.error.Error.TheVariants.{Memory, Parse}
use Rattle.ini_text.specs.declared.error.ParseError.{ParseError}
use Rattle.ini_text.specs.declared.option.ParseOption.{ParseOption}
use Rattle.ini.specs.Loading.{IsStopOf}
use Rattle.ini.specs.Texts.{Text, str_text}
use Rattle.ini_edit.specs.SourceEntries.{entries_in}
use Rattle.ini_edit.specs.SourceLayout.{laid_text}
use Rattle.ini_edit.specs.Sources.{Pieces}
use Rattle.ini_edit.specs.WholeTexts.{IsReadInPieces}
use Rattle.ini_edit.specs.declared.error.EditError.{EditError}
use Rattle.ini_edit.specs.declared.error.EditError.TheVariants.{Separator, Text as TextError}
use Rattle.ini_edit.specs.declared.source.layout.Layout.{Layout}
use Rattle.ini_edit.specs.declared.source.layout.Loss.{Loss}
use Rattle.ini_edit.specs.declared.source.layout.Separators.{Separators}
use Rattle.ini_edit.specs.declared.source.layout.Separators.TheVariants.{Given}
use Rattle.ini_edit.specs.declared.source.layout.Loss.TheVariants.{Different, Unreadable, Unsteady}

-- the text U says what the text T says: the same headers, pairs and comments, in the same order
pub record SaysTheSame (o : ParseOption) (T U : Text) : Type 0 where
  pub old : Pieces
  pub new : Pieces
  pub was : IsReadInPieces o T old
  pub is : IsReadInPieces o U new
  pub same : entries_in new ≡ entries_in old

module _ (o : ParseOption) (l : Layout) where
  -- the text of pieces, laid out, is to be theirs no more: it isn't read, says something else, or says the
  -- same, but would be laid out anew
  pub data LosesBy (old : Pieces) : Loss → Type 0 where
    stops : {e : ParseError} → IsStopOf o (laid_text l old) e → LosesBy old Unreadable
    differs : (new : Pieces) → IsReadInPieces o (laid_text l old) new → entries_in new ≢ entries_in old
        → LosesBy old Different
    unsteady : (new : Pieces) → IsReadInPieces o (laid_text l old) new → entries_in new ≡ entries_in old
        → laid_text l new ≢ laid_text l old → LosesBy old Unsteady

  -- pieces of the text T laid out; where that would lose something, T stays, and the loss is told
  pub data IsLayoutOf (T : Text) (old : Pieces) : Option Loss → Text → Type 0 where
    laid : (new : Pieces) → IsReadInPieces o (laid_text l old) new → entries_in new ≡ entries_in old
        → laid_text l new ≡ laid_text l old → IsLayoutOf T old None (laid_text l old)
    left : {loss : Loss} → LosesBy old loss → IsLayoutOf T old (Some loss) T

  -- the text U is the text T, laid out; where it is left as it is, for this loss
  pub record IsLaidOut (loss : Option Loss) (T U : Text) : Type 0 where
    pub old : Pieces
    pub is_read : IsReadInPieces o T old
    pub is : IsLayoutOf T old loss U

-- the separator that is given is plain, if one is
abbrev pub HasPlainSeparator : Separators → Type 0
HasPlainSeparator (Given separator) = IsPlainSeparator (str_text separator)
HasPlainSeparator _ = ⊤

-- It is refused for its separator, whatever the text is; then where reading the text stops; or for want of
-- memory.
abbrev pub RefusesLayout : ParseOption → Layout → Text → EditError → Type 0
RefusesLayout o l T Separator = ¬ HasPlainSeparator l.separator
RefusesLayout o l T (TextError (Parse e)) = HasPlainSeparator l.separator × IsStopOf o T e
RefusesLayout o l T (TextError (Memory _)) = ⊤
RefusesLayout o l T _ = ⊥
