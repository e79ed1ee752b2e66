-- What a format makes of a file's bytes, and its exit status.
use Rattle.std.specs.Prelude.{◌≡◌, ◌==◌, ◌&&◌, not, if◌then◌else◌, ℕ, Bool, List, ◌++◌, chars, length}
use Rattle.std.specs.Prelude.{Result, Ok, Err, MatchBool, Option, None, Some, codes, unwrap_or}
use Rattle.std.specs.Str.{IsUtf8, bytes_eq}
use Rattle.ini_text.specs.Parsing.ByteOrderMarks.{has_byte_order_mark, without_byte_order_mark}
use Rattle.ini_text.specs.declared.error.Error.TheVariants.{NotUtf8}
use Rattle.ini_text.specs.declared.option.ParseOption.{ParseOption}
use Rattle.ini.specs.Loading.{IsTextWith}
use Rattle.ini.specs.Texts.{Text}
use Rattle.ini_edit.specs.LaidOut.{IsLaidOut, RefusesLayout}
use Rattle.ini_edit.specs.Sorting.{IsSortOf}
use Rattle.ini_edit.specs.declared.error.EditError.{EditError}
use Rattle.ini_edit.specs.declared.error.EditError.TheVariants.{Text as TextError}
use Rattle.ini_edit.specs.declared.source.layout.Layout.{Layout}
use Rattle.ini_edit.specs.declared.source.layout.Loss.{Loss}
use Rattle.ini_edit.specs.declared.source.layout.Separators.{Separators}
use Rattle.ini_edit.specs.declared.source.layout.Separators.TheVariants.{Given, Kept, Prevailing}
use Rattle.ini_edit.specs.declared.source.layout.sort.Sorting.{Sorting}
use Rattle.ini_words.specs.Words.{Word}
use Rattle.ini_file.specs.Bytes.{byte_order_mark_of}
use Rattle.ini_file.specs.Choices.{Chosen}
use Rattle.ini_file.specs.declared.format.FormattedFile.{FormattedFile}

-- separators are those that are given; where none are, as most pairs have it, and by `keep` each as it is
abbrev pub AreGiven : Word → Separators → Type 0
AreGiven word (Given text) = text.now ≡ word
AreGiven word Kept = ⊥
AreGiven word Prevailing = ⊥

abbrev pub AreChosen : Option Word → Separators → Type 0
AreChosen None s = s ≡ Prevailing
AreChosen (Some word) s = MatchBool (bytes_eq word (codes "keep")) (s ≡ Kept) (AreGiven word s)

-- the layout that is chosen: one blank line where their number isn't
pub record IsLayout (c : Chosen) (l : Layout) : Type 0 where
  pub separator : AreChosen c.separator l.separator
  pub pair_indentation : l.pair_indentation ≡ c.spacing.pair_indentation
  pub blank_lines : l.blank_lines ≡ unwrap_or c.spacing.blank_lines 1
  pub aligned : l.aligned ≡ c.switches.align

-- A file without a mark stays as it is where a mark, which reading would drop, would begin its new text.
abbrev pub text_after : (mark old new : List ℕ) → List ℕ
text_after mark old new = if length mark == 0 && has_byte_order_mark new then old else new

module _ (o : ParseOption) (l : Layout) where
  -- The text U is the text T laid out; and if it is to be sorted, then sorted, and laid out again. Where one
  -- of these would lose something T stays, and the loss is told.
  pub data IsInOrder : Option Sorting → Option Loss → (T U : Text) → Type 0 where
    laid : {loss : Option Loss} {T U : Text} → IsLaidOut o l loss T U → IsInOrder None loss T U
    sorted : {s : Sorting} {T laid sorted U : Text} → IsLaidOut o l None T laid
        → IsSortOf o s None laid sorted → IsLaidOut o l None sorted U → IsInOrder (Some s) None T U
    left : {s : Sorting} {loss : Loss} {T U : Text} → IsLaidOut o l (Some loss) T U
        → IsInOrder (Some s) (Some loss) T T
    unsorted : {s : Sorting} {loss : Loss} {T laid U : Text} → IsLaidOut o l None T laid
        → IsSortOf o s (Some loss) laid U → IsInOrder (Some s) (Some loss) T T
    unsteady : {s : Sorting} {loss : Loss} {T laid sorted U : Text} → IsLaidOut o l None T laid
        → IsSortOf o s None laid sorted → IsLaidOut o l (Some loss) sorted U
        → IsInOrder (Some s) (Some loss) T T

-- after a mark the bytes are those of the old text laid out, or its own for what a layout would lose
pub record IsFormattedAfter (o : ParseOption) (c : Chosen) (mark old : List ℕ) (f : FormattedFile)
    : Type 0 where
  pub layout : Layout
  pub is_layout : IsLayout c layout
  pub new : List ℕ
  pub utf8 : IsUtf8 new
  pub is_in_order : IsInOrder o layout c.spacing.sorting f.loss (chars old) (chars new)
  pub bytes_are : f.bytes.items ≡ mark ++ text_after mark old new

-- what the text's layout is refused with
pub record RefusesFormat (o : ParseOption) (c : Chosen) (T : Text) (refused : EditError) : Type 0 where
  pub layout : Layout
  pub is_layout : IsLayout c layout
  pub is_refused : RefusesLayout o layout T refused

-- what comes of a file's bytes: those laid out, or a refusal; first that they are no text
abbrev pub IsFormatted : ParseOption → Chosen → List ℕ → Result FormattedFile EditError → Type 0
IsFormatted o c input (Ok formatted) =
    IsFormattedAfter o c (byte_order_mark_of input) (without_byte_order_mark input) formatted
IsFormatted o c input (Err (TextError NotUtf8)) = ¬ (IsUtf8 (without_byte_order_mark input))
IsFormatted o c input (Err refused) =
    IsTextWith (λ T. RefusesFormat o c T refused) (without_byte_order_mark input)

-- the exit status of a file that has a layout: 1 where a check finds that it isn't laid out so
abbrev pub format_status : (check : Bool) (old new : List ℕ) → ℕ
format_status check old new = if check && not (bytes_eq old new) then 1 else 0
