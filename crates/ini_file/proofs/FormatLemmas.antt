-- A text that was read is laid out again, or sorted, unless memory is refused.
use Rattle.std.proofs.Common.{◌≡◌, Option, Some, subst, sym}
use Rattle.ini_text.specs.declared.error.Error.{Error}
use Rattle.ini_text.specs.declared.error.Error.TheVariants.{Io, Memory, NoProgress, NotUtf8, Parse}
use Rattle.ini_text.specs.declared.option.ParseOption.{ParseOption}
use Rattle.ini.specs.Documents.{Document}
use Rattle.ini.specs.Loading.{IsDocumentOf}
use Rattle.ini.specs.Texts.{Text}
use Rattle.ini_edit.specs.LaidOut.{IsLaidOut, RefusesLayout}
use Rattle.ini_edit.specs.Sorting.{IsSortOf}
use Rattle.ini_edit.specs.WholeTexts.{IsRefusalOf}
use Rattle.ini_edit.specs.declared.error.EditError.{EditError}
use Rattle.ini_edit.specs.declared.error.EditError.TheVariants.{Key, Name, NoPlace, Separator}
use Rattle.ini_edit.specs.declared.error.EditError.TheVariants.{Text as TextError, Value}
use Rattle.ini_edit.specs.declared.source.layout.Layout.{Layout}
use Rattle.ini_edit.specs.declared.source.layout.Loss.{Loss}
use Rattle.ini_edit.specs.declared.source.layout.sort.Sorting.{Sorting}
use Rattle.ini_edit.proofs.WholeTextRefusalLemmas.{loads_or_stops}
use Rattle.ini_file.specs.Formats.{IsInOrder}

module _ {o : ParseOption} (l : Layout) (T : Text) {U : Text} {d : Document} (has : IsDocumentOf o U d) where
  pub sorting_refused : (e : Error) → IsRefusalOf o U e → RefusesLayout o l T (TextError e)
  sorting_refused (Parse e) stop = absurd (loads_or_stops has stop)
  sorting_refused (Memory m) is = tt
  sorting_refused (Io e) none = none
  sorting_refused NoProgress none = none
  sorting_refused NotUtf8 none = none

  pub layout_refused : (e : EditError) → RefusesLayout o l U e → RefusesLayout o l T e
  layout_refused Separator unplain = unplain
  layout_refused (TextError (Parse e)) refused = absurd (loads_or_stops has refused.1)
  layout_refused (TextError (Memory m)) is = tt
  layout_refused (TextError (Io e)) none = none
  layout_refused (TextError NoProgress) none = none
  layout_refused (TextError NotUtf8) none = none
  layout_refused Value none = none
  layout_refused Key none = none
  layout_refused Name none = none
  layout_refused NoPlace none = none

-- what holds for a loss that is known, of a text that is known
pub laid_as : {o : ParseOption} {l : Layout} {loss lost : Option Loss} {T U V : Text} → loss ≡ lost → U ≡ T
    → IsLaidOut o l loss U V → IsLaidOut o l lost T V
laid_as {o} {l} {lost = lost} {U = U} {V} loses same is =
    subst (λ x. IsLaidOut o l lost x V) same (subst (λ x. IsLaidOut o l x U V) loses is)

pub sorted_as : {o : ParseOption} {s : Sorting} {loss lost : Option Loss} {T U V : Text} → loss ≡ lost → U ≡ T
    → IsSortOf o s loss U V → IsSortOf o s lost T V
sorted_as {o} {s} {lost = lost} {U = U} {V} loses same is =
    subst (λ x. IsSortOf o s lost x V) same (subst (λ x. IsSortOf o s x U V) loses is)

-- what holds of a text that is left as it is, for a loss
pub told : {o : ParseOption} {l : Layout} {sorting : Option Sorting} {s : Sorting} {loss : Option Loss}
    {lost : Loss} {T U : Text} → sorting ≡ Some s → loss ≡ Some lost → U ≡ T
    → IsInOrder o l (Some s) (Some lost) T T → IsInOrder o l sorting loss T U
told {o} {l} {s = s} {loss = loss} {lost} {T} {U} sorts loses same is =
    subst (λ x. IsInOrder o l x loss T U) (sym sorts)
    (subst (λ x. IsInOrder o l (Some s) x T U) (sym loses)
    (subst (λ x. IsInOrder o l (Some s) (Some lost) T x) (sym same) is))
