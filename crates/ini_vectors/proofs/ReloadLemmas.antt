-- What loading answers, by the one outcome of its text.
use Rattle.std.proofs.Common.{◌≡◌, ◌∙◌, sym, subst, refl, Ok, Err, Result, IfOk, IfErr}
use Rattle.ini_text.specs.declared.error.Error.{Error}
use Rattle.ini_text.specs.declared.error.Error.TheVariants.{Io, Memory, NoProgress, NotUtf8, Parse}
use Rattle.ini_text.specs.declared.option.ParseOption.{ParseOption}
use Rattle.ini.specs.Documents.{Document}
use Rattle.ini.specs.Loading.{IfParse, IsDocumentOf, IsParseOrMemory, IsStopOf}
use Rattle.ini.specs.Outcomes.{HasOneOutcome, HasOutcome, Outcome, loaded, refused}
use Rattle.ini.specs.Texts.{Text}
use Rattle.ini_vectors.specs.Reloads.{TellsOutcome}

module _ {o : ParseOption} {T : Text} (one : HasOneOutcome o T) where
  same : (x y : Outcome) → HasOutcome o T x → HasOutcome o T y → x ≡ y
  same x y h k = one.alone x h ∙ sym (one.alone y k)

  pub tells : (result : Result Document Error) → IfOk result (IsDocumentOf o T)
      → IfParse result (IsStopOf o T) → IfErr result IsParseOrMemory → (x : Outcome) → HasOutcome o T x
      → TellsOutcome x result
  tells (Ok d) document fault only x h =
      subst (λ y. TellsOutcome y (Ok d)) (same (loaded d) x document h) refl
  tells (Err (Parse f)) document fault only x h =
      let stop : HasOutcome o T (refused f.kind f.line f.col) =
      record { front = fault.front; stops = fault.stops; line_is = fault.line; column_is = fault.column } in
      subst (λ y. TellsOutcome y (Err (Parse f))) (same (refused f.kind f.line f.col) x stop h)
      (refl, refl, refl)
  tells (Err (Memory e)) document fault only (loaded d) h = tt
  tells (Err (Memory e)) document fault only (refused kind line column) h = tt
  tells (Err (Io e)) document fault only x h = absurd only
  tells (Err NoProgress) document fault only x h = absurd only
  tells (Err NotUtf8) document fault only x h = absurd only
