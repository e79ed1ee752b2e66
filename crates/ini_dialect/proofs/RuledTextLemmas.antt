-- What an edit of a whole text under a rule is refused with, from what its pieces are.
use Rattle.std.proofs.Common.{◌≡◌, Option, refl, subst}
use Rattle.ini_text.specs.Laws.Plain.{IsPlainName}
use Rattle.ini_text.specs.declared.error.Error.TheVariants.{Io, Memory, NoProgress, NotUtf8, Parse}
use Rattle.ini_text.specs.declared.option.ParseOption.{ParseOption}
use Rattle.ini_text.specs.declared.write.option.WriteOption.{WriteOption}
use Rattle.ini_text.specs.declared.write.policy.EscapePolicy.{EscapePolicy}
use Rattle.ini.specs.Texts.{Text}
use Rattle.ini_edit.specs.Edited.{IsKeyOrMemory, IsNameOrMemory}
use Rattle.ini_edit.specs.Renamed.{IsPlainBareKey}
use Rattle.ini_edit.specs.Sources.{Pieces}
use Rattle.ini_edit.specs.WholeTexts.{IsReadInPieces}
use Rattle.ini_edit.specs.declared.error.EditError.{EditError}
use Rattle.ini_edit.specs.declared.error.EditError.TheVariants.{Key, Name, NoPlace, Separator, Value}
use Rattle.ini_edit.specs.declared.error.EditError.TheVariants.{Text as TextError}
use Rattle.ini_dialect.specs.KeyEdits.{RefusesKey}
use Rattle.ini_dialect.specs.RuledTexts.{RefusesInText, RefusesToAddTextUnder, RefusesToSetTextUnder}
use Rattle.ini_dialect.specs.SectionEdits.{RefusesName}
use Rattle.ini_dialect.specs.SourceLookups.{RefusesToPutUnder, RefusesUnder, RefusesValue}
use Rattle.ini_dialect.specs.declared.rule.Lookup.{Lookup}

-- what renaming is refused with
pub refuses_name : (o : ParseOption) (policy : EscapePolicy) (name : Text) (e : EditError) → IsNameOrMemory e
    → (e ≡ Name → ¬ IsPlainName o policy name) → RefusesName o policy name e
refuses_name o policy name Name only plain = plain refl
refuses_name o policy name (TextError (Memory m)) only plain = tt
refuses_name o policy name (TextError (Io e)) only plain = absurd only
refuses_name o policy name (TextError (Parse e)) only plain = absurd only
refuses_name o policy name (TextError NotUtf8) only plain = absurd only
refuses_name o policy name (TextError NoProgress) only plain = absurd only
refuses_name o policy name Key only plain = absurd only
refuses_name o policy name Value only plain = absurd only
refuses_name o policy name Separator only plain = absurd only
refuses_name o policy name NoPlace only plain = absurd only

refuses_key : (o : ParseOption) (policy : EscapePolicy) (key : Text) (e : EditError) → IsKeyOrMemory e
    → (e ≡ Key → ¬ IsPlainBareKey o policy key) → RefusesKey o policy key e
refuses_key o policy key Key only plain = plain refl
refuses_key o policy key (TextError (Memory m)) only plain = tt
refuses_key o policy key (TextError (Io e)) only plain = absurd only
refuses_key o policy key (TextError (Parse e)) only plain = absurd only
refuses_key o policy key (TextError NotUtf8) only plain = absurd only
refuses_key o policy key (TextError NoProgress) only plain = absurd only
refuses_key o policy key Name only plain = absurd only
refuses_key o policy key Value only plain = absurd only
refuses_key o policy key Separator only plain = absurd only
refuses_key o policy key NoPlace only plain = absurd only

module _ {o : ParseOption} {T : Text} {p : Pieces} (read : IsReadInPieces o T p) where
  pieces_refused : (refuses : ParseOption → Pieces → EditError → Type 0) {e : EditError}
      → refuses p.option p e → RefusesInText o T (refuses o) e
  pieces_refused refuses {e} refused =
      RefusesInText.pieces (record {
        pieces = p;
        is_read = read;
        refused = subst (λ x. refuses x p e) read.option refused;
      })

  pub value_refused : (policy : EscapePolicy) (value : Text) (e : EditError)
      → RefusesValue p.option policy value e → RefusesInText o T (λ q. RefusesValue o policy value) e
  value_refused policy value e = pieces_refused (λ x q. RefusesValue x policy value)

  pub name_refused : (policy : EscapePolicy) (name : Text) (e : EditError) → IsNameOrMemory e
      → (e ≡ Name → ¬ IsPlainName p.option policy name) → RefusesInText o T (λ q. RefusesName o policy name) e
  name_refused policy name e only plain =
      pieces_refused (λ x q. RefusesName x policy name) (refuses_name p.option policy name e only plain)

  pub key_refused : (policy : EscapePolicy) (key : Text) (e : EditError) → IsKeyOrMemory e
      → (e ≡ Key → ¬ IsPlainBareKey p.option policy key) → RefusesInText o T (λ q. RefusesKey o policy key) e
  key_refused policy key e only plain =
      pieces_refused (λ x q. RefusesKey x policy key) (refuses_key p.option policy key e only plain)

  module _ {rule : Lookup} {name : Option Text} {key : Text} {w : WriteOption} {value : Text}
      {e : EditError} where
    pub setting_refused : RefusesToPutUnder rule name key p.option w p value e
        → RefusesToSetTextUnder rule o T w name key value e
    setting_refused = pieces_refused (λ x q. RefusesToPutUnder rule name key x w q value)

    pub adding_refused : RefusesUnder rule name key p.option w p value e
        → RefusesToAddTextUnder rule o T w name key value e
    adding_refused = pieces_refused (λ x q. RefusesUnder rule name key x w q value)
