-- What changes make of pieces, and what they are refused with.
use Rattle.std.proofs.Common.{◌≡◌, List, subst, sym}
use Rattle.ini_dialect.specs.declared.rule.Lookup.{Lookup}
use Rattle.ini_edit.specs.Sources.{Pieces}
use Rattle.ini_edit.specs.declared.edit_list.RefusedEdit.{RefusedEdit}
use Rattle.ini_edit.specs.declared.error.EditError.{EditError}
use Rattle.ini_layers.specs.Differences.{SettingChange}
use Rattle.ini_layers.specs.SourceChanges.{RefusesOneBy}
use Rattle.ini_layers.specs.declared.change.SettingValue.{SettingValue}
use Rattle.ini_text.specs.declared.write.option.WriteOption.{WriteOption}
use Rattle.ini_c.specs.Changes.{RefusesUnder}
use Rattle.ini_c.specs.Choices.{IsWriteOption}
use Rattle.ini_c.specs.declared.options.WriteChoice.{WriteChoice}

-- What holds of the pieces and of what is made of them holds of what they are then.
module _ (Q : List SettingChange → Pieces → Pieces → Type 0) where
  pub changes-made : {p new made : Pieces} {changes given : List SettingChange}
      → changes ≡ given → new ≡ made → Q changes p made → Q given p new
  changes-made {p = p} {new = new} {made = made} {changes = changes} {given = given} given_is new_is holds =
      subst (λ x. Q given p x) (sym new_is) (subst (λ x. Q x p made) given_is holds)

-- changes are refused
module _ {choice : WriteChoice} {w : WriteOption} (asked : IsWriteOption choice w) where
  pub changes-refused : {which : SettingValue} {rule : Lookup} {p : Pieces}
      {changes given : List SettingChange} {r : RefusedEdit} {e : EditError} → changes ≡ given
      → r.refusal ≡ e → RefusesOneBy which rule w p changes r
      → RefusesUnder which rule choice p given r.index e
  changes-refused {which = which} {rule = rule} {p = p} {changes = changes} {given = given} {r = r}
      given_is refusal_is refuses =
      record {
        option = w;
        asked = asked;
        holds = subst (λ x. RefusesOneBy which rule w p given (record { index = r.index; refusal = x }))
            refusal_is (subst (λ x. RefusesOneBy which rule w p x r) given_is refuses);
      }
