-- Keys that can be written in any pair's place: plain ones that no space begins.
use Rattle.std.proofs.Common.{◌≡◌, ℕ, true, false, eqb, eqb-true, List, [], ◌∷◌, refl, ap, ◌∙◌, subst, sym}
use Rattle.std.proofs.Common.{inl, inr}
use Rattle.std.proofs.lemmas.Bool.{and_parts, both_ways, false_from_ne_true}
use Rattle.std.specs.Char.{is_whitespace}
use Rattle.std.specs.List.{list_all}
use Rattle.ini_text.specs.Escaping.Policies.{is_escaped}
use Rattle.ini_text.specs.Grammar.CharacterKinds.{space, begins}
use Rattle.ini_text.specs.Laws.Plain.{IsBareKey, IsPlainKey, IsPlainPair, IsPlainValue}
use Rattle.ini_text.specs.declared.option.ParseOption.{ParseOption}
use Rattle.ini_text.specs.declared.write.policy.EscapePolicy.{EscapePolicy}
use Rattle.ini_text.proofs.PlainLemmas.PlainPairLemmas.{space_raw}
use Rattle.ini_text.proofs.PlainLemmas.PlainTrimLemmas.{trimmed_begins}
use Rattle.ini_edit.specs.Renamed.{IsPlainBareKey}

module _ {o : ParseOption} {policy : EscapePolicy} where
  pub plain_bare : {key value : List ℕ} → IsPlainPair o policy key value
      → begins (λ c. eqb c space) key ≡ false → IsPlainBareKey o policy key
  plain_bare plain other = record {
    bare = at plain.plain_key other;
    no_note = plain.key_no_note;
    read_back = plain.key_read_back;
  }
    where
      at : {key : List ℕ} → IsPlainKey o policy key → begins (λ c. eqb c space) key ≡ false
          → IsBareKey o policy key
      at (IsPlainKey.bare bare) other = bare
      at (IsPlainKey.after_spaces [] kept off all bare) other = bare
      at (IsPlainKey.after_spaces (c ∷ spaces) kept off all bare) other =
          absurd (both_ways (eqb c space) other
          (and_parts (eqb c space) (list_all (λ c. eqb c space) spaces) all).0)

  pub empty_plain : IsPlainValue o policy []
  empty_plain = record {
    is_trimmed = refl;
    no_quote_mark = λ _. tt;
    no_note = λ _. refl;
    read_back = record {
      of_characters = refl;
      is_read = inr (record { no_escaped = refl; no_backslash = refl });
    };
  }

  pub bare_plain : {key : List ℕ} → IsPlainBareKey o policy key → IsPlainPair o policy key []
  bare_plain b = record {
    plain_key = IsPlainKey.bare b.bare;
    key_no_note = b.no_note;
    key_read_back = b.read_back;
    plain_value = empty_plain;
  }

  pub bare_no_space : {key : List ℕ} → IsPlainBareKey o policy key → begins (λ c. eqb c space) key ≡ false
  bare_no_space {key = []} b = refl
  bare_no_space {key = c ∷ cs} b = false_from_ne_true (eqb c space) (λ q. elim b.bare.is_trimmed [
    | inl t ↦
        both_ways (is_whitespace c) (trimmed_begins (c ∷ cs) t)
        (subst (λ z. is_whitespace z ≡ true) (sym (eqb-true c space q)) refl)
    | inr i ↦
        both_ways (is_escaped policy c) (ap (is_escaped policy) (eqb-true c space q) ∙ space_raw policy)
        (and_parts (is_whitespace c) (is_escaped policy c) i.white).1
  ])
