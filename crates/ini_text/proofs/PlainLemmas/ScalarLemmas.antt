-- What is written for texts of characters is made of characters.
use Rattle.std.proofs.Common.{◌≡◌, ℕ, true, List, [], ◌∷◌, ◌++◌, eqb, eqb-true, inl, inr, refl, sym, subst}
use Rattle.std.proofs.lemmas.Bool.{cond_both, and_from, and_parts, or_cases}
use Rattle.std.proofs.lemmas.Str.{chars-IsAscii, scalars-chars, IsUtf8-from_ascii}
use Rattle.std.specs.List.{list_all}
use Rattle.std.specs.Str.{all_scalars}
use lib.Utf8.{scalar}
use Rattle.ini_text.specs.Grammar.CharacterKinds.{is_blank, is_separator}
use Rattle.ini_text.specs.Escaping.EscapedTexts.{escape, escaped}
use Rattle.ini_text.specs.Laws.Plain.{IsPlainSeparator}
use Rattle.ini_text.specs.Escaping.Policies.{is_escaped}
use Rattle.ini_text.specs.Options.WriteOptions.{line_end}
use Rattle.ini_text.specs.declared.write.policy.EscapePolicy.{EscapePolicy}
use Rattle.ini_text.specs.declared.write.option.LineSeparator.{LineSeparator}
use Rattle.ini_text.specs.declared.write.option.LineSeparator.TheVariants.{SystemDefault, CR, CRLF}
use Rattle.ini_text.proofs.WriteLemmas.EscapeByteLemmas.{IsAscii-escape}

pub scalars-append : (a b : List ℕ) → all_scalars a ≡ true → all_scalars b ≡ true
    → all_scalars (a ++ b) ≡ true
scalars-append [] b h k = k
scalars-append (c ∷ a) b h k =
    let parts = and_parts (scalar c) (all_scalars a) h in
    and_from (scalar c) _ parts.0 (scalars-append a b parts.1 k)

escape-scalars : (c : ℕ) → all_scalars (escape c) ≡ true
escape-scalars c =
    let ascii = IsAscii-escape c in
    subst (λ x. all_scalars x ≡ true) (chars-IsAscii (escape c) ascii)
    (scalars-chars (escape c) (IsUtf8-from_ascii (escape c) ascii))

pub escaped-scalars : (policy : EscapePolicy) (text : List ℕ) → all_scalars text ≡ true
    → all_scalars (escaped policy text) ≡ true
escaped-scalars policy [] h = refl
escaped-scalars policy (c ∷ cs) h =
    let parts = and_parts (scalar c) (all_scalars cs) h in
    let more = escaped-scalars policy cs parts.1 in
    cond_both (is_escaped policy c) (escape c) (c ∷ []) (λ p. all_scalars (p ++ escaped policy cs) ≡ true)
    (λ _. scalars-append (escape c) (escaped policy cs) (escape-scalars c) more)
    (λ _. and_from (scalar c) _ parts.0 more)

pub line_end-scalars : (s : LineSeparator) → all_scalars (line_end s) ≡ true
line_end-scalars SystemDefault = refl
line_end-scalars CR = refl
line_end-scalars CRLF = refl

blanks-scalars : (w : List ℕ) → list_all is_blank w ≡ true → all_scalars w ≡ true
blanks-scalars [] h = refl
blanks-scalars (c ∷ w) h =
    let parts = and_parts (is_blank c) (list_all is_blank w) h in
    let one : scalar c ≡ true = elim (or_cases (eqb c 0x20) (eqb c 0x09) parts.0) [
      | inl q ↦ subst (λ x. scalar x ≡ true) (sym (eqb-true c 0x20 q)) refl
      | inr q ↦ subst (λ x. scalar x ≡ true) (sym (eqb-true c 0x09 q)) refl
    ] in
    and_from (scalar c) _ one (blanks-scalars w parts.1)

separator-scalar : (m : ℕ) → is_separator m ≡ true → scalar m ≡ true
separator-scalar m h = elim (or_cases (eqb m 0x3D) (eqb m 0x3A) h) [
  | inl q ↦ subst (λ x. scalar x ≡ true) (sym (eqb-true m 0x3D q)) refl
  | inr q ↦ subst (λ x. scalar x ≡ true) (sym (eqb-true m 0x3A q)) refl
]

pub separator-scalars : (text : List ℕ) → IsPlainSeparator text → all_scalars text ≡ true
separator-scalars text sep =
    let after = blanks-scalars sep.after sep.blank_after in
    let following : all_scalars (sep.separator ∷ sep.after) ≡ true =
    and_from (scalar sep.separator) _ (separator-scalar sep.separator sep.separates) after in
    subst (λ x. all_scalars x ≡ true) (sym sep.whole)
    (scalars-append sep.before (sep.separator ∷ sep.after)
    (blanks-scalars sep.before sep.blank_before) following)
