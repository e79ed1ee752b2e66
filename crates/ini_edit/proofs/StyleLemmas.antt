-- What stands around the key of a new pair, as the code finds it.
use Rattle.std.proofs.Common.{◌≡◌, ◌∙◌, ℕ, true, false, [], ◌∷◌, ◌++◌, ap, arith, length, not, refl}
use Rattle.std.proofs.Common.{◌==◌, eqb-true, inl, inr, subst, sym}
use Rattle.std.proofs.lemmas.Bool.{and_parts, cases_Bool, cond-false, cond-true, false≢true, or_cases}
use Rattle.std.specs.List.{list_all}
use Rattle.ini_text.specs.Grammar.CharacterKinds.{equals, is_blank, is_separator, begins}
use Rattle.ini_text.specs.Laws.Plain.{IsPlainSeparator}
use Rattle.ini_text.specs.Parsing.Fronts.{front_of}
use Rattle.ini.specs.Texts.{Text}
use Rattle.ini_edit.specs.SourceLines.{after_blanks, is_empty}
use Rattle.ini_edit.specs.SourceWritten.{Style, first_or, option_style, rest_of}
use Rattle.ini_edit.proofs.SourceLineLemmas.{after_blanks-rest, front_of_all, rest_le, rest_under}

abbrev pub styled : (indent pad : Text) (separator : ℕ) (space_before : Text) → Style
styled indent pad separator space_before =
    record { indent = indent; pad = pad; separator = separator; space_before = space_before }

pub styled_same : {i j p q s t : Text} {m n : ℕ} → i ≡ j → p ≡ q → m ≡ n → s ≡ t
    → styled i p m s ≡ styled j q n t
styled_same {i} {j} {p} {q} {s} {t} {m} {n} a b c d =
    ap (λ x. styled x p m s) a ∙ ap (λ x. styled j x m s) b ∙ ap (λ x. styled j q x s) c
    ∙ ap (λ x. styled j q n x) d

pub style_made : (separator : Text) {indent pad space : Text} {c : ℕ} → indent ≡ []
    → pad ≡ front_of separator (after_blanks separator) → after_blanks separator ≡ c ∷ space
    → styled indent pad c space ≡ option_style separator
style_made separator {c = c} none blanks rest =
    styled_same none blanks (sym (ap (first_or equals) rest)) (sym (ap rest_of rest))

-- a plain separator isn't blank
pub separator_no_blank : {X : Type 0} (c : ℕ) → is_separator c ≡ true → is_blank c ≡ true → X
separator_no_blank c separates blank = elim (or_cases (c == 61) (c == 58) separates) [
  | inl q ↦ absurd (false≢true (subst (λ z. is_blank z ≡ true) (eqb-true c 61 q) blank))
  | inr q ↦ absurd (false≢true (subst (λ z. is_blank z ≡ true) (eqb-true c 58 q) blank))
]

past_blanks : {X : Type 0} (before after : Text) (c : ℕ) → is_separator c ≡ true
    → list_all is_blank before ≡ true → after_blanks (before ++ c ∷ after) ≡ [] → X
past_blanks [] after c separates blank none = elim (cases_Bool (is_blank c)) [
  | inl b ↦ separator_no_blank c separates b
  | inr other ↦
      let some : c ∷ after ≡ [] = sym (cond-false (is_blank c) _ _ other) ∙ none in cc
]
past_blanks (d ∷ before) after c separates blank none =
    let parts = and_parts (is_blank d) (list_all is_blank before) blank in
    past_blanks before after c separates parts.1 (sym (cond-true (is_blank d) _ _ parts.0) ∙ none)

pub plain_some : {X : Type 0} {separator : Text} → IsPlainSeparator separator
    → after_blanks separator ≡ [] → X
plain_some p none =
    past_blanks p.before p.after p.separator p.separates p.blank_before (ap after_blanks (sym p.whole) ∙ none)

-- a text begins with a blank where blanks stand at its front
pub blanks_begin : (t : Text) → begins is_blank t ≡ not (is_empty (front_of t (after_blanks t)))
blanks_begin [] = refl
blanks_begin (c ∷ cs) = elim (cases_Bool (is_blank c)) [
  | inl b ↦
      let rest : after_blanks (c ∷ cs) ≡ after_blanks cs = cond-true (is_blank c) _ _ b in
      b ∙ ap not (sym (ap (λ r. is_empty (front_of (c ∷ cs) r)) rest
      ∙ some (front_of (c ∷ cs) (after_blanks cs)) refl))
  | inr other ↦
      let rest : after_blanks (c ∷ cs) ≡ c ∷ cs = cond-false (is_blank c) _ _ other in
      other ∙ ap not (sym (ap is_empty (ap (front_of (c ∷ cs)) rest ∙ front_of_all (c ∷ cs))))
]
  where
    some : (x : Text) → front_of (c ∷ cs) (after_blanks cs) ≡ x → is_empty x ≡ false
    some [] is =
        let whole : after_blanks cs ≡ c ∷ cs =
        ap (λ f. f ++ after_blanks cs) (sym is) ∙ rest_under c cs (after_blanks cs) (after_blanks-rest cs) in
        let shorter = rest_le cs (after_blanks cs) (after_blanks-rest cs) in
        absurd (omega (arith, ap length whole))
    some (d ∷ x) is = refl
