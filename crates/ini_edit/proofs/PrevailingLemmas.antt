-- Steps of the walks that look for the separator that prevails.
use Rattle.std.proofs.Common.{◌≡◌, ◌∙◌, ◌<◌, ◌≤◌, ◌+◌, ◌==◌, ℕ, true, false, List, [], ◌∷◌, ◌++◌, Some}
use Rattle.std.proofs.Common.{ap, ap₂, append-nil, append_assoc, drop, flat_map, get_or, length, sym}
use Rattle.std.proofs.lemmas.List.{drop_all}
use Rattle.std.specs.List.{best_of}
use Rattle.ini_text.specs.Grammar.CharacterKinds.{equals}
use Rattle.ini.specs.Texts.{Text}
use Rattle.ini_edit.specs.Prevailing.{blank_if, form_style, form_with, other_forms, prevailing, prevails}
use Rattle.ini_edit.specs.SourceWritten.{Style}
use Rattle.ini_edit.specs.declared.source.layout.prevailing.Form.{Form}
use Rattle.ini_edit.proofs.LayoutLemmas.{here}

module _ {A B : Type 0} (shown : A → List B) (xs : List A) where
  -- what the items of a list show, of which one more is appended
  pub shown_step : (i : ℕ) (x : A) (out : List B) {next whole : List B} → i < length xs → x ≡ get_or xs i x
      → out ++ flat_map shown (drop i xs) ≡ whole → next ≡ out ++ shown x
      → next ++ flat_map shown (drop (i + 1) xs) ≡ whole
  shown_step i x out within is so_far next_is =
      ap (λ t. t ++ flat_map shown (drop (i + 1) xs)) next_is
      ∙ append_assoc out (shown x) (flat_map shown (drop (i + 1) xs))
      ∙ ap (λ l. out ++ flat_map shown l) (sym (here xs i x within is)) ∙ so_far

  pub shown_end : (i : ℕ) (out : List B) {whole : List B} → length xs ≤ i
      → out ++ flat_map shown (drop i xs) ≡ whole → out ≡ whole
  shown_end i out all so_far =
      sym (append-nil out) ∙ sym (ap (λ l. out ++ flat_map shown l) (drop_all i xs all)) ∙ so_far

-- the form that prevails, where there is one
pub prevailing_is : (forms : List Form) {first best : Form} {others : List Form}
    → (length forms == 0) ≡ false → first ≡ form_with equals false false → others ≡ other_forms
    → best ≡ best_of (prevails forms) first others → Some best ≡ prevailing forms
prevailing_is [] some f o b = absurd (let no : true ≡ false = some in cc)
prevailing_is (x ∷ xs) some f o b = ap Some (b ∙ ap₂ (best_of (prevails (x ∷ xs))) f o)

-- a form's style, part by part
pub form_style_is : (f : Form) {indent pad space_before : Text} → indent ≡ [] → pad ≡ blank_if f.padded
    → space_before ≡ blank_if f.spaced
    → ◌≡◌ {A = Style} (record {
      indent = indent;
      pad = pad;
      separator = f.separator;
      space_before = space_before;
    }) (form_style f)
form_style_is f i p b = cc
