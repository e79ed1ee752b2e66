-- The forms of a value, tried in turn.
use Rattle.std.proofs.Common.{◌≡◌, ◌∙◌, Bool, true, if◌then◌else◌, List, [], ◌∷◌, ◌++◌, Option, None, Some}
use Rattle.std.proofs.Common.{ap, refl, subst}
use Rattle.std.proofs.lemmas.Bool.{both_ways}
use Rattle.std.proofs.lemmas.Str.{chars-nil}
use Rattle.std.specs.Option.{MatchOption, is_some, option_map}
use Rattle.std.specs.Prelude.{◌↔◌, String}
use Rattle.std.specs.Str.{chars}
use Rattle.std.specs.declared.alloc.Global.{Global}
use Rattle.ini_text.specs.Parsing.Items.{string_text}
use Rattle.ini_text.specs.Escaping.EscapedTexts.{escaped}
use Rattle.ini_text.specs.declared.option.ParseOption.{ParseOption}
use Rattle.ini_text.specs.declared.write.policy.EscapePolicy.{EscapePolicy}
use Rattle.ini_text.specs.Grammar.CharacterKinds.{double_quote, single_quote}
use Rattle.ini.specs.Texts.{Text}
use Rattle.ini_edit.specs.Inside.SourceEnds.{IsTried}
use Rattle.ini_edit.specs.Quotes.{written_in}
use Rattle.ini_edit.specs.SourceWritten.{HasForm, IsFirstReadAs, IsReadAs, Style, new_pair, value_forms}
use Rattle.ini_edit.specs.Sources.{PairPiece}
use Rattle.ini_edit.proofs.CharsLemmas.{chars-double}

-- the quotes of the code
chars-single : chars (39 ∷ []) ≡ single_quote ∷ []
unfolding chars
chars-single = refl

-- a value none of whose forms is read
no_form : {o : ParseOption} {policy : EscapePolicy} {value : Text}
    → ¬ IsReadAs o (written_in policy [] value) value
    → ¬ IsReadAs o (written_in policy (double_quote ∷ []) value) value
    → ¬ IsReadAs o (written_in policy (single_quote ∷ []) value) value → HasForm o policy value → ⊥
no_form {o} {policy} {value} bare double single h = at h.is_first
  where
    at : {source : Text} → IsFirstReadAs o value (value_forms policy [] value) source → ⊥
    at (IsFirstReadAs.here is) = bare is
    at (IsFirstReadAs.later _ (IsFirstReadAs.here is)) = bare is
    at (IsFirstReadAs.later _ (IsFirstReadAs.later _ (IsFirstReadAs.here is))) = double is
    at (IsFirstReadAs.later _ (IsFirstReadAs.later _ (IsFirstReadAs.later _ (IsFirstReadAs.here is)))) =
        single is
    at (IsFirstReadAs.later _ (IsFirstReadAs.later _ (IsFirstReadAs.later _ (IsFirstReadAs.later _ none)))) =
        elim none [ ]

module _ (o : ParseOption) (policy : EscapePolicy) (value : Text) where
  -- what was tried in this quote
  abbrev Tried : Text → Option Text → Type 0
  Tried quote form = IsTried o policy quote value form

  form_here : (quote : Text) (form : Option Text) {source : Text} {forms : List Text} → Tried quote form
      → form ≡ Some source → IsFirstReadAs o value (written_in policy quote value ∷ forms) source
  form_here quote form {source} {forms} tried some =
      let is : Tried quote (Some source) = subst (Tried quote) some tried in
      subst (λ form. IsFirstReadAs o value (form ∷ forms) source) is.0 (IsFirstReadAs.here is.1)

  not_here : (quote : Text) (form : Option Text) → Tried quote form → form ≡ None
      → ¬ IsReadAs o (written_in policy quote value) value
  not_here quote form tried none = subst (Tried quote) none tried

  same_quote : {quote other : Text} (form : Option Text) → quote ≡ other → Tried quote form
      → Tried other form
  same_quote form same tried = subst (λ q. Tried q form) same tried

  module _ (quote : Text) (kept : Option Text) (at_kept : Tried quote kept) where
    pub kept_first : {source : Text} → kept ≡ Some source
        → IsFirstReadAs o value (value_forms policy quote value) source
    kept_first some = form_here quote kept at_kept some

    module _ (not_kept : kept ≡ None) (bare : Option Text) (at_bare : Tried (chars []) bare) where
      pub bare_first : {source : Text} → bare ≡ Some source
          → IsFirstReadAs o value (value_forms policy quote value) source
      bare_first some = IsFirstReadAs.later (not_here quote kept at_kept not_kept)
          (form_here [] bare (same_quote bare chars-nil at_bare) some)

      module _ (not_bare : bare ≡ None) (double : Option Text) (at_double : Tried (chars (34 ∷ [])) double)
        where
          pub double_first : {source : Text} → double ≡ Some source
              → IsFirstReadAs o value (value_forms policy quote value) source
          double_first some = IsFirstReadAs.later (not_here quote kept at_kept not_kept)
              (IsFirstReadAs.later (not_here [] bare (same_quote bare chars-nil at_bare) not_bare)
              (form_here (double_quote ∷ []) double (same_quote double chars-double at_double) some))

          -- the last form
          pub single_last : double ≡ None → (form : Option (String Global))
              → Tried (chars (39 ∷ [])) (option_map string_text form)
              → MatchOption form (¬ HasForm o policy value)
              (λ source. IsFirstReadAs o value (value_forms policy quote value) (string_text source))
          single_last not_double None at_single =
              no_form (not_here [] bare (same_quote bare chars-nil at_bare) not_bare)
              (not_here (double_quote ∷ []) double (same_quote double chars-double at_double) not_double)
              (same_quote None chars-single at_single)
          single_last not_double (Some single) at_single =
              IsFirstReadAs.later (not_here quote kept at_kept not_kept)
              (IsFirstReadAs.later (not_here [] bare (same_quote bare chars-nil at_bare) not_bare)
              (IsFirstReadAs.later
              (not_here (double_quote ∷ []) double (same_quote double chars-double at_double) not_double)
              (form_here (single_quote ∷ []) (Some (string_text single))
              (same_quote (Some (string_text single)) chars-single at_single) refl)))

  -- a value is writable where a form was found
  pub form_found : {quote : Text} (form : Option (String Global)) (found : Bool) → quote ≡ []
      → MatchOption form (¬ HasForm o policy value)
      (λ source. IsFirstReadAs o value (value_forms policy quote value) (string_text source))
      → found ≡ is_some form → (found ≡ true) ↔ HasForm o policy value
  form_found None found none first is =
      (λ h. absurd (both_ways found is h), λ h. absurd (first h))
  form_found (Some form) found none first is = (
    λ h. record {
      source = string_text form;
      is_first = subst (λ q. IsFirstReadAs o value (value_forms policy q value) (string_text form)) none
          first;
    },
    λ h. is,
  )

-- a pair of these parts
abbrev piece_of : ParseOption → Style → (indented : Bool)
    → (indent raw_key space key value source lines gap : Text) → PairPiece
piece_of o style indented indent raw_key space key value source lines gap = record {
  stretches = record {
    key = (if indented then indent else []) ++ raw_key;
    separator = Some style.separator;
    space_before = space;
    raw_value = source;
    space_after = [];
    note = [];
    trailing_lines = if o.enabled_indented_mutiline_value then lines else [];
  };
  key = key;
  value = value;
  after = if o.enabled_indented_mutiline_value then gap else lines ++ gap;
}

-- it is the new one
pub made_is : (o : ParseOption) (policy : EscapePolicy) (style : Style) (indented : Bool)
    {key value written_key written_value indent raw_key space : Text} (source lines gap : Text)
    → written_key ≡ key → written_value ≡ value → indent ≡ style.indent
    → raw_key ≡ escaped policy key ++ style.pad → space ≡ style.space_before
    → piece_of o style indented indent raw_key space written_key written_value source lines gap
    ≡ new_pair o policy style indented key value source lines gap
made_is o policy style indented {key} {value} {written_key = written_key} {written_value = written} {indent}
    {raw_key} source lines gap at_key at_value at_indent at_raw at_space =
    let before = style.space_before in
    ap (λ t. piece_of o style indented indent raw_key t written_key written source lines gap) at_space
    ∙ ap (λ t. piece_of o style indented indent raw_key before t written source lines gap) at_key
    ∙ ap (λ t. piece_of o style indented indent raw_key before key t source lines gap) at_value
    ∙ ap (λ t. piece_of o style indented t raw_key before key value source lines gap) at_indent
    ∙ ap (λ t. piece_of o style indented style.indent t before key value source lines gap) at_raw
