-- How lines end: the empty line before a new section.
use Rattle.std.proofs.Common.{◌≡◌, ◌≢◌, ◌∙◌, ◌↔◌, ℕ, Bool, true, false, [], ◌∷◌, ◌++◌, ap, sym, subst, refl}
use Rattle.std.proofs.Common.{append_assoc, inl, inr}
use Rattle.std.specs.Prelude.{◌⊎◌}
use Rattle.std.proofs.lemmas.Bool.{false≢true}
use Rattle.std.proofs.lemmas.List.{append_cancel_right}
use Rattle.ini_text.specs.Grammar.CharacterKinds.{carriage_return, line_feed, is_line_feed}
use Rattle.ini_text.specs.Grammar.Positions.{is_column_one, last_or}
use Rattle.ini_text.proofs.LawLemmas.MovedLemmas.{last_or-after}
use Rattle.ini.specs.Texts.{Text}
use Rattle.ini_edit.specs.NewSections.{EndsEmpty}

-- a text has one last character
pub last_one : (V W : Text) (c d : ℕ) → V ++ c ∷ [] ≡ W ++ d ∷ [] → (V ≡ W) × (c ≡ d)
last_one V W c d is =
    let same : c ≡ d = sym (last_or-after c c V []) ∙ ap (last_or c) is ∙ last_or-after c d W [] in
    (append_cancel_right V W (c ∷ []) (is ∙ ap (λ z. W ++ z ∷ []) (sym same)), same)

pub some_last : (V : Text) (c : ℕ) → V ++ c ∷ [] ≢ []
some_last [] c is = cc
some_last (d ∷ V) c is = cc

-- what stands before the LF of an empty line
before_feed : {T : Text} → EndsEmpty T → (line : Text) → T ≡ line ++ line_feed ∷ []
    → (is_column_one line ≡ true)
    ⊎ ((V : Text) × ((line ≡ V ++ carriage_return ∷ []) × (is_column_one V ≡ true)))
before_feed EndsEmpty.nothing line is = absurd (some_last line line_feed (sym is))
before_feed (EndsEmpty.by_lf V one) line is =
    inl (ap is_column_one (sym (last_one V line line_feed line_feed is).0) ∙ one)
before_feed (EndsEmpty.by_cr_lf V one) line is =
    let whole = append_assoc V (carriage_return ∷ []) (line_feed ∷ []) ∙ is in
    inr (V, (sym (last_one (V ++ carriage_return ∷ []) line line_feed line_feed whole).0, one))

no_column : (l : Text) → is_column_one (l ++ carriage_return ∷ []) ≡ false
no_column l = ap is_line_feed (last_or-after line_feed carriage_return l [])

module _ {T line : Text} (is : T ≡ line ++ line_feed ∷ []) where
  -- whether an empty line stands last, which ends with CR LF
  pub empty_by_cr_lf : (l : Text) (found : Bool) → line ≡ l ++ carriage_return ∷ [] → found ≡ is_column_one l
      → (found ≡ true) ↔ EndsEmpty T
  empty_by_cr_lf l found cr same = (to, from)
    where
      to : found ≡ true → EndsEmpty T
      to h =
          subst EndsEmpty (sym (append_assoc l (carriage_return ∷ []) (line_feed ∷ []))
          ∙ ap (λ z. z ++ line_feed ∷ []) (sym cr) ∙ sym is) (EndsEmpty.by_cr_lf l (sym same ∙ h))

      from : EndsEmpty T → found ≡ true
      from empty = elim (before_feed empty line is) [
        | inl one ↦ absurd (false≢true (sym (ap is_column_one cr ∙ no_column l) ∙ one))
        | inr (V, (other, one)) ↦
            same ∙ ap is_column_one (last_one l V carriage_return carriage_return (sym cr ∙ other)).0 ∙ one
      ]

  -- or with LF
  pub empty_by_lf : (found : Bool) → ((V : Text) → line ≢ V ++ carriage_return ∷ [])
      → found ≡ is_column_one line
      → (found ≡ true) ↔ EndsEmpty T
  empty_by_lf found no_cr same = (to, from)
    where
      to : found ≡ true → EndsEmpty T
      to h = subst EndsEmpty (sym is) (EndsEmpty.by_lf line (sym same ∙ h))

      from : EndsEmpty T → found ≡ true
      from empty = elim (before_feed empty line is) [
        | inl one ↦ same ∙ one
        | inr (V, (other, one)) ↦ absurd (no_cr V other)
      ]

-- no empty line stands last where no LF does
pub empty_by_none : {T : Text} (found : Bool) → ((V : Text) → T ≢ V ++ line_feed ∷ [])
    → (found ≡ true) ↔ (T ≡ [])
    → (found ≡ true) ↔ EndsEmpty T
empty_by_none {T} found no_lf is_none =
    (λ h. subst EndsEmpty (sym (is_none.0 h)) EndsEmpty.nothing, λ empty. is_none.1 (none empty no_lf))
  where
    none : {T : Text} → EndsEmpty T → ((V : Text) → T ≢ V ++ line_feed ∷ []) → T ≡ []
    none EndsEmpty.nothing no_lf = refl
    none (EndsEmpty.by_lf V one) no_lf = absurd (no_lf V refl)
    none (EndsEmpty.by_cr_lf V one) no_lf =
        absurd (no_lf (V ++ carriage_return ∷ [])
        (sym (append_assoc V (carriage_return ∷ []) (line_feed ∷ []))))
