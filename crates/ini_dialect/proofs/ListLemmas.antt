-- Lists of values as texts: they are read back.
use Rattle.std.proofs.Common.{◌≡◌, ◌∙◌, ◌==◌, ℕ, Bool, true, false, List, [], ◌∷◌, ◌++◌, flat_map, fold}
use Rattle.std.proofs.Common.{Option, None, Some, ap, append-nil, append_assoc, eqb-true, inl, inr, refl}
use Rattle.std.proofs.Common.{subst, sym}
use Rattle.std.proofs.lemmas.Bool.{cases_Bool}
use Rattle.ini_text.specs.Grammar.CharacterKinds.{backslash, line_feed}
use Rattle.ini.specs.Texts.{Text}
use Rattle.ini_dialect.specs.Lists.{list_text, list_values, listed_character, listed_value, values_from}
use Rattle.ini_dialect.specs.Lists.{with_line}

read-character : (w : Text) (c : ℕ) (rest : Text) → values_from w false (listed_character c ++ rest)
    ≡ values_from (w ++ c ∷ []) false rest
read-character w c rest =
    elim (cases_Bool (c == backslash)) [
      | inl is ↦
          subst (λ d. values_from w false (listed_character d ++ rest) ≡ values_from (w ++ d ∷ []) false rest)
          (sym (eqb-true c backslash is)) refl
      | inr other ↦
          elim (cases_Bool (c == line_feed)) [
            | inl is ↦
                subst (λ d. values_from w false (listed_character d ++ rest)
                ≡ values_from (w ++ d ∷ []) false rest)
                (sym (eqb-true c line_feed is)) refl
            | inr plain ↦
                let itself : listed_character c ≡ c ∷ [] = rw (other, plain) refl in
                let read : values_from w false (c ∷ rest) ≡ values_from (w ++ c ∷ []) false rest =
                rw (other, plain) refl in
                ap (λ l. values_from w false (l ++ rest)) itself ∙ read
          ]
    ]

read-value : (w v rest : Text)
    → values_from w false (listed_value v ++ rest) ≡ values_from (w ++ v) false rest
read-value w [] rest = ap (λ x. values_from x false rest) (sym (append-nil w))
read-value w (c ∷ v) rest =
    ap (values_from w false) (append_assoc (listed_character c) (listed_value v) rest)
    ∙ read-character w c (listed_value v ++ rest)
    ∙ read-value (w ++ c ∷ []) v rest
    ∙ ap (λ x. values_from x false rest) (append_assoc w (c ∷ []) v)

abbrev lines_after : List Text → Text
lines_after vs = flat_map (λ v. line_feed ∷ listed_value v) vs

read-lines : (w : Text) (vs : List Text) → values_from w false (lines_after vs) ≡ w ∷ vs
read-lines w [] = refl
read-lines w (v ∷ vs) = ap (λ l. w ∷ l) (read-value [] v (lines_after vs) ∙ read-lines v vs)

lines-of : (t : Text) (vs : List Text) → fold with_line (Some t) vs ≡ Some (t ++ lines_after vs)
lines-of t [] = ap Some (sym (append-nil t))
lines-of t (v ∷ vs) =
    lines-of (t ++ line_feed ∷ listed_value v) vs
    ∙ ap Some (append_assoc t (line_feed ∷ listed_value v) (lines_after vs))

pub list-back : (vs : List Text) (t : Text) → list_text vs ≡ Some t → list_values t ≡ vs
list-back [] t is = absurd (let no : None ≡ Some t = is in cc)
list-back (v ∷ vs) t is =
    let whole : Some (listed_value v ++ lines_after vs) ≡ Some t = sym (lines-of (listed_value v) vs) ∙ is in
    let e : listed_value v ++ lines_after vs ≡ t = cc in
    ap list_values (sym e) ∙ read-value [] v (lines_after vs) ∙ read-lines v vs

pub lists-equal : (vs ws : List Text) → list_text vs ≡ list_text ws → vs ≡ ws
lists-equal [] [] same = refl
lists-equal [] (w ∷ ws) same =
    absurd (let no : None ≡ Some (listed_value w ++ lines_after ws) =
    same ∙ lines-of (listed_value w) ws in cc)
lists-equal (v ∷ vs) ws same =
    let t = listed_value v ++ lines_after vs in
    let is : list_text (v ∷ vs) ≡ Some t = lines-of (listed_value v) vs in
    sym (list-back (v ∷ vs) t is) ∙ list-back ws t (sym same ∙ is)

-- a value more was read, at the end of its line
pub line-read : (vs : List Text) (v rest after : Text) (c : ℕ) (b : Bool) → b ≡ false → rest ≡ c ∷ after
    → c ≡ line_feed → (vs ++ v ∷ []) ++ values_from [] false after ≡ vs ++ values_from v b rest
line-read vs v rest after c b apart is end =
    append_assoc vs (v ∷ []) (values_from [] false after)
    ∙ ap (λ x. vs ++ values_from v x (line_feed ∷ after)) (sym apart)
    ∙ ap (λ t. vs ++ values_from v b t) (ap (λ x. x ∷ after) (sym end) ∙ sym is)
