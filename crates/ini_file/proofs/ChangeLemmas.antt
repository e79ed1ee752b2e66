-- The lines of changes and of conflicts, put together part by part.
use Rattle.std.proofs.Common.{◌≡◌, ◌∙◌, ap, refl, sym, ℕ, if◌then◌else◌, List, [], ◌∷◌, ◌++◌, append-nil}
use Rattle.std.proofs.Common.{append_assoc, Option, None, Some}
use Rattle.std.proofs.lemmas.Grind.{flat_map-append}
use Rattle.std.proofs.lemmas.Str.{chars-nil}
use Rattle.std.specs.Prelude.{codes, encode_utf8_all}
use Rattle.std.specs.Str.{chars}
use Rattle.ini_text.specs.Escaping.EscapedTexts.{escape, escaped}
use Rattle.ini_text.specs.Escaping.Policies.{is_escaped}
use Rattle.ini_text.specs.declared.write.policy.EscapePolicy.TheVariants.{Basics}
use Rattle.ini.specs.Texts.{Text}
use Rattle.ini_layers.specs.Differences.{SettingChange}
use Rattle.ini_file.specs.EditLines.{edit_text, in_brackets, signed}
use Rattle.ini_file.specs.ChangeLines.{change_text, conflict_text, escaped_part, front, told}
use Rattle.ini_file.specs.OtherValues.{others_words}

pub chars-open : chars (codes "[") ≡ codes "["
unfolding chars
chars-open = refl

pub chars-close : chars (codes "] ") ≡ codes "] "
unfolding chars
chars-close = refl

pub chars-colon : chars (codes ": ") ≡ codes ": "
unfolding chars
chars-colon = refl

chars-arrow : chars (codes " -> ") ≡ codes " -> "
unfolding chars
chars-arrow = refl

chars-end : chars (codes "\n") ≡ codes "\n"
unfolding chars
chars-end = refl

chars-gone : chars (codes "- ") ≡ codes "- "
unfolding chars
chars-gone = refl

chars-new : chars (codes "+ ") ≡ codes "+ "
unfolding chars
chars-new = refl

pub chars-is : chars (codes " = ") ≡ codes " = "
unfolding chars
chars-is = refl

pub chars-has_none : chars (codes " has none") ≡ codes " has none"
unfolding chars
chars-has_none = refl

chars-tab : chars (codes "\t") ≡ codes "\t"
unfolding chars
chars-tab = refl

chars-close_tab : chars (codes "]\t") ≡ codes "]\t"
unfolding chars
chars-close_tab = refl

chars-minus : chars (codes "-") ≡ codes "-"
unfolding chars
chars-minus = refl

chars-plus : chars (codes "+") ≡ codes "+"
unfolding chars
chars-plus = refl

chars-conflict : chars (codes "conflict: ") ≡ codes "conflict: "
unfolding chars
chars-conflict = refl

chars-base : chars (codes ": base") ≡ codes ": base"
unfolding chars
chars-base = refl

chars-ours : chars (codes ", ours") ≡ codes ", ours"
unfolding chars
chars-ours = refl

chars-theirs : chars (codes ", theirs") ≡ codes ", theirs"
unfolding chars
chars-theirs = refl

chars-program : chars (codes "ini_file: ") ≡ codes "ini_file: "
unfolding chars
chars-program = refl

chars-others : chars others_words ≡ others_words
unfolding chars
chars-others = refl

-- what is told of a value, and what follows it
of-value : (value : Text) (before shown : List ℕ) → chars before ++ escaped_part shown ≡ value
    → (after : List ℕ) → chars after ≡ after → (rest : Text)
    → (escaped_part [] ++ chars before) ++ ((escaped_part shown ++ chars after) ++ rest)
    ≡ value ++ (after ++ rest)
of-value value before shown is after is_after rest =
    rw (← is, chars-nil, is_after) (simp append_assoc refl)

module _ (name : Option Text) (left shown right key : List ℕ)
    (is_front : chars left ++ (escaped_part shown ++ chars right) ≡ front name) where
  pub of-changed : (before old new end : List ℕ) → (escaped_part [] ++ chars before)
      ++ ((escaped_part [] ++ chars left) ++ ((escaped_part shown ++ chars right)
      ++ ((escaped_part key ++ chars (codes ": ")) ++ ((escaped_part old ++ chars (codes " -> "))
      ++ ((escaped_part new ++ chars end) ++ [])))))
      ≡ change_text (chars before) name (chars key) (Some (chars old)) (Some (chars new)) (chars end)
  of-changed before old new end =
      rw (← is_front, chars-nil, chars-colon, chars-arrow) (simp (append_assoc, append-nil) refl)

  pub of-gone : (before old end : List ℕ) → (escaped_part [] ++ chars before)
      ++ ((escaped_part [] ++ chars (codes "- ")) ++ ((escaped_part [] ++ chars left)
      ++ ((escaped_part shown ++ chars right) ++ ((escaped_part key ++ chars (codes ": "))
      ++ ((escaped_part old ++ chars end) ++ [])))))
      ≡ change_text (chars before) name (chars key) (Some (chars old)) None (chars end)
  of-gone before old end =
      rw (← is_front, chars-nil, chars-gone, chars-colon) (simp (append_assoc, append-nil) refl)

  pub of-new : (before new end : List ℕ) → (escaped_part [] ++ chars before)
      ++ ((escaped_part [] ++ chars (codes "+ ")) ++ ((escaped_part [] ++ chars left)
      ++ ((escaped_part shown ++ chars right) ++ ((escaped_part key ++ chars (codes ": "))
      ++ ((escaped_part new ++ chars end) ++ [])))))
      ≡ change_text (chars before) name (chars key) None (Some (chars new)) (chars end)
  of-new before new end =
      rw (← is_front, chars-nil, chars-new, chars-colon) (simp (append_assoc, append-nil) refl)

  abbrev others_parts : Text
  others_parts = (escaped_part [] ++ chars (codes "ini_file: ")) ++ ((escaped_part [] ++ chars left)
      ++ ((escaped_part shown ++ chars right) ++ ((escaped_part key ++ chars others_words) ++ [])))

  of-others : others_parts ≡ codes "ini_file: " ++ (front name ++ (escaped_part key ++ others_words))
  of-others = rw (← is_front, chars-nil, chars-program, chars-others) (simp (append_assoc, append-nil) refl)

  pub others-bytes : (old new : List ℕ) → old ≡ [] → new ≡ old ++ encode_utf8_all others_parts
      → new ≡ encode_utf8_all (codes "ini_file: " ++ (front name ++ (escaped_part key ++ others_words)))
  others-bytes old new empty is =
      is ∙ ap (λ x. x ++ encode_utf8_all others_parts) empty ∙ ap encode_utf8_all of-others

  -- what stands before the values of a conflict
  before-values : (values : Text) → (escaped_part [] ++ chars (codes "conflict: "))
      ++ ((escaped_part [] ++ chars left) ++ ((escaped_part shown ++ chars right)
      ++ ((escaped_part key ++ chars (codes ": base")) ++ values)))
      ≡ codes "conflict: " ++ (front name ++ (escaped_part key ++ (codes ": base" ++ values)))
  before-values values = rw (← is_front, chars-nil, chars-conflict, chars-base) (simp append_assoc refl)

  pub of-conflict : (base ours theirs : Option Text) (of_base b of_ours o of_theirs t : List ℕ)
      → chars of_base ++ escaped_part b ≡ told base → chars of_ours ++ escaped_part o ≡ told ours
      → chars of_theirs ++ escaped_part t ≡ told theirs
      → (escaped_part [] ++ chars (codes "conflict: ")) ++ ((escaped_part [] ++ chars left)
      ++ ((escaped_part shown ++ chars right) ++ ((escaped_part key ++ chars (codes ": base"))
      ++ ((escaped_part [] ++ chars of_base) ++ ((escaped_part b ++ chars (codes ", ours"))
      ++ ((escaped_part [] ++ chars of_ours) ++ ((escaped_part o ++ chars (codes ", theirs"))
      ++ ((escaped_part [] ++ chars of_theirs) ++ ((escaped_part t ++ chars (codes "\n")) ++ [])))))))))
      ≡ conflict_text name (chars key) base ours theirs
  of-conflict base ours theirs of_base b of_ours o of_theirs t is_base is_ours is_theirs =
      let last = of-value (told theirs) of_theirs t is_theirs (codes "\n") chars-end [] in
      let middle = of-value (told ours) of_ours o is_ours (codes ", theirs") chars-theirs _
      ∙ ap (λ rest. told ours ++ (codes ", theirs" ++ rest)) last in
      let values = of-value (told base) of_base b is_base (codes ", ours") chars-ours _
      ∙ ap (λ rest. told base ++ (codes ", ours" ++ rest)) middle in
      before-values _ ∙ ap (λ rest. codes "conflict: " ++ (front name ++ (escaped_part key
      ++ (codes ": base" ++ rest)))) values

-- the parts of an edit
in_brackets-escaped : (name : Text)
    → escaped Basics (in_brackets (Some name)) ++ codes "\t"
    ≡ codes "[" ++ (escaped Basics name ++ codes "]\t")
in_brackets-escaped name =
    ap (λ x. codes "[" ++ (x ++ codes "\t"))
    (flat_map-append (λ c. if is_escaped Basics c then escape c else c ∷ []) name (codes "]"))
    ∙ ap (λ x. codes "[" ++ x) (append_assoc (escaped Basics name) (codes "]") (codes "\t"))

pub of-name : (name : List ℕ) → chars (codes "[") ++ (escaped_part name ++ chars (codes "]\t"))
    ≡ escaped Basics (in_brackets (Some (chars name))) ++ codes "\t"
of-name name = rw (chars-open, chars-close_tab) (sym (in_brackets-escaped (chars name)))

pub of-no_name : chars [] ++ (escaped_part [] ++ chars (codes "\t")) ≡ codes "\t"
of-no_name = rw (chars-nil, chars-tab) refl

pub of-old : (value : List ℕ) → chars (codes "-") ++ escaped_part value
    ≡ escaped Basics (signed 0x2D (Some (chars value)))
of-old value = rw chars-minus refl

pub of-new_value : (value : List ℕ) → chars (codes "+") ++ escaped_part value
    ≡ escaped Basics (signed 0x2B (Some (chars value)))
of-new_value value = rw chars-plus refl

pub of-no_value : chars [] ++ escaped_part [] ≡ []
of-no_value = rw chars-nil refl

pub of-edit : (c : SettingChange) (left shown right key before_old old before_new new : List ℕ)
    → chars left ++ (escaped_part shown ++ chars right) ≡ escaped Basics (in_brackets c.name) ++ codes "\t"
    → chars key ≡ c.key
    → chars before_old ++ escaped_part old ≡ escaped Basics (signed 0x2D c.old)
    → chars before_new ++ escaped_part new ≡ escaped Basics (signed 0x2B c.new)
    → (escaped_part [] ++ chars left) ++ ((escaped_part shown ++ chars right)
    ++ ((escaped_part key ++ chars (codes "\t")) ++ ((escaped_part [] ++ chars before_old)
    ++ ((escaped_part old ++ chars (codes "\t")) ++ ((escaped_part [] ++ chars before_new)
    ++ ((escaped_part new ++ chars (codes "\n")) ++ [])))))) ≡ edit_text c
of-edit c left shown right key before_old old before_new new is_name is_key is_old is_new =
    let last =
    of-value (escaped Basics (signed 0x2B c.new)) before_new new is_new (codes "\n") chars-end [] in
    let values = of-value (escaped Basics (signed 0x2D c.old)) before_old old is_old (codes "\t") chars-tab _
    ∙ ap (λ rest. escaped Basics (signed 0x2D c.old) ++ (codes "\t" ++ rest)) last in
    let keyed : (rest : Text) → (escaped_part key ++ chars (codes "\t")) ++ rest
    ≡ escaped Basics c.key ++ (codes "\t" ++ rest) =
    λ (rest : Text). rw (← is_key, chars-tab) (append_assoc (escaped_part key) (codes "\t") rest) in
    let fronted : (rest : Text)
    → (escaped_part [] ++ chars left) ++ ((escaped_part shown ++ chars right) ++ rest)
    ≡ escaped Basics (in_brackets c.name) ++ (codes "\t" ++ rest) =
    λ (rest : Text). ap (λ x. (x ++ chars left) ++ ((escaped_part shown ++ chars right) ++ rest)) nothing
    ∙ sym (append_assoc (chars left) (escaped_part shown ++ chars right) rest)
    ∙ ap (λ x. x ++ rest) is_name ∙ append_assoc (escaped Basics (in_brackets c.name)) (codes "\t") rest in
    fronted _ ∙ ap (λ rest. escaped Basics (in_brackets c.name) ++ (codes "\t" ++ rest))
    (keyed _ ∙ ap (λ rest. escaped Basics c.key ++ (codes "\t" ++ rest)) values)
  where
    nothing : escaped_part [] ≡ []
    nothing = rw chars-nil refl
