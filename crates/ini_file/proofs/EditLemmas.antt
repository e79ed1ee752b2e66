-- Characters, fields and changes, each read from what is written of it alone.
use Rattle.std.proofs.Common.{◌≡◌, ℕ, ◌+◌, ◌-◌, ◌/◌, ◌%◌, ◌≤◌, ◌<◌, Bool, true, false, ◌||◌, ◌&&◌}
use Rattle.std.proofs.Common.{if◌then◌else◌, eqb, ltb, [], ◌∷◌, ◌++◌, refl, sym, ap, subst, ◌∙◌}
use Rattle.std.proofs.Common.{append_assoc, arith, Option, Some, None, inl, inr, ◌⊎◌}
use Rattle.std.proofs.lemmas.Bool.{cond_both, cond-true, cond-false, eqb-true, ltb-true, ltb-false, or_cases}
use Rattle.std.proofs.lemmas.Bool.{and_parts, lt-ltb}
use Rattle.std.proofs.lemmas.Bool.Decides.{nat_tests}
use Rattle.std.proofs.lemmas.List.{flat_map_more}
use Rattle.std.proofs.lemmas.Option.{option_and_then_some}
use Rattle.std.specs.Char.{digit_char}
use Rattle.std.specs.Option.{option_map}
use Rattle.ini_text.specs.declared.write.policy.EscapePolicy.TheVariants.{Basics}
use Rattle.ini_text.specs.Grammar.CharacterKinds.{backslash, letter_x}
use Rattle.ini_text.specs.Escaping.EscapedTexts.{digit_count, escape, escape_by, escaped, hex_digits}
use Rattle.ini_text.specs.Escaping.EscapedTexts.{letter_of}
use Rattle.ini_text.specs.Escaping.Policies.{is_basic, is_escaped, is_reserved}
use Rattle.ini.specs.Texts.{Text}
use Rattle.ini_file.specs.EditLines.{field_before}
use Rattle.ini_file.specs.Inside.EditReading.{IsEnd, RefusesField, character_at, coded_at, escape_at}
use Rattle.ini_file.specs.Inside.EditReading.{is_numbered, low_digit, named, numbered, spelled_low}
use Rattle.ini_file.specs.declared.edit_reading.Stop.TheVariants.{Other}

-- what is written for a character
abbrev pub unit : ℕ → Text
unit c = if is_escaped Basics c then escape c else c ∷ []

low_digit-char : (d : ℕ) → d < 16 → low_digit (digit_char d) ≡ Some d
low_digit-char d h = grind (arith, nat_tests)

char-low_digit : (c n : ℕ) → low_digit c ≡ Some n → digit_char n ≡ c
char-low_digit c n h = grind (arith, nat_tests)

low_digit-small : (c n : ℕ) → low_digit c ≡ Some n → n < 16
low_digit-small c n h = grind (arith, nat_tests)

-- the characters that are written as their numbers
pub record IsNumbered (v : ℕ) : Type 0 where
  pub is_some : 1 ≤ v
  pub is_low : v < 0x20
  pub is_between : v < 7 ⊎ 0x0D < v

numbered-is : (v : ℕ) → is_numbered v ≡ true → IsNumbered v
numbered-is v h = record {
  is_some = grind (arith, nat_tests);
  is_low = grind (arith, nat_tests);
  is_between = grind (arith, nat_tests);
}

other : (v k : ℕ) → (v ≡ k → ⊥) → eqb v k ≡ false
other v k ne = grind (arith, nat_tests)

numbered-basic : (v : ℕ) → v < 0x20 → is_basic v ≡ true
numbered-basic v h = grind (arith, nat_tests)

numbered-plain : (v : ℕ) → v < 0x20 → (eqb v backslash || is_reserved v) ≡ false
numbered-plain v h = grind (arith, nat_tests)

numbered-letter : (v : ℕ) → IsNumbered v → letter_of v ≡ None
numbered-letter v n =
    let low = n.is_low in
    let some = n.is_some in
    let between = n.is_between in
    let P : Option ℕ → Type 0 = λ l. l ≡ None in
    let never : (k : ℕ) (w : Option ℕ) → (v ≡ k → ⊥) → eqb v k ≡ true → P w =
    λ k w ne h. absurd (ne (eqb-true v k h)) in
    cond_both (eqb v backslash || is_reserved v) _ _ P
    (λ h. absurd (differ (eqb v backslash || is_reserved v) h (numbered-plain v low))) (λ _.
    cond_both (eqb v 0x00) _ _ P (never 0x00 _ (λ e. omega arith)) (λ _.
    cond_both (eqb v 0x07) _ _ P (never 0x07 _ (λ e. omega arith)) (λ _.
    cond_both (eqb v 0x08) _ _ P (never 0x08 _ (λ e. omega arith)) (λ _.
    cond_both (eqb v 0x09) _ _ P (never 0x09 _ (λ e. omega arith)) (λ _.
    cond_both (eqb v 0x0A) _ _ P (never 0x0A _ (λ e. omega arith)) (λ _.
    cond_both (eqb v 0x0B) _ _ P (never 0x0B _ (λ e. omega arith)) (λ _.
    cond_both (eqb v 0x0C) _ _ P (never 0x0C _ (λ e. omega arith)) (λ _.
    cond_both (eqb v 0x0D) _ _ P (never 0x0D _ (λ e. omega arith)) (λ _. refl)))))))))
  where
    differ : (b : Bool) → b ≡ true → b ≡ false → ⊥
    differ b y n = cc

-- what is written as a number
abbrev four : ℕ → Text
four v = digit_char (v / 0x1000 % 16) ∷ digit_char (v / 0x100 % 16) ∷ digit_char (v / 0x10 % 16)
    ∷ digit_char (v / 1 % 16) ∷ []

abbrev numbered_unit : ℕ → ℕ → Text
numbered_unit q m = backslash ∷ letter_x ∷ 0x30 ∷ 0x30 ∷ digit_char q ∷ digit_char m ∷ []

four-low : (v a b q m : ℕ) → a ≡ 0 → b ≡ 0
    → (backslash ∷ letter_x ∷ digit_char a ∷ digit_char b ∷ digit_char q ∷ digit_char m ∷ [])
    ≡ numbered_unit q m
four-low v a b q m e f = rw (e, f) refl

unit-numbered : (v : ℕ) → IsNumbered v → unit v ≡ numbered_unit (v / 0x10 % 16) (v / 1 % 16)
unfolding escape
unit-numbered v n =
    let low = n.is_low in
    let count : digit_count v ≡ 4 = cond-true (ltb v 0x1_0000) _ _ (lt-ltb v 0x1_0000 (omega arith)) in
    let letter : letter_of v ≡ None = numbered-letter v n in
    let as_escape : escape v ≡ backslash ∷ letter_x ∷ four v =
    ap (λ l. escape_by l v) letter ∙ ap (λ k. backslash ∷ letter_x ∷ hex_digits k v) count in
    let digits : backslash ∷ letter_x ∷ four v ≡ numbered_unit (v / 0x10 % 16) (v / 1 % 16) =
    four-low v (v / 0x1000 % 16) (v / 0x100 % 16) (v / 0x10 % 16) (v / 1 % 16) (omega arith) (omega arith) in
    cond-true (is_basic v) _ _ (numbered-basic v low) ∙ as_escape ∙ digits

unit-delete : unit 0x7F ≡ backslash ∷ letter_x ∷ 0x30 ∷ 0x30 ∷ 0x37 ∷ 0x66 ∷ []
unfolding escape
unit-delete = refl

-- a character is read from what is written for it
numbered-some : (v : ℕ) → is_numbered v ≡ true → numbered v ≡ Some v
numbered-some v h = cond-true (is_numbered v) _ _ h

spelled-zero : (v m : ℕ) → m ≡ v → m < 16 → is_numbered v ≡ true → spelled_low 0x30 (digit_char m) ≡ Some v
spelled-zero v m e h n = rw (low_digit-char m h) (rw e (numbered-some v n))

spelled-one : (v m : ℕ) → 0x10 + m ≡ v → m < 16 → is_numbered v ≡ true
    → spelled_low 0x31 (digit_char m) ≡ Some v
spelled-one v m e h n = rw (low_digit-char m h) (rw e (numbered-some v n))

-- a character, and what follows it
abbrev At : ℕ → Text → Option (ℕ × Text)
At c t = Some (c, t)

-- it is read, before whatever follows
abbrev IsRead : ℕ → Text → Type 0
IsRead c written = (t : Text) → character_at (written ++ t) ≡ At c t

coded-read : (v c d : ℕ) → spelled_low c d ≡ Some v
    → IsRead v (backslash ∷ letter_x ∷ 0x30 ∷ 0x30 ∷ c ∷ d ∷ [])
coded-read v c d e t = ap (λ o. option_map {U = ℕ × Text} (λ v. (v, t)) o) e

abbrev Halves : ℕ → Type 0
Halves v = ((v / 0x10 % 16 ≡ 0) × (v / 1 % 16 ≡ v)) ⊎ ((v / 0x10 % 16 ≡ 1) × (0x10 + v / 1 % 16 ≡ v))

halves-by : (v : ℕ) (b : Bool) → ltb v 16 ≡ b → v < 0x20 → Halves v
halves-by v true e h = let low : v < 16 = ltb-true v 16 e in inl (omega arith, omega arith)
halves-by v false e h = let high : 16 ≤ v = ltb-false v 16 e in inr (omega arith, omega arith)

halves : (v : ℕ) → v < 0x20 → Halves v
halves v h = halves-by v (ltb v 16) refl h

numbered-read : (v : ℕ) → is_numbered v ≡ true → IsRead v (unit v)
numbered-read v h t =
    let n = numbered-is v h in
    let low = n.is_low in
    let P : ℕ → Type 0 = λ q. IsRead v (numbered_unit q (v / 1 % 16)) in
    let at : P (v / 0x10 % 16) = elim (halves v low) [
      | inl e ↦ subst P (sym e.0) (coded-read v 0x30 (digit_char (v / 1 % 16))
          (spelled-zero v (v / 1 % 16) e.1 (omega arith) h))
      | inr e ↦ subst P (sym e.0) (coded-read v 0x31 (digit_char (v / 1 % 16))
          (spelled-one v (v / 1 % 16) e.1 (omega arith) h))
    ] in
    subst (λ w. IsRead v w) (sym (unit-numbered v n)) at t

at-value : (v c : ℕ) → IsRead v (unit v) → eqb c v ≡ true → IsRead c (unit c)
at-value v c read same = subst (λ x. IsRead x (unit x)) (sym (eqb-true c v same)) read

abbrev is_letter : ℕ → Bool
is_letter c = eqb c 0x5C || (eqb c 0x00 || (eqb c 0x07 || (eqb c 0x08 || (eqb c 0x09 || (eqb c 0x0A
    || (eqb c 0x0B || (eqb c 0x0C || (eqb c 0x0D || eqb c 0x7F))))))))

numbered-left : (c : ℕ) → is_basic c ≡ true → is_letter c ≡ false → is_numbered c ≡ true
numbered-left c b l = grind (arith, nat_tests)

letter-read : (c : ℕ) → is_letter c ≡ true → IsRead c (unit c)
unfolding escape
letter-read c h =
    elim (or_cases (eqb c 0x5C) _ h) [
      | inl e ↦ at-value 0x5C c (λ t. refl) e
      | inr h ↦
          elim (or_cases (eqb c 0x00) _ h) [
            | inl e ↦ at-value 0x00 c (λ t. refl) e
            | inr h ↦
                elim (or_cases (eqb c 0x07) _ h) [
                  | inl e ↦ at-value 0x07 c (λ t. refl) e
                  | inr h ↦
                      elim (or_cases (eqb c 0x08) _ h) [
                        | inl e ↦ at-value 0x08 c (λ t. refl) e
                        | inr h ↦
                            elim (or_cases (eqb c 0x09) _ h) [
                              | inl e ↦ at-value 0x09 c (λ t. refl) e
                              | inr h ↦
                                  elim (or_cases (eqb c 0x0A) _ h) [
                                    | inl e ↦ at-value 0x0A c (λ t. refl) e
                                    | inr h ↦
                                        elim (or_cases (eqb c 0x0B) _ h) [
                                          | inl e ↦ at-value 0x0B c (λ t. refl) e
                                          | inr h ↦
                                              elim (or_cases (eqb c 0x0C) _ h) [
                                                | inl e ↦ at-value 0x0C c (λ t. refl) e
                                                | inr h ↦
                                                    elim (or_cases (eqb c 0x0D) _ h) [
                                                      | inl e ↦ at-value 0x0D c (λ t. refl) e
                                                      | inr h ↦
                                                          at-value 0x7F c (λ t. refl) h
                                                    ]
                                              ]
                                        ]
                                  ]
                            ]
                      ]
                ]
          ]
    ]

unescaped-read : (c : ℕ) → is_basic c ≡ false → IsRead c (unit c)
unescaped-read c f t =
    let no : eqb c backslash ≡ false = other c backslash (λ e. basic-backslash c f e) in
    subst (λ u. character_at (u ++ t) ≡ At c t) (sym (cond-false (is_basic c) (escape c) (c ∷ []) f))
    (cond-false (eqb c backslash) _ _ no ∙ cond-false (is_basic c) _ _ f)
  where
    basic-backslash : (c : ℕ) → is_basic c ≡ false → c ≡ backslash → ⊥
    basic-backslash c f e = grind (arith, nat_tests)

pub unit-read : (c : ℕ) → IsRead c (unit c)
unit-read c = cond_both (is_basic c) true false (λ _. IsRead c (unit c))
    (λ b. cond_both (is_letter c) true false (λ _. IsRead c (unit c)) (letter-read c)
    (λ l. numbered-read c (numbered-left c b l)))
    (unescaped-read c)

-- what is read of a text is what is written for the character
pub none-some : {A : Type 0} (x : A) → None ≡ Some x → ⊥
none-some x h = cc

named-as : (l v k w : ℕ) → unit w ≡ backslash ∷ k ∷ [] → eqb l k ≡ true → Some w ≡ Some v
    → unit v ≡ backslash ∷ l ∷ []
named-as l v k w written same h =
    let value : w ≡ v = cc in
    let letter : l ≡ k = eqb-true l k same in
    subst (λ x. unit x ≡ backslash ∷ l ∷ []) value
    (subst (λ x. unit w ≡ backslash ∷ x ∷ []) (sym letter) written)

named-written : (l v : ℕ) → named l ≡ Some v → unit v ≡ backslash ∷ l ∷ []
unfolding escape
named-written l v =
    let P : Option ℕ → Type 0 = λ o. o ≡ Some v → unit v ≡ backslash ∷ l ∷ [] in
    cond_both (eqb l 0x5C) _ _ P (named-as l v 0x5C 0x5C refl) (λ _.
    cond_both (eqb l 0x30) _ _ P (named-as l v 0x30 0x00 refl) (λ _.
    cond_both (eqb l 0x61) _ _ P (named-as l v 0x61 0x07 refl) (λ _.
    cond_both (eqb l 0x62) _ _ P (named-as l v 0x62 0x08 refl) (λ _.
    cond_both (eqb l 0x74) _ _ P (named-as l v 0x74 0x09 refl) (λ _.
    cond_both (eqb l 0x6E) _ _ P (named-as l v 0x6E 0x0A refl) (λ _.
    cond_both (eqb l 0x76) _ _ P (named-as l v 0x76 0x0B refl) (λ _.
    cond_both (eqb l 0x66) _ _ P (named-as l v 0x66 0x0C refl) (λ _.
    cond_both (eqb l 0x72) _ _ P (named-as l v 0x72 0x0D refl) (λ _ h. absurd (none-some v h))))))))))

numbered-written : (v n : ℕ) → numbered n ≡ Some v → (n ≡ v) × (is_numbered n ≡ true)
numbered-written v n =
    cond_both (is_numbered n) (Some n) None (λ o. o ≡ Some v → (n ≡ v) × (is_numbered n ≡ true))
    (λ t h. let e : n ≡ v = cc in (e, t)) (λ _ h. absurd (none-some v h))

-- what is written for the number of two digits
digits-written : (n q m d : ℕ) (c : ℕ) → is_numbered n ≡ true → n / 0x10 % 16 ≡ q → n / 1 % 16 ≡ m
    → digit_char q ≡ c → digit_char m ≡ d → unit n ≡ backslash ∷ letter_x ∷ 0x30 ∷ 0x30 ∷ c ∷ d ∷ []
digits-written n q m d c h e f g k =
    unit-numbered n (numbered-is n h) ∙ rw (e, f, g, k) refl

spelled-written : (c d v : ℕ) → spelled_low c d ≡ Some v
    → unit v ≡ backslash ∷ letter_x ∷ 0x30 ∷ 0x30 ∷ c ∷ d ∷ []
spelled-written c d v =
    let G : Type 0 = unit v ≡ backslash ∷ letter_x ∷ 0x30 ∷ 0x30 ∷ c ∷ d ∷ [] in
    let P : Option ℕ → Type 0 = λ o. o ≡ Some v → G in
    cond_both (eqb c 0x30) _ _ P
    (λ same h. option_and_then_some numbered (low_digit d) v h (λ n is some.
    let p = numbered-written v n some in
    let small = low_digit-small d n is in
    let first : digit_char 0 ≡ c = sym (eqb-true c 0x30 same) in
    subst (λ x. unit x ≡ backslash ∷ letter_x ∷ 0x30 ∷ 0x30 ∷ c ∷ d ∷ []) p.0
    (digits-written n 0 n d c p.1 (omega arith) (omega arith) first (char-low_digit d n is)))) (λ _.
    cond_both (eqb c 0x31) _ _ P
    (λ same h. option_and_then_some (λ x. numbered (0x10 + x)) (low_digit d) v h (λ n is some.
    let p = numbered-written v (0x10 + n) some in
    let small = low_digit-small d n is in
    let first : digit_char 1 ≡ c = sym (eqb-true c 0x31 same) in
    subst (λ x. unit x ≡ backslash ∷ letter_x ∷ 0x30 ∷ 0x30 ∷ c ∷ d ∷ []) p.0
    (digits-written (0x10 + n) 1 n d c p.1 (omega arith) (omega arith) first (char-low_digit d n is)))) (λ _.
    cond_both (eqb c 0x37 && eqb d 0x66) _ _ P
    (λ same h.
    let parts = and_parts (eqb c 0x37) (eqb d 0x66) same in
    let value : 0x7F ≡ v = cc in
    subst (λ x. unit x ≡ backslash ∷ letter_x ∷ 0x30 ∷ 0x30 ∷ c ∷ d ∷ []) value
    (rw (eqb-true c 0x37 parts.0, eqb-true d 0x66 parts.1) unit-delete))
    (λ _ h. absurd (none-some v h))))

-- the text is what is written for the character, and what follows it
abbrev IsWritten : Text → ℕ → Text → Type 0
IsWritten T c t = T ≡ unit c ++ t

abbrev first_at : Option (ℕ × Text) → ℕ
first_at None = 0
first_at (Some p) = p.0

abbrev second_at : Option (ℕ × Text) → Text
second_at None = []
second_at (Some p) = p.1

at-parts : (c d : ℕ) (t u : Text) → At c t ≡ At d u → (c ≡ d) × (t ≡ u)
at-parts c d t u e = (ap first_at e, ap second_at e)

mapped-some : (t u : Text) (o : Option ℕ) (c : ℕ) → option_map {U = ℕ × Text} (λ v. (v, t)) o ≡ At c u
    → (o ≡ Some c) × (t ≡ u)
mapped-some t u None c h = absurd (none-some (c, u) h)
mapped-some t u (Some v) c h =
    let p = at-parts v c t u h in
    (ap Some p.0, p.1)

coded-written : (T : Text) (c : ℕ) (t : Text) → coded_at T ≡ At c t
    → IsWritten (backslash ∷ letter_x ∷ T) c t
coded-written [] c t h = absurd (none-some (c, t) h)
coded-written (a ∷ []) c t h = absurd (none-some (c, t) h)
coded-written (a ∷ b ∷ []) c t h = absurd (none-some (c, t) h)
coded-written (a ∷ b ∷ d ∷ []) c t h = absurd (none-some (c, t) h)
coded-written (a ∷ b ∷ d ∷ e ∷ T) c t h =
    let Q : Option (ℕ × Text) → Type 0 =
    λ o. o ≡ At c t → IsWritten (backslash ∷ letter_x ∷ a ∷ b ∷ d ∷ e ∷ T) c t in
    cond_both (eqb a 0x30 && eqb b 0x30) _ _ Q
    (λ zeros k.
    let z = and_parts (eqb a 0x30) (eqb b 0x30) zeros in
    let m = mapped-some T t (spelled_low d e) c k in
    rw (eqb-true a 0x30 z.0, eqb-true b 0x30 z.1, spelled-written d e c m.0, m.1) refl)
    (λ _ k. absurd (none-some (c, t) k)) h

escape-written : (T : Text) (c : ℕ) (t : Text) → escape_at T ≡ At c t → IsWritten (backslash ∷ T) c t
escape-written [] c t h = absurd (none-some (c, t) h)
escape-written (l ∷ T) c t h =
    cond_both (eqb l letter_x) _ _ (λ o. o ≡ At c t → IsWritten (backslash ∷ l ∷ T) c t)
    (λ same k. rw (eqb-true l letter_x same) (coded-written T c t k))
    (λ _ k. let m = mapped-some T t (named l) c k in rw (named-written l c m.0, m.1) refl) h

raw-written : (b : ℕ) (T : Text) (c : ℕ) (t : Text) → is_basic b ≡ false → At b T ≡ At c t
    → IsWritten (b ∷ T) c t
raw-written b T c t f h =
    let p = at-parts b c T t h in
    let one : unit b ≡ b ∷ [] = cond-false (is_basic b) (escape b) (b ∷ []) f in
    subst (λ x. b ∷ T ≡ unit x ++ t) p.0 (ap (λ x. b ∷ x) p.1 ∙ ap (λ w. w ++ t) (sym one))

pub unit-written : (T : Text) (c : ℕ) (t : Text) → character_at T ≡ At c t → IsWritten T c t
unit-written [] c t h = absurd (none-some (c, t) h)
unit-written (b ∷ T) c t h =
    let Q : Option (ℕ × Text) → Type 0 = λ o. o ≡ At c t → IsWritten (b ∷ T) c t in
    cond_both (eqb b backslash) _ _ Q
    (λ same k. rw (eqb-true b backslash same) (escape-written T c t k)) (λ _.
    cond_both (is_basic b) _ _ Q (λ _ k. absurd (none-some (c, t) k)) (λ f. raw-written b T c t f)) h

-- no character is read where an end stands
end-none : (end : ℕ) (t : Text) → IsEnd end → character_at (end ∷ t) ≡ None
end-none end t e = cond-false (eqb end backslash) _ _ e.1 ∙ cond-true (is_basic end) _ _ e.0

pub unit-one : (c : ℕ) (t u : Text) → unit c ++ t ≡ u → character_at u ≡ At c t
unit-one c t u e = subst (λ x. character_at x ≡ At c t) e (unit-read c t)

read-one : (c d : ℕ) (t u : Text) → unit c ++ t ≡ unit d ++ u → (c ≡ d) × (t ≡ u)
read-one c d t u e =
    let same : At c t ≡ At d u = sym (unit-read c t) ∙ ap character_at e ∙ unit-read d u in
    at-parts c d t u same

-- Where no character can be read after a text, what stands there is the end of the field that stands there.
pub field-stuck : (a b : Text) (end : ℕ) (rest following : Text) → IsEnd end → character_at rest ≡ None
    → escaped Basics a ++ rest ≡ field_before b end following → (a ≡ b) × (rest ≡ end ∷ following)
field-stuck [] [] end rest following is none e = (refl, e)
field-stuck [] (d ∷ b) end rest following is none e =
    let read = unit-one d (field_before b end following) rest
    (sym (append_assoc (unit d) (escaped Basics b) (end ∷ following)) ∙ sym e) in
    absurd (none-some (d, field_before b end following) (sym none ∙ read))
field-stuck (c ∷ a) [] end rest following is none e =
    let read = unit-one c (escaped Basics a ++ rest) (end ∷ following)
    (sym (append_assoc (unit c) (escaped Basics a) rest) ∙ e) in
    absurd (none-some (c, escaped Basics a ++ rest) (sym (end-none end following is) ∙ read))
field-stuck (c ∷ a) (d ∷ b) end rest following is none e =
    let p = read-one c d (escaped Basics a ++ rest) (field_before b end following)
    (sym (append_assoc (unit c) (escaped Basics a) rest) ∙ e
    ∙ append_assoc (unit d) (escaped Basics b) (end ∷ following)) in
    let more = field-stuck a b end rest following is none p.1 in
    (ap (λ x. x ∷ a) p.0 ∙ ap (λ x. d ∷ x) more.0, more.1)

pub cons-tail : (x : ℕ) (t u : Text) → x ∷ t ≡ x ∷ u → t ≡ u
cons-tail x t u e = cc

-- a field is read one way
pub field-one : (a b : Text) (end : ℕ) (t u : Text) → IsEnd end
    → field_before a end t ≡ field_before b end u → (a ≡ b) × (t ≡ u)
field-one a b end t u is e =
    let p = field-stuck a b end (end ∷ t) u is (end-none end t is) e in
    (p.0, cons-tail end t u p.1)

-- one character more of a field
escaped-more : (a : Text) (c : ℕ) → escaped Basics a ++ unit c ≡ escaped Basics (a ++ c ∷ [])
escaped-more a c = flat_map_more unit [] a c

pub field-more : (T a rest : Text) (c : ℕ) (after new : Text) → T ≡ escaped Basics a ++ rest
    → At c after ≡ character_at rest → new ≡ a ++ c ∷ [] → T ≡ escaped Basics new ++ after
field-more T a rest c after new whole read is =
    whole ∙ ap (λ x. escaped Basics a ++ x) (unit-written rest c after (sym read))
    ∙ sym (append_assoc (escaped Basics a) (unit c) after)
    ∙ ap (λ x. x ++ after) (escaped-more a c ∙ sym (ap (escaped Basics) is))

-- where no character can be read, and no end stands, there is no field
pub no-field : (T a rest : Text) (end : ℕ) → IsEnd end → T ≡ escaped Basics a ++ rest
    → None ≡ character_at rest → ((following : Text) → rest ≡ end ∷ following → ⊥) → RefusesField end T Other
no-field T a rest end is whole none other text following e =
    other following (field-stuck a text end rest following is (sym none) (sym whole ∙ e)).1
