-- What is written for a character, read as a piece; and what is written for a text, read as a row of pieces.
use Rattle.std.proofs.Common.{◌≡◌, ◌≢◌, inl, inr, ℕ, ◌+◌, ◌*◌, ◌/◌, ◌%◌, ◌<◌, Bool, true, false, not, ◌||◌}
use Rattle.std.proofs.Common.{◌&&◌, cond, eqb, ltb, eqb-true, eq-eqb, List, [], ◌∷◌, ◌++◌, refl, sym, subst}
use Rattle.std.proofs.Common.{append_assoc, arith, Option, Some, None}
use Rattle.std.proofs.lemmas.Bool.{cond_both, cond-true, leb-false, lt-ltb, or_left, or_right, or_parts}
use Rattle.std.proofs.lemmas.Bool.{or_cases, and_parts, not-true, both_ways, false_from_ne_true}
use Rattle.std.proofs.lemmas.Str.{digit_value-digit_char}
use Rattle.std.specs.Char.{digit_char, digit_value}
use Rattle.std.specs.List.{list_all}
use Rattle.std.specs.Str.{all_scalars}
use lib.Utf8.{scalar}
use Rattle.ini_text.specs.Options.Backslashes.{Backslash, Escape, is_special, reads_escapes, begins_escape}
use Rattle.ini_text.specs.Options.ReadOptions.{backslash_of}
use Rattle.ini_text.proofs.ReaderLemmas.StringReaderLemmas.{no-backslash}
use Rattle.ini_text.specs.declared.option.ParseOption.{ParseOption}
use Rattle.ini_text.specs.declared.write.policy.EscapePolicy.{EscapePolicy}
use Rattle.ini_text.specs.declared.write.policy.EscapePolicy.TheVariants.{Nothing, Basics, BasicsUnicode}
use Rattle.ini_text.specs.declared.write.policy.EscapePolicy.TheVariants.{BasicsUnicodeExtended, Reserved}
use Rattle.ini_text.specs.declared.write.policy.EscapePolicy.TheVariants.{ReservedUnicode}
use Rattle.ini_text.specs.declared.write.policy.EscapePolicy.TheVariants.{ReservedUnicodeExtended, Everything}
use Rattle.ini_text.specs.Grammar.CharacterKinds.{backslash, letter_x, plus, begins, is_blank, is_line_end}
use Rattle.ini_text.specs.Grammar.CharacterKinds.{is_comment_mark, is_separator, BeginsWithNo}
use Rattle.ini_text.specs.Escaping.EscapedTexts.{escape, escape_by, escaped, hex_digits, letter_of}
use Rattle.ini_text.specs.Grammar.EscapeSequences.{EscapeSequence, control, spelled}
use Rattle.ini_text.specs.Laws.Plain.{IsReadBack, has_bare_note, has_unread_letter}
use Rattle.ini_text.specs.Escaping.Policies.{is_basic, is_escaped, is_extended, is_reserved}
use Rattle.ini_text.specs.Grammar.Strings.{Ends, Row, is_before_note, is_endpoint}
use Rattle.ini_text.proofs.GrammarLemmas.SpellingLemmas.{spelled_value, first_other}

-- the last hexadecimal digit of a number
digit : (n : ℕ) → (digit_value (digit_char (n % 16)) < 16) × (n % 16 ≡ digit_value (digit_char (n % 16)))
digit n =
    let e : digit_value (digit_char (n % 16)) ≡ n % 16 = digit_value-digit_char (n % 16) (omega arith) in
    (omega (arith, e), sym e)

not_plus : (d : ℕ) → digit_char d ≢ plus
not_plus d = cond_both (ltb d 10) (48 + d) (87 + d) (λ x. x ≢ plus) (λ h. omega arith) (λ h. omega arith)

four_digits : (c : ℕ) → c < 0x1_0000
    → c ≡ (c / 0x1000 % 16) * 0x1000 + (c / 0x100 % 16) * 0x100 + (c / 0x10 % 16) * 0x10 + c / 1 % 16
four_digits c h = omega arith

-- the digit of this weight
abbrev hex_digit : ℕ → ℕ → ℕ
hex_digit weight c = digit_char (c / weight % 16)

spelled-digits : (c : ℕ) → c < 0x1_0000 → scalar c ≡ true
    → spelled (hex_digit 0x1000 c) (hex_digit 0x100 c) (hex_digit 0x10 c) (hex_digit 1 c) ≡ Some c
spelled-digits c low valid =
    let first = digit (c / 0x1000) in
    let f = first_other (digit_char (c / 0x1000 % 16)) (c / 0x1000 % 16) (c / 0x1000 % 16)
    (not_plus (c / 0x1000 % 16)) first refl in
    sym (spelled_value _ _ _ _ (c / 0x1000 % 16) (c / 0x100 % 16) (c / 0x10 % 16) (c / 1 % 16) c
    (Some c) f.0 f.1 (digit (c / 0x100)) (digit (c / 0x10)) (digit (c / 1)) (four_digits c low)
    (valid, refl))

-- What is written for a character, but for U+000B, U+000C and those above U+FFFF, is a piece that stands
-- for it.
by_letter : (l v c : ℕ) → control l ≡ Some v → eqb c v ≡ true
    → EscapeSequence true (backslash ∷ l ∷ []) (c ∷ [])
by_letter l v c named same =
    subst (λ x. EscapeSequence true (backslash ∷ l ∷ []) (x ∷ [])) (sym (eqb-true c v same))
    (EscapeSequence.named refl named)

as_itself : (v c : ℕ) → v ≢ 0x0A → v ≢ letter_x → control v ≡ None → eqb c v ≡ true
    → EscapeSequence true (backslash ∷ c ∷ []) (c ∷ [])
as_itself v c feed x named same =
    subst (λ y. EscapeSequence true (backslash ∷ y ∷ []) (y ∷ [])) (sym (eqb-true c v same))
    (EscapeSequence.itself refl feed x named)

reserved-is : (c : ℕ) → is_reserved c ≡ true → EscapeSequence true (backslash ∷ c ∷ []) (c ∷ [])
reserved-is c h = elim (or_cases (is_comment_mark c) (is_separator c) h) [
  | inl mark ↦ elim (or_cases (eqb c 0x3B) (eqb c 0x23) mark) [
    | inl q ↦ as_itself 0x3B c (omega arith) (omega arith) refl q
    | inr q ↦ as_itself 0x23 c (omega arith) (omega arith) refl q
  ]
  | inr sep ↦ elim (or_cases (eqb c 0x3D) (eqb c 0x3A) sep) [
    | inl q ↦ as_itself 0x3D c (omega arith) (omega arith) refl q
    | inr q ↦ as_itself 0x3A c (omega arith) (omega arith) refl q
  ]
]

backslash-is : (c : ℕ) → (eqb c backslash || is_reserved c) ≡ true
    → EscapeSequence true (backslash ∷ c ∷ []) (c ∷ [])
backslash-is c h = elim (or_cases (eqb c backslash) (is_reserved c) h) [
  | inl q ↦ as_itself 0x5C c (omega arith) (omega arith) refl q
  | inr q ↦ reserved-is c q
]

pub escape-is : (c : ℕ) → c < 0x1_0000 → scalar c ≡ true → has_unread_letter c ≡ false
    → EscapeSequence true (escape c) (c ∷ [])
unfolding escape
escape-is c low valid read =
    let unread = or_parts (eqb c 0x0B) (eqb c 0x0C) read in
    let P : Option ℕ → Type 0 = λ l. EscapeSequence true (escape_by l c) (c ∷ []) in
    let coded : P None =
    subst (λ n. EscapeSequence true (backslash ∷ letter_x ∷ hex_digits n c) (c ∷ []))
    (sym (cond-true (ltb c 0x1_0000) 4 (cond (ltb c 0x10_0000) 5 6) (lt-ltb c 0x1_0000 low)))
    (EscapeSequence.coded refl (spelled-digits c low valid)) in
    cond_both (eqb c backslash || is_reserved c) _ _ P (backslash-is c) (λ _.
    cond_both (eqb c 0x00) _ _ P (by_letter 0x30 0x00 c refl) (λ _.
    cond_both (eqb c 0x07) _ _ P (by_letter 0x61 0x07 c refl) (λ _.
    cond_both (eqb c 0x08) _ _ P (by_letter 0x62 0x08 c refl) (λ _.
    cond_both (eqb c 0x09) _ _ P (by_letter 0x74 0x09 c refl) (λ _.
    cond_both (eqb c 0x0A) _ _ P (by_letter 0x6E 0x0A c refl) (λ _.
    cond_both (eqb c 0x0B) _ _ P (λ h. absurd (both_ways (eqb c 0x0B) unread.0 h)) (λ _.
    cond_both (eqb c 0x0C) _ _ P (λ h. absurd (both_ways (eqb c 0x0C) unread.1 h)) (λ _.
    cond_both (eqb c 0x0D) _ _ P (by_letter 0x72 0x0D c refl) (λ _. coded)))))))))

-- a policy that isn't `Nothing` escapes the basic characters
pub basic-escaped : (policy : EscapePolicy) (c : ℕ) → policy ≢ Nothing → is_basic c ≡ true
    → is_escaped policy c ≡ true
basic-escaped Nothing c n h = absurd (n refl)
basic-escaped Basics c n h = h
basic-escaped BasicsUnicode c n h = or_left _ _ h
basic-escaped BasicsUnicodeExtended c n h = or_left _ _ (or_left _ _ h)
basic-escaped Reserved c n h = or_left _ _ h
basic-escaped ReservedUnicode c n h = or_left _ _ (or_left _ _ h)
basic-escaped ReservedUnicodeExtended c n h = or_left _ _ (or_left _ _ (or_left _ _ h))
basic-escaped Everything c n h = or_left _ _ (or_left _ _ (or_left _ _ h))

-- a character is read back as itself: by its escape, or as it is
pub record IsRead (escapes : Backslash) (policy : EscapePolicy) (c : ℕ) : Type 0 where
  pub by_escape : is_escaped policy c ≡ true
      → (is_special escapes ≡ true) × EscapeSequence (reads_escapes escapes) (escape c) (c ∷ [])
  pub raw : is_escaped policy c ≡ false → begins_escape escapes c ≡ false
  pub no_line_end : is_escaped policy c ≡ false → is_line_end c ≡ false

pub data AllRead (escapes : Backslash) (policy : EscapePolicy) : List ℕ → Type 0 where
  none : AllRead escapes policy []
  more : {c : ℕ} {cs : List ℕ} → IsRead escapes policy c → AllRead escapes policy cs
      → AllRead escapes policy (c ∷ cs)

module _ (policy : EscapePolicy) where
  read_escape : (c : ℕ) → policy ≢ Nothing → scalar c ≡ true → not (has_unread_letter c) ≡ true
      → not (is_extended c && is_escaped policy c) ≡ true → IsRead Escape policy c
  read_escape c n valid letter low = record {
    by_escape = λ h.
        let extended : is_extended c ≡ false =
        and_not (is_extended c) (is_escaped policy c) (not-true _ low) h in
        (refl, escape-is c (leb-false 0x1_0000 c extended) valid (not-true _ letter));
    raw = λ h. no-backslash Escape c (λ e. both_ways (is_escaped policy c) h
        (basic-escaped policy c n (or_left _ _ (or_left _ _ (eq-eqb c backslash e)))));
    no_line_end =
        λ h. false_from_ne_true (is_line_end c)
        (λ e. both_ways (is_escaped policy c) h (basic-escaped policy c n (line_end_basic c e)));
  }
    where
      and_not : (x y : Bool) → (x && y) ≡ false → y ≡ true → x ≡ false
      and_not true y h q = absurd (both_ways y h q)
      and_not false y h q = refl

      line_end_basic : (c : ℕ) → is_line_end c ≡ true → is_basic c ≡ true
      line_end_basic c e = or_left _ _ (or_right _ _ (elim (or_cases (eqb c 0x0A) (eqb c 0x0D) e) [
        | inl q ↦ let x = eqb-true c 0x0A q in lt-ltb c 0x20 (omega arith)
        | inr q ↦ let x = eqb-true c 0x0D q in lt-ltb c 0x20 (omega arith)
      ]))

  read_raw : {escapes : Backslash} (c : ℕ) → not (is_escaped policy c) ≡ true
      → not (begins_escape escapes c || is_line_end c) ≡ true → IsRead escapes policy c
  read_raw {escapes} c n h =
      let parts = or_parts (begins_escape escapes c) (is_line_end c) (not-true _ h) in
      record {
        by_escape = λ e. absurd (both_ways (is_escaped policy c) (not-true _ n) e);
        raw = λ _. parts.0;
        no_line_end = λ _. parts.1;
      }

  all_by_escapes : (text : List ℕ) → policy ≢ Nothing → all_scalars text ≡ true
      → list_all (λ c. not (has_unread_letter c)) text ≡ true
      → list_all (λ c. not (is_extended c && is_escaped policy c)) text ≡ true → AllRead Escape policy text
  all_by_escapes [] n valid letters low = AllRead.none
  all_by_escapes (c ∷ cs) n valid letters low =
      let v = and_parts (scalar c) (all_scalars cs) valid in
      let l = and_parts (not (has_unread_letter c)) (list_all (λ c. not (has_unread_letter c)) cs) letters in
      let e = and_parts (not (is_extended c && is_escaped policy c))
      (list_all (λ c. not (is_extended c && is_escaped policy c)) cs) low in
      AllRead.more (read_escape c n v.0 l.0 e.0) (all_by_escapes cs n v.1 l.1 e.1)

  all_raw : {escapes : Backslash} (text : List ℕ) → list_all (λ c. not (is_escaped policy c)) text ≡ true
      → list_all (λ c. not (begins_escape escapes c || is_line_end c)) text ≡ true
      → AllRead escapes policy text
  all_raw [] n h = AllRead.none
  all_raw {escapes} (c ∷ cs) n h =
      let m = and_parts (not (is_escaped policy c)) (list_all (λ c. not (is_escaped policy c)) cs) n in
      let g = and_parts (not (begins_escape escapes c || is_line_end c))
      (list_all (λ c. not (begins_escape escapes c || is_line_end c)) cs) h in
      AllRead.more (read_raw c m.0 g.0) (all_raw cs m.1 g.1)

pub all_read : {o : ParseOption} (policy : EscapePolicy) (text : List ℕ) → IsReadBack o policy text
    → AllRead (backslash_of o) policy text
all_read policy text read = elim read.is_read [
  | inl e ↦
      subst (λ x. AllRead x policy text) (sym (rw e.escapes refl))
      (all_by_escapes policy text e.escaping read.of_characters e.no_unread_letter e.no_extended)
  | inr n ↦ all_raw policy text n.no_escaped n.no_backslash
]

-- what an escaped text begins with: a backslash, or its first character, which isn't escaped
escape_by-begins : (letter : Option ℕ) (c : ℕ) → (y : List ℕ) × (escape_by letter c ≡ backslash ∷ y)
escape_by-begins (Some letter) c = (letter ∷ [], refl)
escape_by-begins None c = (_, refl)

escape-begins : (c : ℕ) → (y : List ℕ) × (escape c ≡ backslash ∷ y)
unfolding escape
escape-begins c = escape_by-begins (letter_of c) c

pub escaped_begins : (P : List ℕ → Type 0) → ((y : List ℕ) → P (backslash ∷ y)) → (policy : EscapePolicy)
    (c : ℕ) (cs x : List ℕ) → (is_escaped policy c ≡ false → (y : List ℕ) → P (c ∷ y))
    → P (escaped policy (c ∷ cs) ++ x)
escaped_begins P slash policy c cs x raw =
    cond_both (is_escaped policy c) (escape c) (c ∷ []) (λ p. P ((p ++ escaped policy cs) ++ x))
    (λ h. let e = escape-begins c in subst (λ p. P ((p ++ escaped policy cs) ++ x)) (sym e.1)
    (slash ((e.0 ++ escaped policy cs) ++ x)))
    (λ h. raw h (escaped policy cs ++ x))

-- where strings end before notes, the text has no bare one
abbrev pub NoBareNote : EscapePolicy → Ends → List ℕ → Type 0
NoBareNote policy ends text = ends.notes ≡ true → has_bare_note policy text ≡ false

-- of a comment mark that isn't escaped
abbrev is_bare_mark : EscapePolicy → ℕ → Bool
is_bare_mark policy c = is_comment_mark c && not (is_escaped policy c)

-- a text that no bare mark begins is written so that no mark begins it
no_mark_begins : (policy : EscapePolicy) (text t : List ℕ) → BeginsWithNo is_comment_mark t
    → begins (is_bare_mark policy) text ≡ false → begins is_comment_mark (escaped policy text ++ t) ≡ false
no_mark_begins policy [] [] h bare = refl
no_mark_begins policy [] (d ∷ t) h bare = h
no_mark_begins policy (c ∷ cs) t h bare =
    escaped_begins (λ l. begins is_comment_mark l ≡ false) (λ y. refl) policy c cs t
    (λ raw y. unmarked (is_comment_mark c) (is_escaped policy c) bare raw)
  where
    unmarked : (a b : Bool) → (a && not b) ≡ false → b ≡ false → a ≡ false
    unmarked true true h q = q
    unmarked true false h q = h
    unmarked false b h q = refl

-- the same of a character before a text: it is no blank before a note
no_note_behind : (policy : EscapePolicy) (ends : Ends) (c : ℕ) (cs t : List ℕ)
    → BeginsWithNo is_comment_mark t → NoBareNote policy ends (c ∷ cs) → is_escaped policy c ≡ false
    → is_before_note ends c (escaped policy cs ++ t) ≡ false
no_note_behind policy ends c cs t h unnoted raw =
    at ends.notes (is_blank c) (is_escaped policy c) (begins (is_bare_mark policy) cs)
    (begins is_comment_mark (escaped policy cs ++ t)) raw (no_mark_begins policy cs t h)
    (λ on. (or_parts _ (has_bare_note policy cs) (unnoted on)).0)
  where
    at : (n b e m k : Bool) → e ≡ false → (m ≡ false → k ≡ false) → (n ≡ true → (b && not e && m) ≡ false)
        → (n && (b && k)) ≡ false
    at true true true m k raw unmarked unnoted = absurd (both_ways true raw refl)
    at true true false m k raw unmarked unnoted = unmarked (unnoted refl)
    at true false e m k raw unmarked unnoted = refl
    at false b e m k raw unmarked unnoted = refl

-- no character that isn't escaped is an endpoint
abbrev pub NoRawEnd : EscapePolicy → Ends → List ℕ → Type 0
NoRawEnd policy ends text = list_all (λ c. not (is_endpoint ends c) || is_escaped policy c) text ≡ true

-- an escaped text before a row of pieces that no comment mark begins
pub row_escaped : {escapes : Backslash} {policy : EscapePolicy} {ends : Ends} {t v : List ℕ} (text : List ℕ)
    → AllRead escapes policy text → NoRawEnd policy ends text → NoBareNote policy ends text
    → BeginsWithNo is_comment_mark t
    → Row escapes ends t v → Row escapes ends (escaped policy text ++ t) (text ++ v)
row_escaped [] AllRead.none n unnoted h row = row
row_escaped {escapes} {policy} {ends} {t} {v} (c ∷ cs) (AllRead.more one all) n unnoted h row =
    let parts = and_parts (not (is_endpoint ends c) || is_escaped policy c)
    (list_all (λ c. not (is_endpoint ends c) || is_escaped policy c) cs) n in
    let later : NoBareNote policy ends cs = λ on. (or_parts _ (has_bare_note policy cs) (unnoted on)).1 in
    let rest : Row escapes ends (escaped policy cs ++ t) (cs ++ v) =
    row_escaped cs all parts.1 later h row in
    cond_both (is_escaped policy c) (escape c) (c ∷ [])
    (λ p. Row escapes ends ((p ++ escaped policy cs) ++ t) (c ∷ (cs ++ v)))
    (λ q.
    rw (append_assoc (escape c) (escaped policy cs) t)
    (Row.escape (one.by_escape q).0 (one.by_escape q).1 rest))
    (λ q. Row.raw (one.raw q) (raw_end (is_endpoint ends c) (is_escaped policy c) parts.0 q)
    (no_note_behind policy ends c cs t h unnoted q) rest)
  where
    raw_end : (x y : Bool) → (not x || y) ≡ true → y ≡ false → x ≡ false
    raw_end true y h q = absurd (both_ways y q h)
    raw_end false y h q = refl
