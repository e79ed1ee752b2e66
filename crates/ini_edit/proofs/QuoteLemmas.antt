-- The quote in which an old value stands.
use Rattle.std.proofs.Common.{◌≡◌, ◌≢◌, ◌∙◌, inl, inr, ℕ, Bool, true, false, not, ◌&&◌, ◌||◌, eqb, [], ◌∷◌}
use Rattle.std.proofs.Common.{◌++◌, refl, sym, ap, subst, append_assoc, append-nil, eq-eqb, eqb-true, ne_eqb}
use Rattle.std.proofs.Common.{Some, None}
use Rattle.std.proofs.lemmas.Bool.{and_from, and_left, and_parts, and_right, both_ways, cases_Bool}
use Rattle.std.proofs.lemmas.Bool.{cond-false, cond-true, false_from_ne_true, false≢true, or_cases, or_left}
use Rattle.std.proofs.lemmas.Bool.{or_parts}
use Rattle.std.proofs.lemmas.List.{append_cancel_right}
use Rattle.std.proofs.lemmas.Option.{cond_some}
use Rattle.std.specs.Char.{is_digit}
use Rattle.ini_text.specs.Options.Backslashes.{Backslash, begins_escape, is_special}
use Rattle.ini_text.specs.Options.ReadOptions.{backslash_of}
use Rattle.ini_text.specs.declared.option.ParseOption.{ParseOption}
use Rattle.ini_text.specs.Grammar.CharacterKinds.{backslash, is_inline_white, is_quote_mark, plus}
use Rattle.ini_text.specs.Grammar.CharacterKinds.{BeginsWithNo}
use Rattle.ini_text.specs.Grammar.EscapeSequences.{EscapeSequence, spelled}
use Rattle.ini_text.specs.Grammar.Lines.{Line, LineText, Quoted}
use Rattle.ini_text.specs.Grammar.Places.{OwnLines}
use Rattle.ini_text.specs.Grammar.Strings.{Row, Str, quote_ends}
use Rattle.ini.specs.Texts.{Text}
use Rattle.ini_edit.specs.Inside.Quotes.{IsOwnSource, IsBetweenQuoteMarks, after_quote_mark}
use Rattle.ini_edit.specs.Quotes.{KeepsQuote, StandsInQuotes, has_quote_mark}

-- there are two marks
of_mark : (P : ℕ → Type 0) → P 0x22 → P 0x27 → (m : ℕ) → is_quote_mark m ≡ true → P m
of_mark P double single m h = elim (or_cases (eqb m 0x22) (eqb m 0x27) h) [
  | inl q ↦ subst P (sym (eqb-true m 0x22 q)) double
  | inr q ↦ subst P (sym (eqb-true m 0x27 q)) single
]

pub other_mark : (m : ℕ) → is_quote_mark m ≡ true → m ≢ 0x22 → m ≡ 0x27
other_mark = of_mark (λ m. m ≢ 0x22 → m ≡ 0x27) (λ n. absurd (n refl)) (λ n. refl)

mark_no_white : (m : ℕ) → is_quote_mark m ≡ true → is_inline_white m ≡ false
mark_no_white = of_mark (λ m. is_inline_white m ≡ false) refl refl

mark_no_backslash : (m : ℕ) → is_quote_mark m ≡ true → eqb backslash m ≡ false
mark_no_backslash = of_mark (λ m. eqb backslash m ≡ false) refl refl

pub white_no_mark : (c : ℕ) → is_inline_white c ≡ true → is_quote_mark c ≡ false
white_no_mark c h =
    false_from_ne_true (is_quote_mark c) (λ q. both_ways (is_inline_white c) (mark_no_white c q) h)

-- what follows the mark that ends a row of pieces
module _ (o : ParseOption) (m : ℕ) (mark : is_quote_mark m ≡ true) where
  past : (c : ℕ) (t : Text) → eqb c m ≡ false → begins_escape (backslash_of o) c ≡ false
      → after_quote_mark o m false (c ∷ t) ≡ after_quote_mark o m false t
  past c t no_mark no_backslash = rw (no_mark, no_backslash) refl

  -- a backslash takes a character
  past_two : is_special (backslash_of o) ≡ true → (c : ℕ) (t : Text)
      → after_quote_mark o m false (backslash ∷ c ∷ t) ≡ after_quote_mark o m false t
  past_two special c t =
      cond-false (eqb backslash m && true) _ _ (and_left (eqb backslash m) true (mark_no_backslash m mark))
      ∙ ap (λ taken. after_quote_mark o m taken (c ∷ t))
      (and_from (is_special (backslash_of o)) true special refl)
      ∙ cond-false (eqb c m && false) _ _ (and_right (eqb c m) false refl)
      ∙ ap (λ taken. after_quote_mark o m taken t)
      (and_right (begins_escape (backslash_of o) c) false refl)

  past_digit : (c : ℕ) (t : Text) → is_digit c 16 ≡ true
      → after_quote_mark o m false (c ∷ t) ≡ after_quote_mark o m false t
  past_digit c t h = past c t
      (ne_eqb c m (λ q. no_digit (subst (λ x. is_digit x 16 ≡ true) q h)))
      (and_left (eqb c backslash) (is_special (backslash_of o))
      (ne_eqb c backslash (λ q. let z = subst (λ x. is_digit x 16 ≡ true) q h in cc)))
    where
      no_digit : is_digit m 16 ≡ true → ⊥
      no_digit = of_mark (λ m. is_digit m 16 ≡ true → ⊥) (λ h. cc) (λ h. cc) m mark

  past_first_digit : (c : ℕ) (t : Text) → (is_digit c 16 || eqb c plus) ≡ true
      → after_quote_mark o m false (c ∷ t) ≡ after_quote_mark o m false t
  past_first_digit c t h = elim (or_cases (is_digit c 16) (eqb c plus) h) [
    | inl q ↦ past_digit c t q
    | inr q ↦
        subst (λ x. after_quote_mark o m false (x ∷ t) ≡ after_quote_mark o m false t)
        (sym (eqb-true c plus q))
        (past plus t no_plus refl)
  ]
    where
      no_plus : eqb plus m ≡ false
      no_plus = of_mark (λ m. eqb plus m ≡ false) refl refl m mark

  past_escape : is_special (backslash_of o) ≡ true → {escapes : Bool} {p w : Text}
      → EscapeSequence escapes p w → (t : Text)
      → after_quote_mark o m false (p ++ t) ≡ after_quote_mark o m false t
  unfolding spelled
  past_escape special EscapeSequence.folded t = past_two special _ t
  past_escape special (EscapeSequence.named on named) t = past_two special _ t
  past_escape special (EscapeSequence.coded {a} {b} {c} {d} {v} on h) t =
      let all_d = and_parts _ _ (and_parts _ _ (cond_some _ _ v h).0).0 in
      let all_c = and_parts _ _ all_d.0 in
      let all_b = and_parts _ _ all_c.0 in
      past_two special _ (a ∷ b ∷ c ∷ d ∷ t) ∙ past_first_digit a (b ∷ c ∷ d ∷ t) all_b.0
      ∙ past_digit b (c ∷ d ∷ t) all_b.1 ∙ past_digit c (d ∷ t) all_c.1 ∙ past_digit d t all_d.1
  past_escape special (EscapeSequence.itself on feed x none) t = past_two special _ t
  past_escape special (EscapeSequence.kept off feed) t = past_two special _ t

  at_mark : (t : Text) → after_quote_mark o m false (m ∷ t) ≡ Some t
  at_mark t = cond-true (eqb m m && true) _ _ (and_from (eqb m m) true (eq-eqb m m refl) refl)

  pub after_row : {s v : Text} → Row (backslash_of o) (quote_ends m) s v → (t : Text)
      → after_quote_mark o m false (s ++ m ∷ t) ≡ Some t
  after_row Row.none t = at_mark t
  after_row (Row.raw {c} {s} n ends apart row) t =
      past c (s ++ m ∷ t) (or_parts (eqb c m) false ends).0 n ∙ after_row row t
  after_row (Row.escape {p} {s = s} special piece row) t =
      ap (after_quote_mark o m false) (append_assoc p s (m ∷ t)) ∙ past_escape special piece (s ++ m ∷ t)
      ∙ after_row row t

-- what follows goes on
after_more : (o : ParseOption) (m : ℕ) (taken : Bool) (t x pad : Text)
    → after_quote_mark o m taken t ≡ Some x
    → after_quote_mark o m taken (t ++ pad) ≡ Some (x ++ pad)
after_more o m taken [] x pad h = absurd (let z : None ≡ Some x = h in cc)
after_more o m taken (c ∷ t) x pad h = elim (cases_Bool (eqb c m && not taken)) [
  | inl here ↦
      let same : Some t ≡ Some x = sym (cond-true (eqb c m && not taken) _ _ here) ∙ h in
      cond-true (eqb c m && not taken) _ _ here ∙ ap (λ z. Some (z ++ pad)) (let e : t ≡ x = cc in e)
  | inr on ↦
      cond-false (eqb c m && not taken) _ _ on
      ∙ after_more o m (begins_escape (backslash_of o) c && not taken) t x pad
      (sym (cond-false (eqb c m && not taken) _ _ on) ∙ h)
]

-- a string in quotes is a row
marked_row : {b : Backslash} {m n : ℕ} {s r v : Text} → Str b (quote_ends m) s (n ∷ r) v
    → Row b (quote_ends m) s v
marked_row (Str.closed row h) = row
marked_row (Str.before_note c row n inside note) = absurd (false≢true note)

-- a value's source that begins with a mark: a row of pieces, up to that mark
record BeginsPart (o : ParseOption) (m : ℕ) (x : Text) : Type 0 where
  pub content : Text
  pub given : Text
  pub following : Text
  pub row : Row (backslash_of o) (quote_ends m) content given
  pub whole : x ≡ content ++ m ∷ following

line_part : {o : ParseOption} {first : Bool} {l r v : Text} → o.enabled_quote ≡ true → LineText o first l r v
    → (m : ℕ) (x z after : Text) → is_quote_mark m ≡ true → l ++ z ≡ m ∷ x → r ≡ z ++ after
    → BeginsPart o m x
line_part on (LineText.text {p = p} {r = r} Quoted.none plain string) m x z after mark is next =
    let begins : p ++ r ≡ m ∷ (x ++ after) =
    ap (λ y. p ++ y) next ∙ sym (append_assoc p z after) ∙ ap (λ y. y ++ after) is in
    let no : is_quote_mark m ≡ false = subst (BeginsWithNo is_quote_mark) begins (plain on) in
    absurd (both_ways (is_quote_mark m) no mark)
line_part {o} on (LineText.text {p = p} (Quoted.part {m = n} {s} {v} {q} _ _ string _) _ _)
    m x z after mark is next =
    let whole : n ∷ ((s ++ n ∷ q) ++ (p ++ z)) ≡ m ∷ x =
    ap (λ y. n ∷ y) (sym (append_assoc (s ++ n ∷ q) p z)) ∙ is in
    let same : n ≡ m = cc in
    let tails : (s ++ n ∷ q) ++ (p ++ z) ≡ x = cc in
    record {
      content = s;
      given = v;
      following = q ++ (p ++ z);
      row = subst (λ y. Row (backslash_of o) (quote_ends y) s v) same (marked_row string);
      whole = sym tails ∙ append_assoc s (n ∷ q) (p ++ z) ∙ ap (λ y. s ++ y ∷ (q ++ (p ++ z))) same;
    }

own_part : {o : ParseOption} {raw_value r : Text} → o.enabled_quote ≡ true → OwnLines o raw_value r
    → (m : ℕ) (x : Text)
    → is_quote_mark m ≡ true → raw_value ≡ m ∷ x → BeginsPart o m x
own_part on (OwnLines.first {l} {r} one) m x mark is =
    line_part on one m x [] r mark (append-nil l ∙ is) refl
own_part on (OwnLines.more {e = e} {t} {r} (Line.line {t = l} {n} front tail) ends more) m x mark is =
    let whole : l ++ (n ++ (e ++ t)) ≡ (l ++ n) ++ (e ++ t) = simp append_assoc in
    let next : n ++ (e ++ (t ++ r)) ≡ (n ++ (e ++ t)) ++ r = simp append_assoc in
    line_part on front m x (n ++ (e ++ t)) r mark (whole ∙ is) next

-- a source that stands between two marks is one quoted part, and each such part stands so
pub part_between : {o : ParseOption} {raw_value : Text} {m : ℕ} → o.enabled_quote ≡ true
    → IsOwnSource o raw_value
    → IsBetweenQuoteMarks o raw_value m → StandsInQuotes o raw_value m
part_between {o} {raw_value} {m} on source between =
    let part = own_part on source.lines m (between.following ++ source.space_after) between.mark
    (ap (λ z. z ++ source.space_after) between.whole) in
    let one = after_more o m false between.following [] source.space_after between.ends in
    let other : after_quote_mark o m false (between.following ++ source.space_after) ≡ Some part.following =
    ap (after_quote_mark o m false) part.whole ∙ after_row o m between.mark part.row part.following in
    let both : Some source.space_after ≡ Some part.following = sym one ∙ other in
    let same : source.space_after ≡ part.following = cc in
    let whole : between.following ++ source.space_after ≡ (part.content ++ m ∷ []) ++ source.space_after =
    part.whole ∙ ap (λ z. part.content ++ m ∷ z) (sym same)
    ∙ sym (append_assoc part.content (m ∷ []) source.space_after) in
    record {
      on = on;
      mark = between.mark;
      content = part.content;
      given = part.given;
      string = Str.closed part.row (or_left (eqb m m) false (eq-eqb m m refl));
      whole =
          between.whole
          ∙ ap (λ z. m ∷ z)
          (append_cancel_right between.following (part.content ++ m ∷ []) source.space_after whole);
    }

ends_string : (o : ParseOption) {m : ℕ} {s r v : Text} → is_quote_mark m ≡ true
    → Str (backslash_of o) (quote_ends m) s (m ∷ r) v → after_quote_mark o m false (s ++ m ∷ []) ≡ Some []
ends_string o {m = m} mark string = after_row o m mark (marked_row string) []

pub between_part : {o : ParseOption} {raw_value : Text} {m : ℕ} → StandsInQuotes o raw_value m
    → IsBetweenQuoteMarks o raw_value m
between_part {o = o} {m = m} part = record {
  mark = part.mark;
  following = part.content ++ m ∷ [];
  whole = part.whole;
  ends = ends_string o part.mark part.string;
}

pub same_mark : (o : ParseOption) {raw_value : Text} {m n : ℕ} → IsBetweenQuoteMarks o raw_value m
    → IsBetweenQuoteMarks o raw_value n → m ≡ n
same_mark o {m = m} {n = n} one other =
    let both : m ∷ one.following ≡ n ∷ other.following = sym one.whole ∙ other.whole in
    cc

-- the quote in which a value is written in the place of one whose source stands in no quotes, or in its mark
module _ {o : ParseOption} {raw_value value : Text} where
  pub off_none : o.enabled_quote ≡ false → KeepsQuote o raw_value value []
  off_none off = KeepsQuote.none (λ m part. absurd (both_ways o.enabled_quote off part.on))

  pub bare_none : ((m : ℕ) → ¬ IsBetweenQuoteMarks o raw_value m) → KeepsQuote o raw_value value []
  bare_none none = KeepsQuote.none (λ m part. absurd (none m (between_part part)))

  pub mark_none : {m : ℕ} → IsBetweenQuoteMarks o raw_value m → has_quote_mark value m ≡ true
      → KeepsQuote o raw_value value []
  mark_none between has =
      KeepsQuote.none
      (λ n part. subst (λ x. has_quote_mark value x ≡ true) (same_mark o between (between_part part)) has)

  pub mark_kept : {m : ℕ} {quote : Text} → o.enabled_quote ≡ true → IsOwnSource o raw_value
      → IsBetweenQuoteMarks o raw_value m
      → has_quote_mark value m ≡ false → quote ≡ m ∷ [] → KeepsQuote o raw_value value quote
  mark_kept on source between none is =
      subst (KeepsQuote o raw_value value) (sym is) (KeepsQuote.kept (part_between on source between) none)

-- a text that goes on with the stretches of a pair, one after the other
pub put_together : (old f k l w p t : Text) (s : ℕ) {a b c d e g new : Text} → a ≡ old ++ f
    → b ≡ a ++ k → c ≡ b ++ s ∷ [] → d ≡ c ++ l → e ≡ d ++ w → g ≡ e ++ p → new ≡ g ++ t
    → new ≡ old ++ (f ++ (k ++ s ∷ (l ++ (w ++ (p ++ t)))))
put_together old f k l w p t s at_f at_k at_s at_l at_w at_p at_t =
    let joined : ((((((old ++ f) ++ k) ++ s ∷ []) ++ l) ++ w) ++ p) ++ t
    ≡ old ++ (f ++ (k ++ s ∷ (l ++ (w ++ (p ++ t))))) = simp append_assoc in
    at_t ∙ ap (λ z. z ++ t) (at_p ∙ ap (λ z. z ++ p) (at_w ∙ ap (λ z. z ++ w) (at_l ∙ ap (λ z. z ++ l)
    (at_s ∙ ap (λ z. z ++ s ∷ []) (at_k ∙ ap (λ z. z ++ k) at_f)))))
    ∙ joined
