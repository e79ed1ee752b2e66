-- Reading a string by steps that each take a piece: the reader finds what the grammar says, and the code
-- gives it.
use Rattle.std.proofs.Common.{◌≡◌, ◌≢◌, ℕ, zero, suc, ◌+◌, ◌-◌, ◌<◌, Bool, true, false, not, ◌&&◌, ◌||◌, ◌==◌}
use Rattle.std.proofs.Common.{if◌then◌else◌, List, [], ◌∷◌, ◌++◌, length, Option, Some, None, inl, inr}
use Rattle.std.proofs.Common.{unwrap_or, refl, sym, ap, ◌∙◌, subst, subst₂, append_assoc, append-nil}
use Rattle.std.proofs.Common.{length-append, arith, ne_eqb, eq-eqb, eqb-true, true≢false}
use Rattle.std.proofs.lemmas.Bool.{both_ways, cases_Bool, cond_both, eqb-false, false_from_ne_true, and_parts}
use Rattle.std.proofs.lemmas.Bool.{or_cases, not-true, not-false}
use Rattle.std.proofs.Math.Bool.{and-false}
use Rattle.std.proofs.lemmas.Option.{cond_some}
use Rattle.std.specs.Char.{is_digit}
use Rattle.std.specs.List.{list_all}
use Rattle.ini_text.specs.declared.option.LoneLine.{LoneLine}
use Rattle.ini_text.specs.declared.option.LoneLine.TheVariants.{RunsOn, Refused, Key}
use Rattle.ini_text.specs.declared.error.ParseKind.{ParseKind}
use Rattle.ini_text.specs.declared.error.ParseKind.TheVariants.{EndOfText}
use Rattle.ini_text.specs.Grammar.CharacterKinds.{backslash, line_feed, plus, letter_x, begins, BeginsWithNo}
use Rattle.ini_text.specs.Grammar.CharacterKinds.{is_blank, is_comment_mark}
use Rattle.ini_text.specs.Grammar.EscapeSequences.{control, spelled, EscapeSequence, Units, spelled_by}
use Rattle.ini_text.specs.Grammar.EscapeSequences.{EscapeStops}
use Rattle.ini_text.specs.Options.ReadOptions.{backslash_of}
use Rattle.ini_text.specs.declared.option.ParseOption.{ParseOption}
use Rattle.ini_text.specs.Options.Backslashes.{Backslash, Escape, Kept, Raw, is_special, reads_escapes}
use Rattle.ini_text.specs.Options.Backslashes.{begins_escape}
use Rattle.ini_text.specs.Grammar.Strings.{Ends, is_endpoint, is_before_note, key_ends, Row, Closes, Str}
use Rattle.ini_text.specs.Grammar.Strings.{StrStops}
use Rattle.ini_text.specs.declared.parser.endpoints.Endpoints.{Endpoints}
use Rattle.ini_text.specs.declared.parser.endpoints.Endpoints.TheVariants as endpoints
use Rattle.ini_text.specs.Inside.Endpoints.{ends_of}
use Rattle.ini_text.specs.Inside.Reading.{Answer, found, stopped, prepend, and_then, Step, more, ends, go_on}
use Rattle.ini_text.specs.Inside.Scans.{is_raw, is_run, ends_before_note, EndsRun}
use Rattle.ini_text.specs.Inside.StringReader.{folded_unit, units, character, spelled_character}
use Rattle.ini_text.specs.Inside.StringReader.{coded_character, value_after_backslash, as_step, escape, piece}
use Rattle.ini_text.specs.Inside.StringReader.{string}
use Rattle.ini_text.proofs.ReaderLemmas.ReaderLemmas.{prepend-nil, prepend-prepend, Says, IsReader, StepSays}
use Rattle.ini_text.proofs.ReaderLemmas.ReaderLemmas.{prefixed, and_found, and_stopped, read_after, turn}
use Rattle.ini_text.proofs.ReaderLemmas.ReaderLemmas.{shortens, reads}

digit-apart : (c : ℕ) → is_digit c 16 ≡ true → c ≢ backslash
digit-apart c h q = let z = subst (λ x. is_digit x 16 ≡ true) q h in cc

first_digit-apart : (c : ℕ) → (is_digit c 16 || c == plus) ≡ true → c ≢ backslash
first_digit-apart c h q = let z = subst (λ x. (is_digit x 16 || x == plus) ≡ true) q h in cc

-- four digits that spell a character are units
spelled-Units : (a b c d v : ℕ) → spelled a b c d ≡ Some v
    → Units (a ∷ b ∷ c ∷ d ∷ []) (Some a ∷ Some b ∷ Some c ∷ Some d ∷ [])
unfolding spelled
spelled-Units a b c d v h =
    let all_d = and_parts _ _ (and_parts _ _ (cond_some _ _ v h).0).0 in
    let all_c = and_parts _ _ all_d.0 in
    let all_b = and_parts _ _ all_c.0 in
    Units.character (first_digit-apart a all_b.0) (Units.character (digit-apart b all_b.1)
    (Units.character (digit-apart c all_c.1) (Units.character (digit-apart d all_d.1) Units.none)))

units-append : {s t : List ℕ} {us vs : List (Option ℕ)} → Units s us → Units t vs → Units (s ++ t) (us ++ vs)
units-append Units.none other = other
units-append (Units.character n rest) other = Units.character n (units-append rest other)
units-append (Units.folded rest) other = Units.folded (units-append rest other)

units-found : {u : List ℕ} {us : List (Option ℕ)} → Units u us → (k j : ℕ) (r : List ℕ) → k ≡ length us + j
    → units k (u ++ r) ≡ prepend us (units j r)
units-found Units.none k j r h = let same : k ≡ j = omega arith in rw same (sym (prepend-nil (units j r)))
units-found (Units.character n u) zero j r h = absurd (omega arith)
units-found (Units.character {c} {us = us} n u) (suc k) j r h =
    rw (ne_eqb c 92 n, units-found u k j r (omega arith)) (prepend-prepend (Some c ∷ []) us (units j r))
units-found (Units.folded u) zero j r h = absurd (omega arith)
units-found (Units.folded {us = us} u) (suc k) j r h =
    rw (units-found u k j r (omega arith)) (prepend-prepend (None ∷ []) us (units j r))

abbrev UnitsSay : List ℕ → Answer (Option ℕ) → Type 0
UnitsSay t (found us r) = (u : List ℕ) × Units u us × (length us ≡ 4) × (u ++ r ≡ t)
UnitsSay t (stopped r k) = (u : List ℕ) × EscapeStops (backslash ∷ letter_x ∷ u) r k × (u ++ r ≡ t)

one-more : (u p t : List ℕ) (us : List (Option ℕ)) (o : Option ℕ) (a : Answer (Option ℕ))
    → UnitsSay ((u ++ p) ++ t) (prepend (us ++ o ∷ []) a)
    → UnitsSay (u ++ (p ++ t)) (prepend us (prepend (o ∷ []) a))
one-more u p t us o a h = subst₂ UnitsSay (append_assoc u p t) (sym (prepend-prepend us (o ∷ []) a)) h

mutual
  units-sound : (k : ℕ) {u : List ℕ} {us : List (Option ℕ)} → Units u us → length us + k ≡ 4 → (t : List ℕ)
      → UnitsSay (u ++ t) (prepend us (units k t))
  units-sound zero {u} {us} x four t =
      (u, subst (Units u) (sym (append-nil us)) x, omega (arith, length-append us []), refl)
  units-sound (suc k) {u} {us} x four [] = (u, EscapeStops.cut_short x (omega arith), refl)
  units-sound (suc k) {u} {us} x four (c ∷ cs) = elim (cases_Bool (c == backslash)) [
    | inl q ↦ rw (eqb-true c 92 q) (folded-sound k x four cs)
    | inr n ↦
        let one : Units (c ∷ []) (Some c ∷ []) = Units.character (eqb-false c 92 n) Units.none in
        rw n (one-more u (c ∷ []) cs us (Some c) (units k cs)
        (units-sound k (units-append x one) (omega (arith, length-append us (Some c ∷ []))) cs))
  ]

  folded-sound : (k : ℕ) {u : List ℕ} {us : List (Option ℕ)} → Units u us → length us + suc k ≡ 4
      → (t : List ℕ)
      → UnitsSay (u ++ backslash ∷ t) (prepend us (and_then (units k) (folded_unit t)))
  folded-sound k {u} {us} x four [] =
      (u ++ backslash ∷ [], EscapeStops.cut_in_unit x (omega arith), append-nil (u ++ backslash ∷ []))
  folded-sound k {u} {us} x four (c ∷ cs) = elim (cases_Bool (c == line_feed)) [
    | inl q ↦
        let one : Units (backslash ∷ line_feed ∷ []) (None ∷ []) = Units.folded Units.none in
        rw (eqb-true c 10 q) (one-more u (backslash ∷ line_feed ∷ []) cs us None (units k cs)
        (units-sound k (units-append x one) (omega (arith, length-append us (None ∷ []))) cs))
    | inr n ↦
        rw n (
          u ++ backslash ∷ c ∷ [],
          EscapeStops.broken x (omega arith) (eqb-false c 10 n),
          append_assoc u (backslash ∷ c ∷ []) cs,
        )
  ]

spelled-EscapeSequence : {u : List ℕ} {us : List (Option ℕ)} → Units u us → (v : ℕ)
    → spelled_by us ≡ Some v → EscapeSequence true (backslash ∷ letter_x ∷ u) (v ∷ [])
spelled-EscapeSequence (Units.character a
    (Units.character b (Units.character c (Units.character d Units.none)))) v h = EscapeSequence.coded refl h
spelled-EscapeSequence _ v h = cc

pub coded_digits : {t x y z rest : List ℕ} {a b c d v : ℕ} → t ≡ a ∷ x → x ≡ b ∷ y → y ≡ c ∷ z
    → z ≡ d ∷ rest → spelled a b c d ≡ Some v → coded_character t ≡ found (v ∷ []) rest
unfolding coded_character
coded_digits {rest = rest} {a} {b} {c} {d} {v} p q r s h =
    rw (p, q, r, s) (rw (units-found (spelled-Units a b c d v h) 4 0 rest (omega arith), h))

-- a named escape, or the character itself
value_of : (c : ℕ) (named : Option ℕ) → control c ≡ named → c ≢ line_feed → c ≢ letter_x
    → EscapeSequence true (backslash ∷ c ∷ []) (unwrap_or named c ∷ [])
value_of c (Some v) h a b = EscapeSequence.named refl h
value_of c None h a b = EscapeSequence.itself refl a b h

-- a backslash and one character
escape_of : (e : Bool) (c : ℕ) → (c == letter_x && e) ≡ false
    → EscapeSequence e (backslash ∷ c ∷ []) (value_after_backslash e c)
escape_of e c other = elim (cases_Bool (c == line_feed)) [
  | inl q ↦ rw (eqb-true c 10 q) EscapeSequence.folded
  | inr n ↦ rw n (by e (eqb-false c 10 n) other)
]
  where
    by : (e : Bool) → c ≢ line_feed → (c == letter_x && e) ≡ false
        → EscapeSequence e (backslash ∷ c ∷ [])
        (if e then unwrap_or (control c) c ∷ [] else backslash ∷ c ∷ [])
    by true n other =
        value_of c (control c) refl n (λ same. let z : true ≡ false = rw (eq-eqb c 120 same) at other in cc)
    by false n other = EscapeSequence.kept refl n

-- what reads escapes takes the next character along
escape-special : (b : Backslash) → reads_escapes b ≡ true → is_special b ≡ true
escape-special Escape on = refl
escape-special Kept on = refl
escape-special Raw on = on

pub reads-escapes : (o : ParseOption) → reads_escapes (backslash_of o) ≡ o.enabled_escape
reads-escapes o = elim (cases_Bool o.enabled_escape) [
  | inl on ↦ rw on refl
  | inr off ↦ elim (cases_Bool o.enabled_raw_backslash) [
    | inl raw ↦ rw (off, raw) refl
    | inr kept ↦ rw (off, kept) refl
  ]
]

abbrev pub StringSays : Backslash → Ends → List ℕ → Answer ℕ → Type 0
StringSays b to t a = Says (Str b to) (StrStops b to) t a

-- a character that is no backslash begins no escape
pub no-backslash : (b : Backslash) (c : ℕ) → c ≢ backslash → begins_escape b c ≡ false
no-backslash b c n = rw (ne_eqb c 92 n) refl

plain_parts : (b : Backslash) (to : Ends) (c : ℕ) → is_raw to c ≡ true
    → (begins_escape b c ≡ false) × (is_endpoint to c ≡ false)
plain_parts b to c h = let two = and_parts (not (c == backslash)) (not (is_endpoint to c)) h in
    (rw (not-true (c == backslash) two.0) refl, not-true (is_endpoint to c) two.1)

-- no string ends at a backslash
no_backslash_in_keys : (line : LoneLine) → is_endpoint (key_ends line) backslash ≡ false
no_backslash_in_keys RunsOn = refl
no_backslash_in_keys Refused = refl
no_backslash_in_keys Key = refl

pub no_backslash_ends : (o : ParseOption) (e : Endpoints) → is_endpoint (ends_of o e) backslash ≡ false
no_backslash_ends o endpoints.Name = refl
no_backslash_ends o endpoints.BracketedName = refl
no_backslash_ends o endpoints.Key = no_backslash_in_keys o.line_without_separator
no_backslash_ends o endpoints.DoubleQuotes = refl
no_backslash_ends o endpoints.SingleQuotes = refl
no_backslash_ends o endpoints.Plain = refl

-- a blank before a note, and what is none
pub blank_no_mark : (c : ℕ) → is_blank c ≡ true → is_comment_mark c ≡ false
blank_no_mark c h = elim (or_cases (c == 32) (c == 9) h)
    [ inl q ↦ rw (eqb-true c 32 q) refl | inr q ↦ rw (eqb-true c 9 q) refl ]

module _ (to : Ends) where
  -- the parts of what stands before a note
  pub note_parts : (c : ℕ) (r : List ℕ) → is_before_note to c r ≡ true
      → (to.notes ≡ true) × (is_blank c ≡ true) × (begins is_comment_mark r ≡ true)
  note_parts c r h =
      let one = and_parts to.notes (is_blank c && begins is_comment_mark r) h in
      let two = and_parts (is_blank c) (begins is_comment_mark r) one.1 in
      (one.0, two.0, two.1)

  -- before what begins no note
  pub no_note_after : (c : ℕ) (r : List ℕ) → begins is_comment_mark r ≡ false → is_before_note to c r ≡ false
  no_note_after c r n = rw (n, and-false, and-false) refl

  pub no_blank : (c : ℕ) (r : List ℕ) → is_blank c ≡ false → is_before_note to c r ≡ false
  no_blank c r n = rw (n, and-false) refl

  pub no_note_before : (c : ℕ) (s r : List ℕ) → is_before_note to c (s ++ r) ≡ false
      → is_before_note to c s ≡ false
  no_note_before c [] r h = no_note_after c [] refl
  no_note_before c (d ∷ s) r h = h

  no_note_between : (c : ℕ) (s r : List ℕ) → is_before_note to c s ≡ false → begins is_comment_mark r ≡ false
      → is_before_note to c (s ++ r) ≡ false
  no_note_between c [] r h n = no_note_after c r n
  no_note_between c (d ∷ s) r h n = h

  -- where no string ends before a note
  pub no_notes : (c : ℕ) (r : List ℕ) → to.notes ≡ false → is_before_note to c r ≡ false
  no_notes c r off = rw off refl

  -- characters that stand for themselves
  pub run_without_notes : (run : List ℕ) → to.notes ≡ false → list_all (is_raw to) run ≡ true
      → is_run to run ≡ true
  run_without_notes [] off h = refl
  run_without_notes (c ∷ run) off h =
      let two = and_parts (is_raw to c) (list_all (is_raw to) run) h in
      rw (two.0, no_notes c run off) (run_without_notes run off two.1)

  run_parts : (c : ℕ) (run : List ℕ) → is_run to (c ∷ run) ≡ true
      → (is_raw to c ≡ true) × (is_before_note to c run ≡ false) × (is_run to run ≡ true)
  run_parts c run h =
      let one = and_parts (is_raw to c) (not (is_before_note to c run) && is_run to run) h in
      let two = and_parts (not (is_before_note to c run)) (is_run to run) one.1 in
      (one.0, not-true (is_before_note to c run) two.0, two.1)

  -- a run that ends before a note
  pub run_note : (run rest : List ℕ) → ends_before_note to run rest ≡ true
      → (to.notes ≡ true) × (begins is_comment_mark rest ≡ true)
  run_note [] rest h = cc
  run_note (c ∷ []) rest h = let three = note_parts c rest h in (three.0, three.2)
  run_note (c ∷ d ∷ run) rest h = run_note (d ∷ run) rest h

-- a row without source has no value
pub empty_row : {e : Backslash} {ends : Ends} {s v : List ℕ} → Row e ends s v → s ≡ [] → v ≡ []
empty_row Row.none h = refl
empty_row (Row.raw begins inside no_note row) h = cc
empty_row (Row.escape sp EscapeSequence.folded row) h = cc
empty_row (Row.escape sp (EscapeSequence.named on is) row) h = cc
empty_row (Row.escape sp (EscapeSequence.coded on is) row) h = cc
empty_row (Row.escape sp (EscapeSequence.itself on n m is) row) h = cc
empty_row (Row.escape sp (EscapeSequence.kept off n) row) h = cc

-- a stop within an escape begins with its backslash
no_mark_in_stop : {p s : List ℕ} {k : ParseKind} → EscapeStops p s k → (r : List ℕ)
    → begins is_comment_mark (p ++ r) ≡ false
no_mark_in_stop (EscapeStops.cut_short units few) r = refl
no_mark_in_stop (EscapeStops.cut_in_unit units few) r = refl
no_mark_in_stop (EscapeStops.broken units few other) r = refl
no_mark_in_stop (EscapeStops.unknown units four none) r = refl

module _ (b : Backslash) (to : Ends) where
  no_control : (c x v : ℕ) → control x ≡ None → control c ≡ Some v → c ≢ x
  no_control c x v n h q = let z = subst (λ y. control y ≡ Some v) q h in cc

  piece-escape : {p w : List ℕ} → is_special b ≡ true → EscapeSequence (reads_escapes b) p w
      → (t : List ℕ) → piece b to (p ++ t) ≡ more w t
  unfolding coded_character
  piece-escape sp EscapeSequence.folded t = rw sp refl
  piece-escape sp (EscapeSequence.named {c} {v} on h) t =
      rw (sp, ne_eqb c 120 (no_control c 120 v refl h), ne_eqb c 10 (no_control c 10 v refl h), on, h)
  piece-escape sp (EscapeSequence.coded {a} {b = e} {c} {d} {v} on h) t =
      rw (sp, on, units-found (spelled-Units a e c d v h) 4 0 t (omega arith), h)
  piece-escape sp (EscapeSequence.itself {c} on n m h) t = rw (sp, ne_eqb c 120 m, ne_eqb c 10 n, on, h)
  piece-escape sp (EscapeSequence.kept {c} off n) t = rw (sp, ne_eqb c 10 n, off, and-false)

  piece-stops : {p r : List ℕ} {k : ParseKind} → reads_escapes b ≡ true → EscapeStops p r k
      → piece b to (p ++ r) ≡ ends (stopped r k)
  unfolding coded_character
  piece-stops on (EscapeStops.cut_short {us = us} x l) =
      rw (escape-special b on, on, units-found x 4 (suc (3 - length us)) [] (omega arith))
  piece-stops on (EscapeStops.cut_in_unit {u} {us} x l) =
      rw (
        append_assoc u,
        escape-special b on,
        on,
        units-found x 4 (suc (3 - length us)) (backslash ∷ []) (omega arith),
      )
  piece-stops on (EscapeStops.broken {u} {r} {us} {c} x l n) =
      rw (
        append_assoc u,
        escape-special b on,
        on,
        units-found x 4 (suc (3 - length us)) (backslash ∷ c ∷ r) (omega arith),
        ne_eqb c 10 n,
      )
  piece-stops on (EscapeStops.unknown {u} {r} {us} x four h) =
      rw (escape-special b on, on, units-found x 4 0 r (omega arith), append-nil us, h)

  abbrev PieceSays : List ℕ → Step ℕ → Type 0
  PieceSays t x = StepSays (Str b to) (StrStops b to) t x

  -- a piece before a string
  Str-raw : {c : ℕ} {s r v : List ℕ} → begins_escape b c ≡ false → is_endpoint to c ≡ false
      → is_before_note to c s ≡ false → Str b to s r v → Str b to (c ∷ s) r (c ∷ v)
  Str-raw n h q (Str.closed x closes) = Str.closed (Row.raw n h q x) closes
  Str-raw {c} n h q (Str.before_note {s} d x m k e) =
      Str.before_note d (Row.raw n h (no_note_before to c s (d ∷ []) q) x) m k e
  Str-raw {c} n h q (Str.lone {s} sp x text) =
      Str.lone sp (Row.raw n h (no_note_before to c s (backslash ∷ []) q) x) text

  Str-escape : {p w s r v : List ℕ} → is_special b ≡ true → EscapeSequence (reads_escapes b) p w
      → Str b to s r v → Str b to (p ++ s) r (w ++ v)
  Str-escape sp k (Str.closed x closes) = Str.closed (Row.escape sp k x) closes
  Str-escape {p} {w} {r = r} sp k (Str.before_note {s} {v = v} d x m h e) =
      subst₂ (λ y z. Str b to y r z) (append_assoc p s (d ∷ [])) (append_assoc w v (d ∷ []))
      (Str.before_note d (Row.escape sp k x) m h e)
  Str-escape {p} {w} sp k (Str.lone {s} {v} _ x text) =
      subst₂ (λ y z. Str b to y [] z) (append_assoc p s (backslash ∷ [])) (append_assoc w v (backslash ∷ []))
      (Str.lone sp (Row.escape sp k x) text)

  StrStops-raw : {c : ℕ} {s r : List ℕ} {k : ParseKind} → begins_escape b c ≡ false
      → is_endpoint to c ≡ false → is_before_note to c s ≡ false → StrStops b to s r k
      → StrStops b to (c ∷ s) r k
  StrStops-raw n h q (StrStops.at_end x text) = StrStops.at_end (Row.raw n h q x) text
  StrStops-raw {c} n h q (StrStops.after_backslash {s} sp x text) =
      StrStops.after_backslash sp (Row.raw n h (no_note_before to c s (backslash ∷ []) q) x) text
  StrStops-raw {c} n h q (StrStops.in_escape {s} {p = p} x on stop) =
      StrStops.in_escape (Row.raw n h (no_note_before to c s p q) x) on stop

  StrStops-escape : {p w s r : List ℕ} {kind : ParseKind} → is_special b ≡ true
      → EscapeSequence (reads_escapes b) p w → StrStops b to s r kind → StrStops b to (p ++ s) r kind
  StrStops-escape sp k (StrStops.at_end x text) = StrStops.at_end (Row.escape sp k x) text
  StrStops-escape {p} sp k (StrStops.after_backslash {s} _ x text) =
      subst (λ y. StrStops b to y [] EndOfText) (append_assoc p s (backslash ∷ []))
      (StrStops.after_backslash sp (Row.escape sp k x) text)
  StrStops-escape {p} sp k (StrStops.in_escape {s} {p = q} {r} {kind} x on stop) =
      subst (λ y. StrStops b to y r kind) (append_assoc p s q)
      (StrStops.in_escape (Row.escape sp k x) on stop)

  raw-following : (c : ℕ) → begins_escape b c ≡ false → is_endpoint to c ≡ false → (t : List ℕ)
      → is_before_note to c t ≡ false → (a : Answer ℕ) → StringSays b to t a
      → StringSays b to (c ∷ t) (prepend (c ∷ []) a)
  raw-following c n h t q (found v r) (s, str, whole) =
      let none = no_note_before to c s r (subst (λ y. is_before_note to c y ≡ false) (sym whole) q) in
      (c ∷ s, Str-raw n h none str, ap (λ y. c ∷ y) whole)
  raw-following c n h t q (stopped r k) (s, stop, whole) =
      let none = no_note_before to c s r (subst (λ y. is_before_note to c y ≡ false) (sym whole) q) in
      (c ∷ s, StrStops-raw n h none stop, ap (λ y. c ∷ y) whole)

  escaped : {p w : List ℕ} (r : List ℕ) → is_special b ≡ true → EscapeSequence (reads_escapes b) p w
      → length r < length (p ++ r)
      → PieceSays (p ++ r) (more w r)
  escaped {p} {w} r sp k l = (
    l,
    prefixed p w r (λ s x v str. Str-escape sp k str) (λ s x kind stop. StrStops-escape sp k stop),
  )

  character-sound : {u : List ℕ} {us : List (Option ℕ)} (r : List ℕ) → reads_escapes b ≡ true → Units u us
      → length us ≡ 4 → (o : Option ℕ) → spelled_by us ≡ o
      → PieceSays (backslash ∷ letter_x ∷ (u ++ r)) (as_step (character o r))
  character-sound {u} r on x four (Some v) q =
      escaped r (escape-special b on)
      (subst (λ e. EscapeSequence e (backslash ∷ letter_x ∷ u) (v ∷ [])) (sym on)
      (spelled-EscapeSequence x v q)) (omega (arith, length-append u r))
  character-sound {u} r on x four None q =
      (backslash ∷ letter_x ∷ u, StrStops.in_escape Row.none on (EscapeStops.unknown x four q), refl)

  spelled_character-sound : reads_escapes b ≡ true → (t : List ℕ) (a : Answer (Option ℕ)) → UnitsSay t a
      → PieceSays (backslash ∷ letter_x ∷ t) (as_step (spelled_character a))
  spelled_character-sound on t (found us r) (u, x, four, h) =
      subst (λ y. PieceSays (backslash ∷ letter_x ∷ y) (as_step (spelled_character (found us r)))) h
      (character-sound r on x four (spelled_by us) refl)
  spelled_character-sound on t (stopped r k) (u, x, h) =
      (backslash ∷ letter_x ∷ u, StrStops.in_escape Row.none on x, ap (λ y. backslash ∷ letter_x ∷ y) h)

  escape-sound : is_special b ≡ true → (t : List ℕ)
      → PieceSays (backslash ∷ t) (escape (reads_escapes b) to t)
  unfolding coded_character
  escape-sound sp [] = cond_both to.text _ _ (λ a. PieceSays t (ends a))
      (λ h. (t, Str.lone sp Row.none h, refl))
      (λ h. (t, StrStops.after_backslash sp Row.none h, refl))
    where
      t : List ℕ
      t = backslash ∷ []
  escape-sound sp (c ∷ cs) = elim (cases_Bool (c == letter_x && reads_escapes b)) [
    | inl q ↦
        let two = and_parts (c == letter_x) (reads_escapes b) q in
        rw (q, eqb-true c 120 two.0)
        (spelled_character-sound two.1 cs (units 4 cs)
        (subst (UnitsSay cs) (prepend-nil (units 4 cs)) (units-sound 4 Units.none refl cs)))
    | inr n ↦ rw n (escaped cs sp (escape_of (reads_escapes b) c n) (omega arith))
  ]

  piece-sound : (t : List ℕ) → PieceSays t (piece b to t)
  piece-sound [] = cond_both to.text _ _ (λ a. PieceSays [] (ends a))
      (λ h. ([], Str.closed Row.none h, refl)) (λ h. ([], StrStops.at_end Row.none h, refl))
  piece-sound (c ∷ cs) = elim (cases_Bool (begins_escape b c)) [
    | inl q ↦
        let two = and_parts (c == backslash) (is_special b) q in
        rw (q, eqb-true c 92 two.0) (escape-sound two.1 cs)
    | inr n ↦ elim (cases_Bool (is_endpoint to c)) [
      | inl h ↦ rw (n, h) ([], Str.closed Row.none h, refl)
      | inr h ↦ elim (cases_Bool (is_before_note to c cs)) [
        | inl e ↦ rw (n, h, e) (c ∷ [], Str.before_note c Row.none n h e, refl)
        | inr e ↦ rw (n, h, e) (omega arith, raw-following c n h cs e)
      ]
    ]
  ]

  -- a string's first piece
  string-turn : (t : List ℕ) → string b to t ≡ go_on (string b to) (piece b to t)
  unfolding string
  string-turn t = turn (Str b to) (StrStops b to) (piece b to) piece-sound t

  -- before what begins no note
  Row-read : {s v : List ℕ} → Row b to s v → (r : List ℕ) → begins is_comment_mark r ≡ false
      → string b to (s ++ r) ≡ prepend v (string b to r)
  Row-read Row.none r none = sym (prepend-nil (string b to r))
  Row-read (Row.raw {c} {s} {v} n h q x) r none =
      string-turn (c ∷ (s ++ r))
      ∙ rw (n, h, no_note_between to c s r q none)
      (ap (prepend (c ∷ [])) (Row-read x r none) ∙ prepend-prepend (c ∷ []) v (string b to r))
  Row-read (Row.escape {p} {w} {s} {v} sp k x) r none =
      ap (string b to) (append_assoc p s r) ∙ string-turn (p ++ (s ++ r))
      ∙ ap (go_on (string b to)) (piece-escape sp k (s ++ r))
      ∙ ap (prepend w) (Row-read x r none) ∙ prepend-prepend w v (string b to r)

  -- characters that stand for themselves, of which a note follows the last or doesn't
  run_goes_on : (run rest : List ℕ) → is_run to run ≡ true → ends_before_note to run rest ≡ false
      → string b to (run ++ rest) ≡ prepend run (string b to rest)
  run_goes_on [] rest h e = sym (prepend-nil (string b to rest))
  run_goes_on (c ∷ []) rest h e =
      let plain = plain_parts b to c (run_parts to c [] h).0 in
      string-turn (c ∷ rest) ∙ rw (plain.0, plain.1, e) refl
  run_goes_on (c ∷ d ∷ run) rest h e =
      let three = run_parts to c (d ∷ run) h in
      let plain = plain_parts b to c three.0 in
      string-turn (c ∷ d ∷ (run ++ rest)) ∙ rw (plain.0, plain.1, three.1)
      (ap (prepend (c ∷ [])) (run_goes_on (d ∷ run) rest three.2 e)
      ∙ prepend-prepend (c ∷ []) (d ∷ run) (string b to rest))

  run_before_note : (run rest : List ℕ) → is_run to run ≡ true → ends_before_note to run rest ≡ true
      → string b to (run ++ rest) ≡ found run rest
  run_before_note [] rest h e = cc
  run_before_note (c ∷ []) rest h e =
      let plain = plain_parts b to c (run_parts to c [] h).0 in
      string-turn (c ∷ rest) ∙ rw (plain.0, plain.1, e) refl
  run_before_note (c ∷ d ∷ run) rest h e =
      let three = run_parts to c (d ∷ run) h in
      let plain = plain_parts b to c three.0 in
      string-turn (c ∷ d ∷ (run ++ rest)) ∙ rw (plain.0, plain.1, three.1)
      (ap (prepend (c ∷ [])) (run_before_note (d ∷ run) rest three.2 e))

  pub string_run : {t : List ℕ} (run rest : List ℕ) → t ≡ run ++ rest → is_run to run ≡ true
      → begins is_comment_mark rest ≡ false → string b to t ≡ prepend run (string b to rest)
  string_run run rest whole h none =
      ap (string b to) whole ∙ run_goes_on run rest h (false_from_ne_true (ends_before_note to run rest)
      (λ note. both_ways (begins is_comment_mark rest) none (run_note to run rest note).1))

  pub run_to_end : {t : List ℕ} (run rest : List ℕ) → t ≡ run ++ rest → is_run to run ≡ true → rest ≡ []
      → string b to t ≡ prepend run (string b to rest)
  run_to_end run rest whole h none = string_run run rest whole h (rw none refl)

  pub run_to_backslash : {t cs : List ℕ} {c : ℕ} (run rest : List ℕ) → t ≡ run ++ rest → is_run to run ≡ true
      → rest ≡ c ∷ cs → c ≡ backslash → string b to t ≡ prepend run (string b to rest)
  run_to_backslash run rest whole h first is = string_run run rest whole h (rw (first, is) refl)

  pub string_run_without_notes : {t : List ℕ} (run rest : List ℕ) → t ≡ run ++ rest → to.notes ≡ false
      → list_all (is_raw to) run ≡ true → string b to t ≡ prepend run (string b to rest)
  string_run_without_notes run rest whole off h =
      ap (string b to) whole ∙ run_goes_on run rest (run_without_notes to run off h)
      (false_from_ne_true (ends_before_note to run rest)
      (λ note. both_ways to.notes off (run_note to run rest note).0))

  pub string_at_end : {t : List ℕ} {text : Bool} → t ≡ [] → text ≡ to.text
      → string b to t ≡ (if text then found [] t else stopped t EndOfText)
  string_at_end none is = rw (none, is) (string-turn [])

  pub string_at_endpoint : {t cs : List ℕ} {c : ℕ} → t ≡ c ∷ cs → c ≢ backslash
      → BeginsWithNo (is_raw to) t → string b to t ≡ found [] t
  string_at_endpoint {cs = cs} {c} is n closes =
      let other : is_endpoint to c ≡ true =
      not-false (is_endpoint to c) (rw (is, ne_eqb c 92 n) at closes) in
      rw is (string-turn (c ∷ cs) ∙ rw (ne_eqb c 92 n, other))

  -- the whole string, where no backslash and no end of the text follows the run
  pub string_ends : {t cs : List ℕ} {c : ℕ} (run rest : List ℕ) → t ≡ run ++ rest → is_run to run ≡ true
      → EndsRun to run rest → rest ≡ c ∷ cs → c ≢ backslash → string b to t ≡ found run rest
  string_ends run rest whole h stops is n = elim (cases_Bool (ends_before_note to run rest)) [
    | inl note ↦ ap (string b to) whole ∙ run_before_note run rest h note
    | inr none ↦
        let closes : BeginsWithNo (is_raw to) rest = elim stops
        [ inl closes ↦ closes | inr note ↦ absurd (both_ways (ends_before_note to run rest) none note) ] in
        and_found run (ap (string b to) whole ∙ run_goes_on run rest h none)
        (string_at_endpoint is n closes) (sym (append-nil run))
  ]

  -- a backslash that is a character like any other
  pub string_raw_backslash : {t cs : List ℕ} {c : ℕ} → is_special b ≡ false
      → is_endpoint to backslash ≡ false
      → t ≡ c ∷ cs → c ≡ backslash → string b to t ≡ prepend (backslash ∷ []) (string b to cs)
  string_raw_backslash {cs = cs} off apart first is =
      rw (first, is) (string-turn (backslash ∷ cs) ∙ rw (off, apart, no_blank to backslash cs refl) refl)

  pub string_at_backslash : {t cs : List ℕ} {c : ℕ} {text : Bool} → is_special b ≡ true → t ≡ c ∷ cs
      → c ≡ backslash → cs ≡ [] → text ≡ to.text
      → string b to t ≡ (if text then found (backslash ∷ []) cs else stopped cs EndOfText)
  string_at_backslash sp first at none is =
      rw (first, at, none, is) (string-turn (backslash ∷ []) ∙ rw sp)

  -- a backslash and the character after it
  pub string_pair : {t cs ds : List ℕ} {c d : ℕ} → is_special b ≡ true → t ≡ c ∷ cs → c ≡ backslash
      → cs ≡ d ∷ ds → (d == letter_x && reads_escapes b) ≡ false
      → string b to t ≡ prepend (value_after_backslash (reads_escapes b) d) (string b to ds)
  string_pair {ds = ds} {d = d} sp first at next other =
      rw (first, at, next) (string-turn (backslash ∷ d ∷ ds) ∙ rw (sp, other))

  pub string_coded : {t cs ds : List ℕ} {c d : ℕ} → t ≡ c ∷ cs → c ≡ backslash → cs ≡ d ∷ ds
      → reads_escapes b ≡ true → d ≡ letter_x
      → string b to t ≡ and_then (string b to) (coded_character ds)
  string_coded {ds = ds} first at next on x =
      rw (first, at, next, x) (string-turn (backslash ∷ letter_x ∷ ds)
      ∙ rw (escape-special b on, on) (goes_on (coded_character ds)))
    where
      goes_on : (a : Answer ℕ) → go_on (string b to) (as_step a) ≡ and_then (string b to) a
      goes_on (found v r) = refl
      goes_on (stopped r k) = refl

  pub coded_shortens : {t cs ds v r : List ℕ} {c d : ℕ} (w : List ℕ) → t ≡ c ∷ cs → c ≡ backslash
      → cs ≡ d ∷ ds → reads_escapes b ≡ true → d ≡ letter_x
      → prepend w (coded_character ds) ≡ found v r → length r < length t
  coded_shortens {t} {ds = ds} {r = r} w first at next on x h =
      let (u, read, grown) = read_after w (coded_character ds) h in
      let step : piece b to t ≡ more u r =
      rw (first, at, next, x, escape-special b on, on) (ap as_step read) in
      shortens (Str b to) (StrStops b to) (piece b to) piece-sound step

  module _ (apart : is_endpoint to backslash ≡ false) where
    closed : (r : List ℕ) → Closes to r → string b to r ≡ found [] r
    closed [] h = string_at_end refl (sym h)
    closed (c ∷ r) h =
        string-turn (c ∷ r)
        ∙ rw (
          ne_eqb c 92 (λ q. let z = subst (λ y. is_endpoint to y ≡ true) q h in true≢false (sym z ∙ apart)),
          h,
        )

    -- a row before what closes it
    closed_row : {s v : List ℕ} → Row b to s v → (r : List ℕ) → Closes to r
        → string b to (s ++ r) ≡ found v r
    closed_row Row.none r closes = closed r closes
    closed_row (Row.raw {c} {s} {v} n h q x) r closes = elim (cases_Bool (is_before_note to c (s ++ r))) [
      | inl note ↦
          let none : s ≡ [] = no_source c s r q note in
          string-turn (c ∷ (s ++ r)) ∙ rw (n, h, note)
          (ap (λ y. found (c ∷ []) (y ++ r)) none ∙ ap (λ y. found (c ∷ y) r) (sym (empty_row x none)))
      | inr other ↦
          string-turn (c ∷ (s ++ r)) ∙ rw (n, h, other) (ap (prepend (c ∷ [])) (closed_row x r closes))
    ]
      where
        no_source : (c : ℕ) (s r : List ℕ) → is_before_note to c s ≡ false
            → is_before_note to c (s ++ r) ≡ true → s ≡ []
        no_source c [] r q note = refl
        no_source c (d ∷ s) r q note = absurd (both_ways (is_before_note to c (d ∷ s)) q note)
    closed_row (Row.escape {p} {w} {s} {v} sp k x) r closes =
        ap (string b to) (append_assoc p s r) ∙ string-turn (p ++ (s ++ r))
        ∙ ap (go_on (string b to)) (piece-escape sp k (s ++ r)) ∙ ap (prepend w) (closed_row x r closes)

    pub string-reads : IsReader (Str b to) (StrStops b to) (string b to)
    unfolding string
    string-reads = record {
      sound = reads (Str b to) (StrStops b to) (piece b to) piece-sound;
      finds = finds;
      stops = stops;
    }
      where
        finds : {s r v : List ℕ} → Str b to s r v → string b to (s ++ r) ≡ found v r
        finds {r = r} (Str.closed x h) = closed_row x r h
        finds {r = r} (Str.before_note {s} {v = v} c x n h e) =
            rw (append_assoc s) (and_found v (Row-read x (c ∷ r) (blank_no_mark c (note_parts to c r e).1))
            (string-turn (c ∷ r) ∙ rw (n, h, e) refl) refl)
        finds (Str.lone {s} {v} sp x h) =
            rw (append_assoc s) (and_found v (Row-read x (backslash ∷ []) refl)
            (string_at_backslash sp refl refl refl (sym h)) refl)

        stops : {s r : List ℕ} {k : ParseKind} → StrStops b to s r k → string b to (s ++ r) ≡ stopped r k
        stops (StrStops.at_end {v = v} x h) = and_stopped v (Row-read x [] refl) (string_at_end refl (sym h))
        stops (StrStops.after_backslash {s} {v} sp x h) =
            rw (append_assoc s) (and_stopped v (Row-read x (backslash ∷ []) refl)
            (string_at_backslash sp refl refl refl (sym h)))
        stops (StrStops.in_escape {s} {v} {p} {r} x on h) =
            rw (append_assoc s) (and_stopped v (Row-read x (p ++ r) (no_mark_in_stop h r))
            (string-turn (p ++ r) ∙ ap (go_on (string b to)) (piece-stops on h)))
