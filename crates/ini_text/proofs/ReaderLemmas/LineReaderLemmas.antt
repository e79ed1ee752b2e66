-- Reading a line by its quoted parts and its plain part: the reader finds what the grammar says, and the
-- code gives it.
use Rattle.std.proofs.Common.{◌≡◌, ◌⊎◌, ℕ, Bool, true, false, true≢false, ◌&&◌, ◌||◌, not, List, [], ◌∷◌}
use Rattle.std.proofs.Common.{◌++◌, ◌<◌, length, drop, Some, None, inl, inr, refl, sym, ap, ◌∙◌, subst}
use Rattle.std.proofs.Common.{append_assoc, append-nil, length-append, arith, ne_eqb, eqb-true}
use Rattle.std.proofs.Math.Bool.{and-false, or-false}
use Rattle.std.proofs.lemmas.Bool.{both_ways, cases_Bool, and_parts, false_from_ne_true}
use Rattle.ini_text.specs.Options.Backslashes.{Backslash}
use Rattle.ini_text.specs.Options.ReadOptions.{backslash_of}
use Rattle.ini_text.specs.declared.option.ParseOption.{ParseOption}
use Rattle.ini_text.specs.declared.error.ParseKind.{ParseKind}
use Rattle.ini_text.specs.Grammar.CharacterKinds.{begins, is_comment_mark, is_line_end, is_quote_mark}
use Rattle.ini_text.specs.Grammar.Strings.{Closes, Ends, quote_ends, plain_ends, noted, Str, StrStops}
use Rattle.ini_text.specs.Grammar.Lines.{Quoted, BeginsPlain, plain_value, Line, LineStops, LineTail}
use Rattle.ini_text.specs.Grammar.Lines.{LineText, Note}
use Rattle.ini_text.specs.Inside.LineReader.{quote_at, opens_quote, after_quoted, part, parts, plain_part}
use Rattle.ini_text.specs.Inside.LineReader.{line, line_text, past_note, without_note}
use Rattle.ini_text.specs.Inside.Reading.{Answer, found, stopped, prepend, altered_answer, and_then, Step}
use Rattle.ini_text.specs.Inside.Reading.{more, go_on}
use Rattle.ini_text.specs.Inside.Scans.{is_line_part, run_of, trimmed_at}
use Rattle.ini_text.specs.Inside.StringReader.{string}
use Rattle.ini_text.proofs.ReaderLemmas.ReaderLemmas.{and_found, and_stopped, prepend-nil, prepend-prepend}
use Rattle.ini_text.proofs.ReaderLemmas.ReaderLemmas.{then_found, then_stopped, stopped_after, read_after}
use Rattle.ini_text.proofs.ReaderLemmas.ReaderLemmas.{Says, IsReader, StepSays, turn, shortens, reads}
use Rattle.ini_text.proofs.GrammarLemmas.KindLemmas.{comment_mark-in_line}
use Rattle.ini_text.proofs.ReaderLemmas.KeyReaderLemmas.{str_ends}
use Rattle.ini_text.proofs.ReaderLemmas.NoteLemmas.{note_at, note_read, past_mark}
use Rattle.ini_text.proofs.ReaderLemmas.RunReaderLemmas.{run-sound}
use Rattle.ini_text.proofs.ReaderLemmas.StringReaderLemmas.{StringSays, string-reads}

-- what follows a string in quotes begins with their mark, and the string ends so before any text
closed_by_mark : {e : Backslash} {m : ℕ} {s r v : List ℕ} → Str e (quote_ends m) s r v
    → (t : List ℕ) × (r ≡ m ∷ t) × Str e (quote_ends m) s (m ∷ []) v
closed_by_mark {r = []} (Str.closed row h) = cc
closed_by_mark {e} {m = m} {s = s} {r = d ∷ r} {v = v} (Str.closed row h) =
    let same : d ≡ m = eqb-true d m (rw or-false at h) in
    (r, ap (λ x. x ∷ r) same, subst (λ x. Str e (quote_ends m) s (x ∷ []) v) same (Str.closed row h))
closed_by_mark (Str.before_note c row n h note) = cc
closed_by_mark (Str.lone sp row h) = cc

-- a string before its mark
Str-before : {e : Backslash} {m : ℕ} {s v r : List ℕ} (t : List ℕ) → Str e (quote_ends m) s (m ∷ r) v
    → Str e (quote_ends m) s (m ∷ t) v
Str-before t (Str.closed k h) = Str.closed k h
Str-before t (Str.before_note c k n h note) = cc

abbrev pub TextSays : ParseOption → Bool → List ℕ → Answer ℕ → Type 0
TextSays o first t a = Says (LineText o first) (LineStops o) t a

abbrev pub LineSays : ParseOption → Bool → List ℕ → Answer ℕ → Type 0
LineSays o first t a = Says (Line o first) (LineStops o) t a

-- what follows a line's text: what closes the line, or, with inline comments, a note
abbrev pub TextEnds : ParseOption → List ℕ → Type 0
TextEnds o r = Closes plain_ends r ⊎ ((o.enabled_inline_comment ≡ true) × (begins is_comment_mark r ≡ true))

pub text_ends : {o : ParseOption} {first : Bool} {s r v : List ℕ} → LineText o first s r v → TextEnds o r
text_ends (LineText.text quoted plain str) = str_ends str

-- what closes a line begins no note
pub closes_no_mark : (r : List ℕ) → Closes plain_ends r → begins is_comment_mark r ≡ false
closes_no_mark [] h = refl
closes_no_mark (c ∷ r) h =
    false_from_ne_true (is_comment_mark c)
    (λ mark. both_ways (is_line_end c) (comment_mark-in_line c mark).0 (rw or-false at h))

module _ (o : ParseOption) where
  quote-reads : (m : ℕ) → is_quote_mark m ≡ true
      → IsReader (Str (backslash_of o) (quote_ends m)) (StrStops (backslash_of o) (quote_ends m))
      (string (backslash_of o) (quote_ends m))
  quote-reads m h = string-reads (backslash_of o) (quote_ends m)
      (rw (ne_eqb 92 m (λ q. let z = subst (λ x. is_quote_mark x ≡ true) (sym q) h in cc)) refl)

  pub plain-reads : IsReader (Str (backslash_of o) (noted o plain_ends))
      (StrStops (backslash_of o) (noted o plain_ends)) (string (backslash_of o) (noted o plain_ends))
  plain-reads = string-reads (backslash_of o) (noted o plain_ends) refl

  opens_none : (t : List ℕ) → BeginsPlain o t → quote_at o t ≡ None
  opens_none [] h = refl
  opens_none (c ∷ cs) h = elim (cases_Bool o.enabled_quote)
      [ inl on ↦ rw (on, h on) refl | inr off ↦ rw off refl ]

  -- the quoted parts before the plain part, and a stop among them
  abbrev Parts : List ℕ → List ℕ → List ℕ → Type 0
  Parts s r w = Quoted o s w (opens_quote o (s ++ r)) × BeginsPlain o r

  data PartsStop : List ℕ → List ℕ → ParseKind → Type 0 where
    stop : {q w s r : List ℕ} {quoted : Bool} {m : ℕ} {kind : ParseKind} → Quoted o q w quoted
        → o.enabled_quote ≡ true → is_quote_mark m ≡ true
        → StrStops (backslash_of o) (quote_ends m) s r kind → PartsStop (q ++ m ∷ s) r kind

  abbrev PartSays : List ℕ → Step ℕ → Type 0
  PartSays t x = StepSays Parts PartsStop t x

  -- after a quoted part
  following : {m : ℕ} {s v : List ℕ} → o.enabled_quote ≡ true → is_quote_mark m ≡ true
      → Str (backslash_of o) (quote_ends m) s (m ∷ []) v
      → (r : List ℕ) (a : Answer ℕ) → Says Parts PartsStop r a
      → Says Parts PartsStop (m ∷ (s ++ m ∷ r)) (prepend v a)
  following {m} {s} {v} on mark str r (found w x) (q, (quoted, plain), h) =
      let opens : opens_quote o ((m ∷ (s ++ m ∷ q)) ++ x) ≡ true = rw (on, mark) refl in (
        m ∷ (s ++ m ∷ q),
        (
          subst (Quoted o (m ∷ (s ++ m ∷ q)) (v ++ w)) (sym opens)
              (Quoted.part on mark str quoted),
          plain,
        ),
        simp (append_assoc, h),
      )
  following {m} {s} {v} on mark str r (stopped x k)
      (_, PartsStop.stop {q} {w} {s = p} {m = n} quoted on' mark' stops, h) =
      let whole : q ++ n ∷ (p ++ x) ≡ r = simp append_assoc at h in (
        (m ∷ (s ++ m ∷ q)) ++ n ∷ p,
        PartsStop.stop (Quoted.part on mark str quoted) on' mark' stops,
        simp (append_assoc, whole),
      )

  following-sound : (m : ℕ) (t : List ℕ) → o.enabled_quote ≡ true → is_quote_mark m ≡ true → (a : Answer ℕ)
      → StringSays (backslash_of o) (quote_ends m) t a
      → PartSays (m ∷ t) (after_quoted a)
  following-sound m t on mark (stopped r k) (s, stops, h) =
      (m ∷ s, PartsStop.stop Quoted.none on mark stops, ap (λ y. m ∷ y) h)
  following-sound m t on mark (found v r) (s, str, h) =
      let x = closed_by_mark str in
      let whole : s ++ m ∷ x.0 ≡ t = ap (λ y. s ++ y) (sym x.1) ∙ h in
      rw (x.1, ← whole) (omega (arith, length-append s (m ∷ x.0)), following on mark x.2 x.0)

  part-sound : (t : List ℕ) → PartSays t (part o t)
  part-sound [] = ([], (Quoted.none, λ on. tt), refl)
  part-sound (c ∷ cs) = elim (cases_Bool (o.enabled_quote && is_quote_mark c)) [
    | inl h ↦
        let test = and_parts o.enabled_quote (is_quote_mark c) h in
        rw h (following-sound c cs test.0 test.1 (string (backslash_of o) (quote_ends c) cs)
        ((quote-reads c test.1).sound cs))
    | inr h ↦ rw h ([], (rw h Quoted.none, λ on. rw on at h), refl)
  ]

  parts-sound : (t : List ℕ) → Says Parts PartsStop t (parts o t)
  unfolding parts
  parts-sound t = reads Parts PartsStop (part o) part-sound t

  -- a line, part by part
  parts-turn : (t : List ℕ) → parts o t ≡ go_on (parts o) (part o t)
  unfolding parts
  parts-turn t = turn Parts PartsStop (part o) part-sound t

  pub parts_end : (t : List ℕ) → quote_at o t ≡ None → parts o t ≡ found [] t
  parts_end t none = parts-turn t ∙ rw none

  following-mark : (a : Answer ℕ) → go_on (parts o) (after_quoted a) ≡ and_then (λ r. parts o (drop 1 r)) a
  following-mark (found v r) = refl
  following-mark (stopped r k) = refl

  module _ {after : List ℕ} {to : Ends} (t w : List ℕ) (opens : quote_at o t ≡ Some (to, after)) where
    part-turn : parts o t ≡ and_then (λ r. parts o (drop 1 r)) (string (backslash_of o) to after)
    part-turn = parts-turn t ∙ rw opens (following-mark (string (backslash_of o) to after))

    pub one_part : {v r : List ℕ} → prepend w (string (backslash_of o) to after) ≡ found v r
        → prepend w (parts o t) ≡ prepend v (parts o (drop 1 r))
    one_part h = ap (prepend w) part-turn ∙ then_found _ w _ h

    pub part_stops : {r : List ℕ} {k : ParseKind}
        → prepend w (string (backslash_of o) to after) ≡ stopped r k → prepend w (parts o t) ≡ stopped r k
    part_stops h = ap (prepend w) part-turn ∙ then_stopped _ w _ h

    pub part_shortens : {v r : List ℕ} → prepend w (string (backslash_of o) to after) ≡ found v r
        → length (drop 1 r) < length t
    part_shortens {r = r} h =
        let (u, read, grown) = read_after w (string (backslash_of o) to after) h in
        let step : part o t ≡ more u (drop 1 r) = rw opens (ap after_quoted read) in
        shortens Parts PartsStop (part o) part-sound step

  pub line_plain : (t : List ℕ) → quote_at o t ≡ None
      → line_text o true t ≡ altered_answer (trimmed_at true)
      (string (backslash_of o) (noted o plain_ends) t)
  unfolding line_text
  line_plain t none = rw (parts_end t none, none) (prepend-nil _)

  Quoted-read : {q w : List ℕ} {quoted : Bool} → Quoted o q w quoted → (r : List ℕ)
      → parts o (q ++ r) ≡ prepend w (parts o r)
  Quoted-read Quoted.none r = sym (prepend-nil (parts o r))
  Quoted-read (Quoted.part {m} {s} {v} {q} {w} on mark str k) r =
      let whole : (m ∷ (s ++ m ∷ q)) ++ r ≡ m ∷ (s ++ m ∷ (q ++ r)) =
      ap (λ y. m ∷ y) (append_assoc s (m ∷ q) r) in
      let opens : quote_at o (m ∷ (s ++ m ∷ (q ++ r))) ≡ Some (quote_ends m, s ++ m ∷ (q ++ r)) =
      rw (on, mark) refl in
      let read = (quote-reads m mark).finds (Str-before (q ++ r) str) in
      ap (parts o) whole ∙ part-turn _ w opens ∙ ap (and_then (λ x. parts o (drop 1 x))) read
      ∙ ap (prepend v) (Quoted-read k r) ∙ prepend-prepend v w (parts o r)

  Quoted-opens : {q w : List ℕ} {quoted : Bool} → Quoted o q w quoted → (r : List ℕ) → BeginsPlain o r
      → opens_quote o (q ++ r) ≡ quoted
  Quoted-opens Quoted.none r plain = rw (opens_none r plain)
  Quoted-opens (Quoted.part on mark str k) r plain = rw (on, mark) refl

  -- a note after a line's text
  pub tail_read : (n r : List ℕ) → LineTail n r → TextEnds o (n ++ r) → past_note o (n ++ r) ≡ r
  tail_read [] r (LineTail.none closes) follows = rw (closes_no_mark r closes, and-false) refl
  tail_read [] r (LineTail.note none) follows = elim none [ ]
  tail_read (m ∷ n) r (LineTail.note (Note.note mark all closes)) (inl ends) =
      absurd (both_ways (is_comment_mark m) (closes_no_mark (m ∷ (n ++ r)) ends) mark)
  tail_read (m ∷ n) r (LineTail.note (Note.note mark all closes)) (inr on) =
      rw (on.0, mark) (past_mark m (n ++ r) mark ∙ note_read {m = m} {s = n} (Note.note mark all closes))

  pub tail_at : (r : List ℕ) → TextEnds o r
      → (n : List ℕ) × LineTail n (past_note o r) × (n ++ past_note o r ≡ r)
  tail_at r (inl closes) = rw (closes_no_mark r closes, and-false) ([], LineTail.none closes, refl)
  tail_at [] (inr on) = absurd (true≢false (sym on.1))
  tail_at (m ∷ r) (inr on) =
      rw (on.0, on.1) (rw (past_mark m r on.1) (
        m ∷ run_of is_line_part r,
        LineTail.note (note_at m r on.1),
        ap (λ y. m ∷ y) (run-sound is_line_part r).whole,
      ))

  module _ (first : Bool) where
    plained-sound : {q w : List ℕ} {quoted : Bool} → Quoted o q w quoted → (r : List ℕ) → BeginsPlain o r
        → (a : Answer ℕ)
        → StringSays (backslash_of o) (noted o plain_ends) r a
        → TextSays o first (q ++ r) (prepend w (altered_answer (plain_value first quoted) a))
    plained-sound {q} quoted r plain (found v x) (p, str, h) = (
      q ++ p,
      LineText.text quoted (subst (BeginsPlain o) (sym h) plain) str,
      append_assoc q p x ∙ ap (λ y. q ++ y) h,
    )
    plained-sound {q} quoted r plain (stopped x k) (p, stops, h) = (
      q ++ p,
      LineStops.in_plain quoted (subst (BeginsPlain o) (sym h) plain) stops,
      append_assoc q p x ∙ ap (λ y. q ++ y) h,
    )

    line-by : (t : List ℕ) (a : Answer ℕ) → Says Parts PartsStop t a
        → TextSays o first t (and_then (plain_part o first (opens_quote o t)) a)
    line-by t (found w r) (q, (quoted, plain), h) =
        subst (λ y. TextSays o first y (and_then (plain_part o first (opens_quote o y)) (found w r))) h
        (plained-sound quoted r plain (string (backslash_of o) (noted o plain_ends) r) (plain-reads.sound r))
    line-by t (stopped r k) (_, PartsStop.stop {q} {s} {m} quoted on mark stops, h) =
        (q ++ m ∷ s, LineStops.in_quotes quoted on mark stops, h)

    pub line_text-reads : IsReader (LineText o first) (LineStops o) (line_text o first)
    unfolding line_text
    line_text-reads = record {
      sound = λ t. line-by t (parts o t) (parts-sound t);
      finds = finds;
      stops = stops;
    }
      where
        part_found : {q w : List ℕ} {quoted : Bool} → Quoted o q w quoted → (t : List ℕ) → BeginsPlain o t
            → parts o (q ++ t) ≡ found w t
        part_found {w = w} k t plain =
            and_found w (Quoted-read k t) (parts_end t (opens_none t plain)) (sym (append-nil w))

        finds : {s r v : List ℕ} → LineText o first s r v → line_text o first (s ++ r) ≡ found v r
        finds {r = r} (LineText.text {q} {w} {p} {v} {quoted} k plain str) =
            rw (
              append_assoc q,
              part_found k (p ++ r) plain,
              Quoted-opens k (p ++ r) plain,
              plain-reads.finds str,
            )

        stops : {s r : List ℕ} {kind : ParseKind} → LineStops o s r kind
            → line_text o first (s ++ r) ≡ stopped r kind
        stops (LineStops.in_quotes {q} {w} {s} {r} {m = m} k on mark str) =
            let opens : quote_at o (m ∷ (s ++ r)) ≡ Some (quote_ends m, s ++ r) = rw (on, mark) refl in
            let stop =
            part-turn (m ∷ (s ++ r)) w opens
            ∙ ap (and_then (λ x. parts o (drop 1 x))) ((quote-reads m mark).stops str) in
            rw (append_assoc q, and_stopped w (Quoted-read k (m ∷ (s ++ r))) stop)
        stops (LineStops.in_plain {q} {s} {r} k plain str) =
            rw (append_assoc q, part_found k (s ++ r) plain, plain-reads.stops str)

    without_note-sound : (t : List ℕ) (a : Answer ℕ) → TextSays o first t a
        → LineSays o first t (without_note o a)
    without_note-sound t (found v r) (s, read, h) =
        let (n, tail, whole) = tail_at r (text_ends read) in (
          s ++ n,
          Line.line (subst (λ y. LineText o first s y v) (sym whole) read) tail,
          append_assoc s n (past_note o r) ∙ ap (λ y. s ++ y) whole ∙ h,
        )
    without_note-sound t (stopped r k) h = h

    -- a whole line
    pub line-reads : IsReader (Line o first) (LineStops o) (line o first)
    line-reads = record {
      sound = λ t. without_note-sound t (line_text o first t) (line_text-reads.sound t);
      finds = finds;
      stops = λ {s} {r} stop. ap (without_note o) (line_text-reads.stops stop);
    }
      where
        finds : {s r v : List ℕ} → Line o first s r v → line o first (s ++ r) ≡ found v r
        finds (Line.line {t} {n} {r} {v} read tail) =
            ap (line o first) (append_assoc t n r) ∙ ap (without_note o) (line_text-reads.finds read)
            ∙ ap (found v) (tail_read n r tail (text_ends read))

  -- the plain part after the quoted parts
  module _ (first : Bool) (t rest old out : List ℕ)
      (read : prepend old (parts o t) ≡ prepend out (parts o rest)) (none : quote_at o rest ≡ None) where
    line-parts : (quoted : Bool)
        → prepend old (and_then (plain_part o first quoted) (parts o t))
        ≡ prepend out (plain_part o first quoted rest)
    line-parts quoted =
        then_found _ old _ (read ∙ ap (prepend out) (parts_end rest none)) ∙ rw (append-nil out)

    pub line_stops : {r : List ℕ} {k : ParseKind}
        → prepend out (string (backslash_of o) (noted o plain_ends) rest) ≡ stopped r k
        → prepend old (line_text o first t) ≡ stopped r k
    unfolding line_text
    line_stops h =
        line-parts (opens_quote o t)
        ∙ rw (stopped_after out (string (backslash_of o) (noted o plain_ends) rest) h)

    pub line_read : {new end v : List ℕ} (quoted : Bool) → opens_quote o t ≡ (quoted || opens_quote o rest)
        → string (backslash_of o) (noted o plain_ends) rest ≡ found v end
        → new ≡ out ++ trimmed_at (first && not quoted) v → prepend old (line_text o first t) ≡ found new end
    unfolding line_text
    line_read {end = end} quoted opens h grown =
        let is : opens_quote o t ≡ quoted = opens ∙ rw (none, or-false) in
        line-parts (opens_quote o t) ∙ rw (is, h) (ap (λ x. found x end) (sym grown))
