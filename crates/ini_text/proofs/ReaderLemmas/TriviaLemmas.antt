-- Trivia, by the character with which they begin, and rows of them.
use Rattle.std.proofs.Common.{◌≡◌, ◌≤◌, ◌<◌, ℕ, true, false, List, [], ◌∷◌, ◌++◌, length, refl, sym, ap, ◌∙◌}
use Rattle.std.proofs.Common.{subst, append_assoc, arith, length-append, inl, inr, eqb-true, Option, Some}
use Rattle.std.proofs.Common.{None, MatchOption, ◌&&◌, ◌==◌}
use Rattle.std.proofs.lemmas.Bool.{cases_Bool, and_parts, cond-true, cond-false, false≢true, not-false}
use Rattle.std.specs.Char.{is_whitespace}
use Rattle.std.specs.List.{list_all}
use Rattle.ini_text.specs.Grammar.CharacterKinds.{line_feed, begins, is_blank, is_comment_mark, is_line_end}
use Rattle.ini_text.specs.Grammar.CharacterKinds.{BeginsWithNo}
use Rattle.ini_text.specs.Grammar.Elements.{Gap, Element, may_have_note}
use Rattle.ini_text.specs.Grammar.Keys.{Indentation, begins_note}
use Rattle.ini_text.specs.Grammar.Lines.{Note}
use Rattle.ini_text.specs.Grammar.Positions.{starts_line, is_column_one}
use Rattle.ini_text.specs.Inside.ElementReader.{is_comment_part}
use Rattle.ini_text.specs.Inside.Scans.{is_line_part, run_of, skipped}
use Rattle.ini_text.specs.Inside.TriviaSearch.{past_end, past_first, past_line_end, after_line_feed}
use Rattle.ini_text.specs.Parsing.Fronts.{front_of, IsRest}
use Rattle.ini_text.specs.Parsing.Trivia.{IsTrivia, BeginsWithNoTrivia, AreTrivia, SkipsTrivia}
use Rattle.ini_text.specs.declared.option.ParseOption.{ParseOption}
use Rattle.ini_text.proofs.GrammarLemmas.KindLemmas.{comment_mark-apart, comment_mark-in_line}
use Rattle.ini_text.proofs.GrammarLemmas.KindLemmas.{line_end_no_blank}
use Rattle.ini_text.proofs.StringLemmas.FrontLemmas.{front_grows}
use Rattle.ini_text.proofs.ReaderLemmas.NoteLemmas.{no_mark_no_note, note_at, note_before, note_read}
use Rattle.ini_text.proofs.ReaderLemmas.NoteLemmas.{past_mark, some_note}
use Rattle.ini_text.proofs.ReaderLemmas.RunReaderLemmas.{run-finds, run-sound}

module _ (o : ParseOption) where
  -- what is left of a line is its end, or a note and its end; `after` follows that
  data EndsLine : List ℕ → List ℕ → Type 0 where
    bare : {c : ℕ} {after : List ℕ} → is_line_end c ≡ true → EndsLine (c ∷ after) after
    marked : {m c : ℕ} {s after : List ℕ} → o.enabled_indented_comment ≡ true → is_line_end c ≡ true
        → Note (m ∷ s) (c ∷ after) → EndsLine (m ∷ (s ++ c ∷ after)) after

  ends_line-finds : {t after : List ℕ} → EndsLine t after → past_line_end o t ≡ Some after
  ends_line-finds (EndsLine.bare {c} h) = rw (line_end_no_note c h, h) refl
    where
      line_end_no_note : (c : ℕ) → is_line_end c ≡ true → begins_note o c ≡ false
      line_end_no_note c h = elim (cases_Bool (is_comment_mark c)) [
        | inl mark ↦ absurd (false≢true (sym (comment_mark-in_line c mark).0 ∙ h))
        | inr n ↦ no_mark_no_note o c n
      ]
  ends_line-finds (EndsLine.marked {m} {c} {s} {after} on h (Note.note mark all closes)) =
      rw (on, mark, past_mark m (s ++ c ∷ after) mark, note_read {m = m} (Note.note mark all closes), h) refl

  no_blank_there : {t after : List ℕ} → EndsLine t after → BeginsWithNo is_blank t
  no_blank_there (EndsLine.bare {c} h) = line_end_no_blank c h
  no_blank_there (EndsLine.marked {m} on h (Note.note mark all closes)) = (comment_mark-apart m mark).0

  module _ (b : List ℕ) where
    -- the trivia with which a text begins
    data First : List ℕ → Type 0 where
      line : {w t after : List ℕ} → Indentation b w → EndsLine t after → First (w ++ t)
      note : {m c : ℕ} {s after : List ℕ} → may_have_note o b ≡ true → is_column_one b ≡ false
          → is_line_end c ≡ true → Note (m ∷ s) (c ∷ after) → First (m ∷ (s ++ c ∷ after))
      white : {c : ℕ} (t : List ℕ) → is_whitespace c ≡ true → (is_blank c ≡ true → starts_line b ≡ false)
          → First (c ∷ t)
      comment : {m : ℕ} (s t : List ℕ) → is_column_one b ≡ true → is_comment_mark m ≡ true
          → list_all is_comment_part s ≡ true → First (m ∷ (s ++ line_feed ∷ t))

    gap_first : {s x : List ℕ} (r : List ℕ) → Gap b s (0x61 ∷ x) → First (s ++ r)
    gap_first r (Gap.blank_line {w} c ind h) =
        subst First (sym (append_assoc w (c ∷ []) r)) (First.line ind (EndsLine.bare {after = r} h))
    gap_first r (Gap.white h n) = First.white r h n

    comment_first : {m : ℕ} (s r : List ℕ) → is_column_one b ≡ true → is_comment_mark m ≡ true
        → list_all is_comment_part s ≡ true → First ((m ∷ (s ++ line_feed ∷ [])) ++ r)
    comment_first {m} s r one mark all =
        subst (λ t. First (m ∷ t)) (sym (append_assoc s (line_feed ∷ []) r)) (First.comment s r one mark all)

    anywhere_first : {s : List ℕ} (r : List ℕ) → Element o b s (0x61 ∷ []) [] → First (s ++ r)
    anywhere_first r (Element.gap g) = gap_first r g
    anywhere_first r (Element.comment s one mark all) = comment_first s r one mark all
    anywhere_first r (Element.indented_comment on ind (Note.note mark all closes)) =
        absurd (false≢true closes)
    anywhere_first r (Element.note may late (Note.note mark all closes)) = absurd (false≢true closes)

    before_end_first : {s : List ℕ} {c : ℕ} (r : List ℕ) → is_line_end c ≡ true → Element o b s (c ∷ r) []
        → First (s ++ c ∷ r)
    before_end_first {c = c} r end (Element.gap (Gap.blank_line {w} d ind h)) =
        subst First (sym (append_assoc w (d ∷ []) (c ∷ r)))
        (First.line ind (EndsLine.bare {after = c ∷ r} h))
    before_end_first r end (Element.gap (Gap.before_header ind)) = absurd (false≢true end)
    before_end_first {c = c} r end (Element.gap (Gap.white h n)) = First.white (c ∷ r) h n
    before_end_first {c = c} r end (Element.comment s one mark all) = comment_first s (c ∷ r) one mark all
    before_end_first {c = c} r end
        (Element.indented_comment {w} on ind (Note.note {m} {s} mark all closes)) =
        subst First (sym (append_assoc w (m ∷ s) (c ∷ r)))
        (First.line ind (EndsLine.marked {after = r} on end (Note.note mark all closes)))
    before_end_first {c = c} r end (Element.note may late (Note.note {m} {s} mark all closes)) =
        First.note {after = r} may late end (Note.note mark all closes)

    first : {s : List ℕ} (r : List ℕ) → IsTrivia o b s → First (s ++ r)
    first r (IsTrivia.element e) = anywhere_first r (e (0x61 ∷ []))
    first r (IsTrivia.line {s} {c} end e) =
        subst First (sym (append_assoc s (c ∷ []) r)) (before_end_first r end (e r))

    -- the code finds them
    first-finds : {t : List ℕ} → First t → (after : List ℕ) × (past_first o b t ≡ Some after)
    first-finds (First.line {w = []} ind rest) = let none = ind.some in cc
    first-finds (First.line {w = c ∷ w} {t} {after} ind rest) =
        let blank : list_all is_blank w ≡ true = (and_parts (is_blank c) _ ind.blank).1 in (
          after,
          rw (ind.some, ind.at_line_start, (run-finds is_blank w t blank (no_blank_there rest)).1)
              (ends_line-finds rest),
        )
    first-finds (First.note {m} {c} {s} {after} may late end (Note.note mark all closes)) =
        let apart = comment_mark-apart m mark in
        let read = note_read {m = m} {s = s} {r = c ∷ after} (Note.note mark all closes) in
        let ends : past_end (skipped is_line_part (s ++ c ∷ after)) ≡ Some after = rw (read, end) refl in (
          after,
          rw (apart.0, apart.1, mark) (cond-false (is_column_one b) _ _ late
              ∙ cond-true (may_have_note o b) _ _ may ∙ ends),
        )
    first-finds (First.white {c} t h n) =
        let apart : (is_blank c && starts_line b) ≡ false = elim (cases_Bool (is_blank c))
        [ inl q ↦ rw (q, n q) refl | inr q ↦ rw q refl ] in
        (t, rw (apart, h) refl)
    first-finds (First.comment {m} s t one mark all) =
        let apart = comment_mark-apart m mark in
        (t, rw (apart.0, apart.1, mark, one, (run-finds is_comment_part s (line_feed ∷ t) all refl).1) refl)

    none_first : (t : List ℕ) → past_first o b t ≡ None → BeginsWithNoTrivia o b t
    none_first t none s r q trivia =
        let (after, some) = first-finds (subst First (sym q) (first r trivia)) in
        let z : None ≡ Some after = sym none ∙ some in cc

    -- the first of the trivia with which a text begins
    pub record IsAfter (t after : List ℕ) : Type 0 where
      pub source : List ℕ
      pub whole : t ≡ source ++ after
      pub some : 1 ≤ length source
      pub trivia : IsTrivia o b source

    -- what is found ends a line
    end_at : (t : List ℕ) {after : List ℕ} → past_end t ≡ Some after
        → (c : ℕ) × (is_line_end c ≡ true) × (t ≡ c ∷ after)
    end_at [] is = let z : None ≡ Some _ = is in cc
    end_at (c ∷ cs) {after} is = elim (cases_Bool (is_line_end c)) [
      | inl h ↦
          let z : Some cs ≡ Some after = rw h at is in
          let same : cs ≡ after = cc in
          (c, h, ap (λ y. c ∷ y) same)
      | inr n ↦ let z : None ≡ Some after = rw n at is in cc
    ]

    end_found : (t : List ℕ) {after : List ℕ} → past_line_end o t ≡ Some after → EndsLine t after
    end_found t {after} is = elim (cases_Bool (begins (begins_note o) t)) [
      | inl h ↦ with_note (some_note o t h) (end_at (skipped is_line_part t) (rw h at is))
      | inr n ↦ bare (end_at t (rw n at is))
    ]
      where
        bare : (c : ℕ) × (is_line_end c ≡ true) × (t ≡ c ∷ after) → EndsLine t after
        bare (c, end, whole) = subst (λ y. EndsLine y after) (sym whole) (EndsLine.bare end)

        with_note : (o.enabled_indented_comment ≡ true) × (n : List ℕ) × Note n (skipped is_line_part t)
            × (n ++ skipped is_line_part t ≡ t)
            → (c : ℕ) × (is_line_end c ≡ true) × (skipped is_line_part t ≡ c ∷ after) → EndsLine t after
        with_note (on, n, noted, whole) (c, end, rest) =
            subst (λ y. EndsLine y after) (ap (λ y. n ++ y) (sym rest) ∙ whole)
            (at (subst (Note n) rest noted))
          where
            at : {n : List ℕ} → Note n (c ∷ after) → EndsLine (n ++ c ∷ after) after
            at (Note.note mark all closes) = EndsLine.marked on end (Note.note mark all closes)

    line_after : {w t after : List ℕ} → Indentation b w → EndsLine t after → IsAfter (w ++ t) after
    line_after {w} {after = after} ind (EndsLine.bare {c} h) = record {
      source = w ++ c ∷ [];
      whole = sym (append_assoc w (c ∷ []) after);
      some = omega (arith, length-append w (c ∷ []));
      trivia = IsTrivia.element (λ r. Element.gap (Gap.blank_line c ind h));
    }
    line_after {w} {after = after} ind (EndsLine.marked {m} {c} {s} on h noted) = record {
      source = (w ++ m ∷ s) ++ c ∷ [];
      whole =
          sym (append_assoc (w ++ m ∷ s) (c ∷ []) after ∙ append_assoc w (m ∷ s) (c ∷ after));
      some = omega (arith, length-append (w ++ m ∷ s) (c ∷ []));
      trivia = IsTrivia.line h (λ r. Element.indented_comment on ind (note_before r noted));
    }

    found_after : {c : ℕ} (cs : List ℕ) {after : List ℕ} → past_first o b (c ∷ cs) ≡ Some after
        → IsAfter (c ∷ cs) after
    found_after {c} cs {after} is = elim (cases_Bool (is_blank c && starts_line b)) [
      | inl h ↦
          let two = and_parts (is_blank c) (starts_line b) h in
          let split = run-sound is_blank cs in
          let ind : Indentation b (c ∷ run_of is_blank cs) =
          record { at_line_start = two.1; some = two.0; blank = rw (two.0, split.all) refl } in
          subst (λ y. IsAfter (c ∷ y) after) split.whole
          (line_after ind (end_found (skipped is_blank cs) (rw h at is)))
      | inr n ↦ elim (cases_Bool (is_whitespace c)) [
        | inl w ↦
            let z : Some cs ≡ Some after = rw (n, w) at is in
            let same : cs ≡ after = cc in
            subst (λ y. IsAfter (c ∷ cs) y) same (record {
              source = c ∷ [];
              whole = refl;
              some = omega arith;
              trivia = IsTrivia.element (λ r. Element.gap (Gap.white {c = c} w (λ h. rw h at n)));
            })
        | inr x ↦ elim (cases_Bool (is_comment_mark c && is_column_one b)) [
          | inl m ↦
              let two = and_parts (is_comment_mark c) (is_column_one b) m in
              let split = run-sound is_comment_part cs in
              subst (λ y. IsAfter (c ∷ y) after) split.whole
              (commented (run_of is_comment_part cs) (skipped is_comment_part cs) two.1 two.0 split.all
              split.ends (rw (n, x, m) at is))
          | inr m ↦ elim (cases_Bool (is_comment_mark c && may_have_note o b)) [
            | inl h ↦
                let two = and_parts (is_comment_mark c) (may_have_note o b) h in
                noted two.0 two.1 (rw two.0 at m) (end_at (skipped is_line_part cs) (rw (n, x, m, h) at is))
            | inr k ↦ let z : None ≡ Some after = rw (n, x, m, k) at is in cc
          ]
        ]
      ]
    ]
      where
        commented : (w rest : List ℕ) → is_column_one b ≡ true → is_comment_mark c ≡ true
            → list_all is_comment_part w ≡ true → BeginsWithNo is_comment_part rest
            → after_line_feed rest ≡ Some after → IsAfter (c ∷ (w ++ rest)) after
        commented w [] one mark all other is = let z : None ≡ Some after = is in cc
        commented w (l ∷ rest) one mark all other is =
            let feed : l ≡ line_feed = eqb-true l 10 (not-false (l == line_feed) other) in
            let same : rest ≡ after = cc in
            rw (feed, same) (record {
              source = c ∷ (w ++ line_feed ∷ []);
              whole = ap (λ y. c ∷ y) (sym (append_assoc w (line_feed ∷ []) after));
              some = omega arith;
              trivia = IsTrivia.element (λ r. Element.comment w one mark all);
            })

        noted : is_comment_mark c ≡ true → may_have_note o b ≡ true → is_column_one b ≡ false
            → (e : ℕ) × (is_line_end e ≡ true) × (skipped is_line_part cs ≡ e ∷ after)
            → IsAfter (c ∷ cs) after
        noted mark may late (e, end, rest) =
            let s = run_of is_line_part cs in
            let whole : s ++ e ∷ after ≡ cs =
            ap (λ y. s ++ y) (sym rest) ∙ (run-sound is_line_part cs).whole in
            let here : Note (c ∷ s) (e ∷ after) = subst (Note (c ∷ s)) rest (note_at c cs mark) in
            record {
              source = (c ∷ s) ++ e ∷ [];
              whole = ap (λ y. c ∷ y) (sym whole ∙ sym (append_assoc s (e ∷ []) after));
              some = omega arith;
              trivia = IsTrivia.line end (λ r. Element.note may late (note_before r here));
            }

    -- by what the code finds
    pub first-is : (t : List ℕ) {r : Option (List ℕ)} → past_first o b t ≡ r
        → MatchOption r (BeginsWithNoTrivia o b t) (λ after. IsAfter t after)
    first-is t {r = None} e = none_first t e
    first-is [] {r = Some after} e = let z : None ≡ Some after = e in cc
    first-is (c ∷ cs) {r = Some after} e = found_after cs e

module _ {o : ParseOption} where
  -- one more of them
  pub AreTrivia-then : {b c s : List ℕ} → AreTrivia o b c → IsTrivia o c s → AreTrivia o b (c ++ s)
  AreTrivia-then AreTrivia.none t = AreTrivia.more t AreTrivia.none
  AreTrivia-then (AreTrivia.more first row) t = AreTrivia.more first (AreTrivia-then row t)

-- a parser that skips one more of them, and where there are no more
pub record SkipsOne (o : ParseOption) (T b rest after : List ℕ) : Type 0 where
  pub within : IsRest T after
  pub skipped : AreTrivia o b (front_of T after)
  pub shorter : length after < length rest

module _ (o : ParseOption) {T b front : List ℕ} (rest : List ℕ) (within : IsRest T rest)
    (skipped : AreTrivia o b (front_of T rest)) (at : front ≡ front_of T rest) where
  pub skips_one : {after : List ℕ} → past_first o front rest ≡ Some after → SkipsOne o T b rest after
  skips_one {after} e =
      let x = subst (λ f. IsAfter o f rest after) at (first-is o front rest e) in
      let grown = front_grows T rest x.source after within x.whole in
      record {
        within = grown.1;
        skipped = rw grown.0 (AreTrivia-then skipped x.trivia);
        shorter = omega (arith, x.some, ap length x.whole, length-append x.source after);
      }

  pub skips_all : past_first o front rest ≡ None → SkipsTrivia o T b (front_of T rest)
  skips_all e = record {
    rest = rest;
    whole = sym within;
    skipped = skipped;
    no_more = subst (λ f. BeginsWithNoTrivia o f rest) at (first-is o front rest e);
  }
