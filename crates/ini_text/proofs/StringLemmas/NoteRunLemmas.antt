-- Where in a run a note begins.
use Rattle.std.proofs.Common.{◌≡◌, ℕ, ◌-◌, ◌≤◌, drop, Bool, true, false, ◌&&◌, if◌then◌else◌, List, [], ◌∷◌}
use Rattle.std.proofs.Common.{◌++◌, length, take, inl, inr, refl, sym, ap, ◌∙◌, subst, append-nil}
use Rattle.std.proofs.Common.{append_assoc, arith, chars, IsUtf8, IsCharBoundary, true≢false}
use Rattle.std.proofs.Math.Bool.{and-false, and-true}
use Rattle.std.proofs.lemmas.Bool.{and_parts, cases_Bool, not-false, not-true}
use Rattle.std.proofs.lemmas.List.{append_cancel_left, length-take, take-take}
use Rattle.std.proofs.lemmas.Str.{IsCharBoundary-from_take, IsUtf8-take}
use Rattle.std.specs.List.{list_all, prefix_len}
use Rattle.ini_text.specs.Grammar.CharacterKinds.{begins, is_blank, is_comment_mark, line_feed, BeginsWithNo}
use Rattle.ini_text.specs.Grammar.Positions.{last_or}
use Rattle.ini_text.specs.Grammar.Strings.{Ends}
use Rattle.ini_text.specs.Inside.Scans.{ends_before_note, EndsRun, from_note, is_no_mark, is_raw, is_run}
use Rattle.ini_text.specs.Parsing.Fronts.{IsRest}
use Rattle.ini_text.proofs.GrammarLemmas.KindLemmas.{comment_mark-apart}
use Rattle.ini_text.proofs.StringLemmas.FrontLemmas.{front_is}
use Rattle.ini_text.proofs.StringLemmas.RunLemmas.{boundary, run_chars, run_stops, split_chars}
use Rattle.ini_text.proofs.StringLemmas.ScanLemmas.{front_boundary, front_chars, front_le}

-- characters among which no mark is
no_mark_begins : (cs : List ℕ) → list_all is_no_mark cs ≡ true → begins is_comment_mark cs ≡ false
no_mark_begins [] h = refl
no_mark_begins (c ∷ cs) h =
    not-true (is_comment_mark c) (and_parts (is_no_mark c) (list_all is_no_mark cs) h).0

pub no_note_in : (cs : List ℕ) → list_all is_no_mark cs ≡ true → from_note cs ≡ []
no_note_in [] h = refl
no_note_in (c ∷ cs) h =
    let two = and_parts (is_no_mark c) (list_all is_no_mark cs) h in
    rw (no_mark_begins cs two.1, and-false) (no_note_in cs two.1)

-- and then a mark: a note begins there, if a blank stands before it
note_behind : (d : ℕ) (w : List ℕ) (m : ℕ) (r : List ℕ) → list_all is_no_mark w ≡ true
    → is_comment_mark m ≡ true
    → from_note (d ∷ (w ++ m ∷ r)) ≡ (if is_blank (last_or d w) then m ∷ r else from_note r)
note_behind d [] m r h mark = rw (mark, and-true, (comment_mark-apart m mark).0) refl
note_behind d (c ∷ w) m r h mark =
    let two = and_parts (is_no_mark c) (list_all is_no_mark w) h in
    rw (not-true (is_comment_mark c) two.0, and-false) (note_behind c w m r two.1 mark)

pub note_at_mark : (w : List ℕ) (m : ℕ) (r : List ℕ) → list_all is_no_mark w ≡ true
    → is_comment_mark m ≡ true
    → from_note (w ++ m ∷ r) ≡ (if is_blank (last_or line_feed w) then m ∷ r else from_note r)
note_at_mark [] m r h mark = rw (comment_mark-apart m mark).0 refl
note_at_mark (d ∷ w) m r h mark =
    note_behind d w m r (and_parts (is_no_mark d) (list_all is_no_mark w) h).1 mark

-- a text that is split before its first mark
pub note_ends : {t : List ℕ} (before next : List ℕ) → t ≡ before ++ next → next ≡ []
    → list_all is_no_mark before ≡ true → from_note t ≡ next
note_ends before next whole none h =
    ap from_note (whole ∙ ap (λ x. before ++ x) none ∙ append-nil before) ∙ no_note_in before h ∙ sym none

pub note_next : {t after : List ℕ} {m : ℕ} {b : Bool} (before next : List ℕ) → t ≡ before ++ next
    → next ≡ m ∷ after → BeginsWithNo is_no_mark next → list_all is_no_mark before ≡ true
    → b ≡ is_blank (last_or line_feed before) → from_note t ≡ (if b then next else from_note after)
note_next {after = after} {m} before next whole some mark h is =
    rw (whole, some, is) (note_at_mark before m after h
    (not-false (is_comment_mark m) (subst (BeginsWithNo is_no_mark) some mark)))

-- what stands before the note
before_note : List ℕ → List ℕ
before_note [] = []
before_note (c ∷ cs) = if is_blank c && begins is_comment_mark cs then c ∷ [] else c ∷ before_note cs

note_parts : (cs : List ℕ) → before_note cs ++ from_note cs ≡ cs
unfolding before_note
note_parts [] = refl
note_parts (c ∷ cs) = elim (cases_Bool (is_blank c && begins is_comment_mark cs))
    [ inl h ↦ rw h refl | inr h ↦ rw h (ap (λ y. c ∷ y) (note_parts cs)) ]

begins_alike : (cs : List ℕ) → begins is_comment_mark (before_note cs) ≡ begins is_comment_mark cs
unfolding before_note
begins_alike [] = refl
begins_alike (c ∷ cs) = elim (cases_Bool (is_blank c && begins is_comment_mark cs))
    [ inl h ↦ rw h refl | inr h ↦ rw h refl ]

begins_more : (cs r : List ℕ) → begins is_comment_mark cs ≡ true → begins is_comment_mark (cs ++ r) ≡ true
begins_more [] r h = absurd (true≢false (sym h))
begins_more (c ∷ cs) r h = h

module _ (to : Ends) where
  run_before : (cs : List ℕ) → list_all (is_raw to) cs ≡ true → is_run to (before_note cs) ≡ true
  unfolding before_note
  run_before [] h = refl
  run_before (c ∷ cs) h =
      let two = and_parts (is_raw to c) (list_all (is_raw to) cs) h in
      elim (cases_Bool (is_blank c && begins is_comment_mark cs)) [
        | inl note ↦ rw (note, two.0, and-false, and-false) refl
        | inr none ↦ rw (none, two.0, begins_alike cs, none, and-false) (run_before cs two.1)
      ]

  ends_later : (c : ℕ) (cs r : List ℕ) → ends_before_note to cs r ≡ true
      → ends_before_note to (c ∷ cs) r ≡ true
  ends_later c [] r h = absurd (true≢false (sym h))
  ends_later c (d ∷ cs) r h = h

  ends_at : to.notes ≡ true → (cs rest : List ℕ) → BeginsWithNo (is_raw to) rest
      → EndsRun to (before_note cs) (from_note cs ++ rest)
  unfolding before_note
  ends_at on [] rest closes = inl closes
  ends_at on (c ∷ cs) rest closes = elim (cases_Bool (is_blank c && begins is_comment_mark cs)) [
    | inl note ↦
        let two = and_parts (is_blank c) (begins is_comment_mark cs) note in
        rw note (inr (rw (on, two.0, begins_more cs rest two.1) refl))
    | inr none ↦ rw none (elim (ends_at on cs rest closes)
        [ inl closes ↦ inl closes | inr note ↦ inr (ends_later c (before_note cs) _ note) ])
  ]

-- a run of bytes, as characters that pass a test, and what follows them
pub record RawRun (p : ℕ → Bool) (text run rest : List ℕ) : Type 0 where
  pub is_text : IsUtf8 text
  pub is_run_text : IsUtf8 run
  pub len : ℕ
  pub front : run ≡ take len text
  pub parts : chars text ≡ chars run ++ chars rest
  pub all : list_all p (chars run) ≡ true
  pub closes : BeginsWithNo p (chars rest)

pub raw_run : (p : ℕ → Bool) {text run rest : List ℕ} (n : ℕ) → ((c : ℕ) → 128 ≤ c → p c ≡ true)
    → IsUtf8 text → n ≡ prefix_len p text → run ≡ take n text → rest ≡ drop n text → RawRun p text run rest
raw_run p {text} {run} {rest} n wide u is front back =
    let cut = subst (IsCharBoundary text) (sym is) (boundary p text wide) in
    record {
      is_text = u;
      is_run_text = subst IsUtf8 (sym front) (IsUtf8-take text n u cut);
      len = n;
      front = front;
      parts = split_chars text run rest n u cut front back;
      all = run_chars p text run n wide u is front;
      closes = run_stops p text rest n wide u is back;
    }

-- and one that is cut before its note
pub record CutRun (to : Ends) (text front back : List ℕ) : Type 0 where
  pub parts : chars text ≡ chars front ++ chars back
  pub run : is_run to (chars front) ≡ true
  pub next : EndsRun to (chars front) (chars back)

module _ (to : Ends) {text run rest : List ℕ} (note : List ℕ) (at : RawRun (is_raw to) text run rest)
    (w : IsUtf8 note) (is : chars note ≡ from_note (chars run)) where
  whole_run : before_note (chars run) ++ chars note ≡ chars run
  whole_run = ap (λ x. before_note (chars run) ++ x) is ∙ note_parts (chars run)

  is_rest : IsRest (chars run) (chars note)
  is_rest =
      ap (λ x. x ++ chars note) (front_is (before_note (chars run)) (chars note) (chars run) whole_run)
      ∙ whole_run

  pub note_within : length note ≤ length run
  note_within = front_le run note at.is_run_text w is_rest

  shorter : take (length run - length note) text ≡ take (length run - length note) run
  shorter = sym (ap (take (length run - length note)) at.front
      ∙ take-take (length run - length note) at.len text
      (omega (arith, ap length at.front, length-take at.len text)))

  pub note_boundary : IsCharBoundary text (length run - length note)
  note_boundary = IsCharBoundary-from_take text (length run - length note) at.is_text
      (omega (arith, ap length at.front, length-take at.len text))
      (subst IsUtf8 (sym shorter) (IsUtf8-take run (length run - length note) at.is_run_text
      (front_boundary run note at.is_run_text w is_rest)))

  pub cut_run : {before after : List ℕ} → to.notes ≡ true
      → before ≡ take (length run - length note) text → after ≡ drop (length run - length note) text
      → CutRun to text before after
  cut_run {before} {after} on is_before is_after =
      let first : chars before ≡ before_note (chars run) =
      front_chars run note before at.is_run_text w is_rest (is_before ∙ shorter)
      ∙ front_is (before_note (chars run)) (chars note) (chars run) whole_run in
      let parts = split_chars text before after (length run - length note) at.is_text note_boundary is_before
      is_after in
      let second : chars after ≡ from_note (chars run) ++ chars rest =
      append_cancel_left (before_note (chars run)) (chars after) (from_note (chars run) ++ chars rest)
      (ap (λ x. x ++ chars after) (sym first) ∙ sym parts ∙ at.parts
      ∙ ap (λ x. x ++ chars rest) (sym (note_parts (chars run)))
      ∙ append_assoc (before_note (chars run)) (from_note (chars run)) (chars rest)) in
      record {
        parts = parts;
        run = subst (λ x. is_run to x ≡ true) (sym first) (run_before to (chars run) at.all);
        next = rw (first, second) (ends_at to on (chars run) (chars rest) at.closes);
      }
