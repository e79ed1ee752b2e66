-- Notes at the front of a text.
use Rattle.std.proofs.Common.{◌≡◌, ℕ, true, false, List, [], ◌∷◌, ◌++◌, ap, inl, inr, refl}
use Rattle.std.proofs.Math.Bool.{or-false}
use Rattle.std.proofs.lemmas.Bool.{cases_Bool, and_parts, not-false}
use Rattle.ini_text.specs.Grammar.CharacterKinds.{begins, is_comment_mark, is_line_end, BeginsWithNo}
use Rattle.ini_text.specs.Grammar.Keys.{begins_note}
use Rattle.ini_text.specs.Grammar.Lines.{LineTail, Note}
use Rattle.ini_text.specs.Grammar.Strings.{Closes, plain_ends}
use Rattle.ini_text.specs.Inside.Scans.{is_line_part, run_of, skipped}
use Rattle.ini_text.specs.declared.option.ParseOption.{ParseOption}
use Rattle.ini_text.proofs.GrammarLemmas.KindLemmas.{comment_mark-in_line}
use Rattle.ini_text.proofs.ReaderLemmas.RunReaderLemmas.{run-finds, run-sound}

-- a line's characters end before what closes it
pub closes_part : (r : List ℕ) → BeginsWithNo is_line_part r → Closes plain_ends r
closes_part [] h = refl
closes_part (c ∷ r) h = rw (or-false, not-false (is_line_end c) h) refl

pub closed_part : (r : List ℕ) → Closes plain_ends r → BeginsWithNo is_line_part r
closed_part [] h = tt
closed_part (c ∷ r) h = let end : is_line_end c ≡ true = rw or-false at h in rw end refl

-- a note is read from its mark on, and what is read so is one
pub note_at : (m : ℕ) (t : List ℕ) → is_comment_mark m ≡ true
    → Note (m ∷ run_of is_line_part t) (skipped is_line_part t)
note_at m t mark =
    let split = run-sound is_line_part t in
    Note.note mark split.all (closes_part (skipped is_line_part t) split.ends)

pub past_mark : (m : ℕ) (t : List ℕ) → is_comment_mark m ≡ true
    → skipped is_line_part (m ∷ t) ≡ skipped is_line_part t
past_mark m t mark = rw (comment_mark-in_line m mark).0 refl

pub note_read : {m : ℕ} {s r : List ℕ} → Note (m ∷ s) r → skipped is_line_part (s ++ r) ≡ r
note_read {s = s} {r} (Note.note mark all closes) =
    (run-finds is_line_part s r all (closed_part r closes)).1

-- behind a line's text and its note stands what closes the line
pub LineTail-closes : {n r : List ℕ} → LineTail n r → Closes plain_ends r
LineTail-closes (LineTail.none closes) = closes
LineTail-closes (LineTail.note (Note.note mark all closes)) = closes

-- a note stays one where something else stands after its line end
pub note_before : {s x : List ℕ} {c : ℕ} (y : List ℕ) → Note s (c ∷ x) → Note s (c ∷ y)
note_before y (Note.note mark all closes) = Note.note mark all closes

module _ (o : ParseOption) where
  pub no_mark_no_note : (c : ℕ) → is_comment_mark c ≡ false → begins_note o c ≡ false
  no_mark_no_note c n =
      elim (cases_Bool o.enabled_indented_comment) [ inl on ↦ rw (on, n) refl | inr off ↦ rw off refl ]

  -- a text that begins with no note
  pub no_note : (t : List ℕ) → (o.enabled_indented_comment ≡ true → BeginsWithNo is_comment_mark t)
      → begins (begins_note o) t ≡ false
  no_note [] other = refl
  no_note (c ∷ t) other = elim (cases_Bool o.enabled_indented_comment)
      [ inl on ↦ rw (on, other on) refl | inr off ↦ rw off refl ]

  pub other_text : (t : List ℕ) → begins (begins_note o) t ≡ false → o.enabled_indented_comment ≡ true
      → BeginsWithNo is_comment_mark t
  other_text [] none on = tt
  other_text (c ∷ t) none on = rw on at none

  -- and one that begins with one
  pub some_note : (t : List ℕ) → begins (begins_note o) t ≡ true
      → (o.enabled_indented_comment ≡ true) × (n : List ℕ) × Note n (skipped is_line_part t)
      × (n ++ skipped is_line_part t ≡ t)
  some_note [] h = cc
  some_note (m ∷ t) h =
      let two = and_parts o.enabled_indented_comment (is_comment_mark m) h in
      rw (past_mark m t two.1) (
        two.0,
        m ∷ run_of is_line_part t,
        note_at m t two.1,
        ap (λ y. m ∷ y) (run-sound is_line_part t).whole,
      )
