-- The indented key that the text's end cuts short, among elements that give nothing: the last of them.
use Rattle.std.proofs.Common.{◌≡◌, ◌∙◌, ◌&&◌, ◌||◌, ◌==◌, ℕ, Bool, true, false, not, List, [], ◌∷◌, ◌++◌, ap}
use Rattle.std.proofs.Common.{append_assoc, append-nil, eqb-true, inl, inr, refl, subst, sym}
use Rattle.std.specs.Prelude.{◌⊎◌, ⊤}
use Rattle.std.proofs.lemmas.Bool.{and_from, and_parts, both_ways, cases_Bool, cond-false, cond-true}
use Rattle.std.proofs.lemmas.Bool.{false≢true, false_from_ne_true, not-true, or_from, or_left, or_parts}
use Rattle.std.proofs.lemmas.Bool.{or_right}
use Rattle.std.specs.Char.{is_whitespace}
use Rattle.std.specs.List.{list_all}
use Rattle.ini_text.specs.Grammar.CharacterKinds.{BeginsWith, BeginsWithNo, carriage_return, is_blank}
use Rattle.ini_text.specs.Grammar.CharacterKinds.{is_comment_mark, is_line_end, is_line_feed, line_feed}
use Rattle.ini_text.specs.Grammar.CharacterKinds.{open_bracket}
use Rattle.ini_text.specs.Grammar.Elements.{Element}
use Rattle.ini_text.specs.Grammar.Keys.{begins_indented_key, begins_note}
use Rattle.ini_text.specs.Grammar.Lines.{Note}
use Rattle.ini_text.specs.Grammar.Pieces.{ArePieces, Piece, pieces_items, pieces_text}
use Rattle.ini_text.specs.Grammar.Positions.{last_or}
use Rattle.ini_text.specs.Grammar.Strings.{Closes, plain_ends}
use Rattle.ini_text.specs.Grammar.CharacterKinds.{begins}
use Rattle.ini_text.specs.declared.option.ParseOption.{ParseOption}
use Rattle.ini_text.proofs.GrammarLemmas.KindLemmas.{comment_mark-apart, line_end_no_blank}
use Rattle.ini_text.proofs.LawLemmas.PieceLemmas.{last_or-append}
use Rattle.ini.specs.Texts.{Text}
use Rattle.ini_edit.specs.Endings.{IsIndentedKey}
use Rattle.ini_edit.specs.Inside.Spans.{IsGap}
use Rattle.ini_edit.specs.SourceLines.{CommentState, after_blanks, dropped_key, dropped_key_from}
use Rattle.ini_edit.specs.SourceLines.{is_outside, may_begin_key, next_comment}
use Rattle.ini_edit.proofs.EmptyLineLemmas.{blank_or_end, blank_source_no_key, blanks_all, key_blank}
use Rattle.ini_edit.proofs.EmptyLineLemmas.{character_no_key, line_no_key, mark_source_no_key}
use Rattle.ini_edit.proofs.EndingLemmas.{no_feed_by}
use Rattle.ini_edit.proofs.GapLemmas.{empty_front}
use Rattle.ini_edit.proofs.QuietLemmas.{Free, NoteFront, Quiet, QuietFront, Tail, as_quiet}
use Rattle.ini_edit.proofs.QuietLemmas.{line_end_no_mark, quiet_front}

-- no element that gives nothing begins with a bracket
no_bracket_by : (test : ℕ → Bool) (s t : Text) → test open_bracket ≡ false → BeginsWith test s
    → BeginsWithNo (λ c. c == open_bracket) (s ++ t)
no_bracket_by test [] t apart h = absurd (false≢true (sym h))
no_bracket_by test (c ∷ s) t apart h =
    false_from_ne_true (c == open_bracket)
    (λ q. both_ways (test open_bracket) apart (subst (λ z. test z ≡ true) (eqb-true c open_bracket q) h))

quiet_no_bracket : {o : ParseOption} {b s r : Text} (t : Text) → QuietFront o b s r
    → BeginsWithNo (λ c. c == open_bracket) (s ++ t)
quiet_no_bracket t (QuietFront.blanks {w = w} s i) =
    subst (BeginsWithNo (λ c. c == open_bracket)) (sym (append_assoc w s t))
    (no_bracket_by is_blank w (s ++ t) refl i.some)
quiet_no_bracket t (QuietFront.white {c = c} q n) = no_bracket_by is_whitespace (c ∷ []) t refl q
quiet_no_bracket t (QuietFront.comment {m = m} {t = s} mark is) =
    no_bracket_by is_comment_mark (m ∷ []) (s ++ t) refl mark

pub pieces_no_bracket : {o : ParseOption} {c : ℕ} {r : Text} (ps : List Piece) → pieces_items ps ≡ []
    → ArePieces o c ps r → BeginsWithNo (λ c. c == open_bracket) (pieces_text ps)
pieces_no_bracket [] none are = tt
pieces_no_bracket (p ∷ ps) none (ArePieces.more e rest) =
    quiet_no_bracket (pieces_text ps)
    (quiet_front (as_quiet e (empty_front p.gives (pieces_items ps) none).0))

-- past blanks
past_blanks : (w : Text) (c : ℕ) (t : Text) → list_all is_blank w ≡ true → is_blank c ≡ false
    → after_blanks (w ++ c ∷ t) ≡ c ∷ t
past_blanks [] c t all other = cond-false (is_blank c) _ _ other
past_blanks (d ∷ w) c t all other =
    let parts = and_parts (is_blank d) (list_all is_blank w) all in
    cond-true (is_blank d) _ _ parts.0 ∙ past_blanks w c t parts.1 other

only_blanks : (w : Text) → list_all is_blank w ≡ true → after_blanks w ≡ []
only_blanks [] all = refl
only_blanks (d ∷ w) all =
    let parts = and_parts (is_blank d) (list_all is_blank w) all in
    cond-true (is_blank d) _ _ parts.0 ∙ only_blanks w parts.1

-- where the key may begin
abbrev may_begin : ParseOption → CommentState → (before c : ℕ) → Text → Bool
may_begin o state before c cs =
    is_outside state && (is_line_end before
    && (is_blank c && begins (may_begin_key o) (after_blanks (c ∷ cs))))

and_no_right : (a b : Bool) → b ≡ false → (a && b) ≡ false
and_no_right true b h = h
and_no_right false b h = refl

and_no_left : (a b : Bool) → a ≡ false → (a && b) ≡ false
and_no_left true b h = absurd (false≢true (sym h))
and_no_left false b h = refl

-- what a character begins, ends or leaves as it is
pub stays_outside : (before c : ℕ) → is_comment_mark c ≡ false
    → next_comment CommentState.outside before c ≡ CommentState.outside
stays_outside before c apart = cond-false (is_comment_mark c) _ _ apart

pub comment_begins : (before m : ℕ) → is_line_feed before ≡ true → is_comment_mark m ≡ true
    → next_comment CommentState.outside before m ≡ CommentState.comment
comment_begins before m one mark =
    cond-true (is_comment_mark m) _ _ mark ∙ cond-true (is_line_feed before) _ _ one

pub note_begins : (before m : ℕ) → is_line_feed before ≡ false → is_comment_mark m ≡ true
    → next_comment CommentState.outside before m ≡ CommentState.note
note_begins before m late mark =
    cond-true (is_comment_mark m) _ _ mark ∙ cond-false (is_line_feed before) _ _ late

pub comment_goes_on : (before c : ℕ) → not (is_line_feed c) ≡ true
    → next_comment CommentState.comment before c ≡ CommentState.comment
comment_goes_on before c other = cond-false (is_line_feed c) _ _ (not-true _ other)

pub note_goes_on : (before c : ℕ) → not (is_line_end c) ≡ true
    → next_comment CommentState.note before c ≡ CommentState.note
note_goes_on before c other = cond-false (is_line_end c) _ _ (not-true _ other)

pub note_ends : (before c : ℕ) → is_line_end c ≡ true
    → next_comment CommentState.note before c ≡ CommentState.outside
note_ends before c end = cond-true (is_line_end c) _ _ end

pub blank_no_mark : (c : ℕ) → is_blank c ≡ true → is_comment_mark c ≡ false
blank_no_mark c blank =
    false_from_ne_true (is_comment_mark c)
    (λ mark. both_ways (is_blank c) (comment_mark-apart c mark).0 blank)

pub white_no_mark : (c : ℕ) → is_whitespace c ≡ true → is_comment_mark c ≡ false
white_no_mark c white =
    false_from_ne_true (is_comment_mark c)
    (λ mark. both_ways (is_whitespace c) (comment_mark-apart c mark).1 white)

pub blanks_no_feed_last : (c : ℕ) (w : Text) → BeginsWith is_blank w → list_all is_blank w ≡ true
    → is_line_feed (last_or c w) ≡ false
blanks_no_feed_last c [] some all = absurd (false≢true (sym some))
blanks_no_feed_last c (d ∷ []) some all = no_feed_by is_blank d refl some
blanks_no_feed_last c (d ∷ e ∷ w) some all =
    let parts = and_parts (is_blank d) (list_all is_blank (e ∷ w)) all in
    blanks_no_feed_last d (e ∷ w) (and_parts (is_blank e) (list_all is_blank w) parts.1).0 parts.1

pub blank_no_end : (c : ℕ) → is_blank c ≡ true → is_line_end c ≡ false
blank_no_end c blank =
    false_from_ne_true (is_line_end c) (λ end. both_ways (is_blank c) (line_end_no_blank c end) blank)

pub begins_more : (test : ℕ → Bool) (w x : Text) → BeginsWith test w → BeginsWith test (w ++ x)
begins_more test [] x h = absurd (false≢true (sym h))
begins_more test (c ∷ w) x h = h

pub mark_no_key : {o : ParseOption} {m : ℕ} {s : Text} → is_comment_mark m ≡ true → ¬ IsIndentedKey o (m ∷ s)
mark_no_key {m = m} mark key = both_ways (is_blank m) (comment_mark-apart m mark).0 (key_blank key)

-- An element that gives nothing, before t: the key isn't in it; or it is the key, and nothing follows.
data Passes (o : ParseOption) (c : ℕ) (s t : Text) : Type 0 where
  past : ¬ IsIndentedKey o s → dropped_key o c (s ++ t) ≡ dropped_key o (last_or c s) t → Passes o c s t
  found : dropped_key o c (s ++ t) ≡ s ++ t → is_line_end c ≡ true → BeginsWith is_blank (s ++ t)
      → Passes o c s t

-- what closes a line is empty, or a line end begins it
pub closes_front : (t y : Text) → Closes plain_ends (t ++ y) → (t ≡ []) ⊎ BeginsWith is_line_end t
closes_front [] y closes = inl refl
closes_front (c ∷ t) y closes = inr (at (is_line_feed c) (c == carriage_return) closes)
  where
    at : (x y : Bool) → (x || (y || false)) ≡ true → (x || y) ≡ true
    at true y h = h
    at false true h = h
    at false false h = h

module _ (o : ParseOption) where
  abbrev from : CommentState → (before : ℕ) → Text → Text
  from = dropped_key_from o

  one_past : (state : CommentState) (before c : ℕ) (cs : Text) → may_begin o state before c cs ≡ false
      → from state before (c ∷ cs) ≡ from (next_comment state before c) c cs
  one_past state before c cs apart = cond-false (may_begin o state before c cs) _ _ apart

  -- a character outside comments
  outside_past : (before c : ℕ) (cs : Text) → may_begin o CommentState.outside before c cs ≡ false
      → is_comment_mark c ≡ false → dropped_key o before (c ∷ cs) ≡ dropped_key o c cs
  outside_past before c cs apart unmarked =
      one_past CommentState.outside before c cs apart
      ∙ ap (λ state. from state c cs) (stays_outside before c unmarked)

  no_line_before : (before c : ℕ) (cs : Text) → is_line_end before ≡ false
      → may_begin o CommentState.outside before c cs ≡ false
  no_line_before before c cs apart = and_no_left (is_line_end before) _ apart

  no_blank_there : (before c : ℕ) (cs : Text) → is_blank c ≡ false
      → may_begin o CommentState.outside before c cs ≡ false
  no_blank_there before c cs apart =
      and_no_right (is_line_end before) _ (and_no_left (is_blank c) _ apart)

  no_key_there : (before c : ℕ) (cs : Text) → begins (may_begin_key o) (after_blanks (c ∷ cs)) ≡ false
      → may_begin o CommentState.outside before c cs ≡ false
  no_key_there before c cs apart =
      and_no_right (is_line_end before) _ (and_no_right (is_blank c) _ apart)

  blanks_past : (before : ℕ) (w t : Text) → is_line_end before ≡ false → list_all is_blank w ≡ true
      → dropped_key o before (w ++ t) ≡ dropped_key o (last_or before w) t
  blanks_past before [] t apart all = refl
  blanks_past before (c ∷ w) t apart all =
      let parts = and_parts (is_blank c) (list_all is_blank w) all in
      outside_past before c (w ++ t) (no_line_before before c (w ++ t) apart) (blank_no_mark c parts.0)
      ∙ blanks_past c w t (blank_no_end c parts.0) parts.1

  -- a line's blanks, where no key follows them
  indent_past : (before : ℕ) (w t : Text) → BeginsWith is_blank w → list_all is_blank w ≡ true
      → begins (may_begin_key o) (after_blanks (w ++ t)) ≡ false
      → dropped_key o before (w ++ t) ≡ dropped_key o (last_or before w) t
  indent_past before [] t some all apart = absurd (false≢true (sym some))
  indent_past before (c ∷ w) t some all apart =
      let parts = and_parts (is_blank c) (list_all is_blank w) all in
      outside_past before c (w ++ t) (no_key_there before c (w ++ t) apart) (blank_no_mark c parts.0)
      ∙ blanks_past c w t (blank_no_end c parts.0) parts.1

  -- a comment
  comment_past : (before : ℕ) (s t : Text) → list_all (λ c. not (is_line_feed c)) s ≡ true
      → from CommentState.comment before (s ++ line_feed ∷ t) ≡ dropped_key o line_feed t
  comment_past before [] t all = refl
  comment_past before (c ∷ s) t all =
      let parts = and_parts (not (is_line_feed c)) (list_all (λ c. not (is_line_feed c)) s) all in
      ap (λ state. from state c (s ++ line_feed ∷ t)) (comment_goes_on before c parts.0)
      ∙ comment_past c s t parts.1

  comment_last : (before : ℕ) (s : Text) → list_all (λ c. not (is_line_feed c)) s ≡ true
      → from CommentState.comment before s ≡ []
  comment_last before [] all = refl
  comment_last before (c ∷ s) all =
      let parts = and_parts (not (is_line_feed c)) (list_all (λ c. not (is_line_feed c)) s) all in
      ap (λ state. from state c s) (comment_goes_on before c parts.0) ∙ comment_last c s parts.1

  mark_past : (before m : ℕ) (s : Text) → is_line_feed before ≡ true → is_comment_mark m ≡ true
      → dropped_key o before (m ∷ s) ≡ from CommentState.comment m s
  mark_past before m s one mark =
      one_past CommentState.outside before m s (no_blank_there before m s (comment_mark-apart m mark).0)
      ∙ ap (λ state. from state m s) (comment_begins before m one mark)

  -- a note
  end_past : (before c : ℕ) (t : Text) → is_line_end c ≡ true
      → dropped_key o before (c ∷ t) ≡ dropped_key o c t
  end_past before c t end =
      outside_past before c t (no_blank_there before c t (line_end_no_blank c end)) (line_end_no_mark c end)

  note_end : (before : ℕ) (t : Text) → (t ≡ []) ⊎ BeginsWith is_line_end t
      → from CommentState.note before t ≡ dropped_key o before t
  note_end before [] ends = refl
  note_end before (c ∷ t) (inl none) = absurd (let no : c ∷ t ≡ [] = none in cc)
  note_end before (c ∷ t) (inr end) =
      ap (λ state. from state c t) (note_ends before c end) ∙ sym (end_past before c t end)

  note_rest : (before : ℕ) (s t : Text) → list_all (λ c. not (is_line_end c)) s ≡ true
      → from CommentState.note before (s ++ t) ≡ from CommentState.note (last_or before s) t
  note_rest before [] t all = refl
  note_rest before (c ∷ s) t all =
      let parts = and_parts (not (is_line_end c)) (list_all (λ c. not (is_line_end c)) s) all in
      ap (λ state. from state c (s ++ t)) (note_goes_on before c parts.0) ∙ note_rest c s t parts.1

  note_past : (before : ℕ) {s t : Text} → is_line_feed before ≡ false → Note s t
      → dropped_key o before (s ++ t) ≡ dropped_key o (last_or before s) t
  note_past before {t = t} late (Note.note {m} {s} mark all closes) =
      one_past CommentState.outside before m (s ++ t)
      (no_blank_there before m (s ++ t) (comment_mark-apart m mark).0)
      ∙ ap (λ state. from state m (s ++ t)) (note_begins before m late mark)
      ∙ note_rest m s t all ∙ note_end (last_or m s) t
      (closes_front t [] (subst (Closes plain_ends) (sym (append-nil t)) closes))

  white_past : (before c : ℕ) (t : Text) → is_whitespace c ≡ true
      → (is_blank c ≡ true → is_line_end before ≡ false)
      → dropped_key o before (c ∷ t) ≡ dropped_key o c t
  white_past before c t white apart =
      outside_past before c t (elim (cases_Bool (is_blank c)) [
        | inl blank ↦ no_line_before before c t (apart blank)
        | inr other ↦ no_blank_there before c t other
      ]) (white_no_mark c white)

  key_found : (c : ℕ) (w s : Text) → is_line_end c ≡ true → BeginsWith is_blank w
      → list_all is_blank w ≡ true
      → BeginsWith (begins_indented_key o) s → dropped_key o c (w ++ s) ≡ w ++ s
  key_found c [] s end some all key = absurd (false≢true (sym some))
  key_found c (d ∷ w) [] end some all key = absurd (false≢true (sym key))
  key_found c (d ∷ w) (k ∷ s) end some all key =
      let whole = or_parts (is_blank k || is_line_end k || k == open_bracket) (begins_note o k)
      (not-true _ key) in
      let parts = or_parts (is_blank k || is_line_end k) (k == open_bracket) whole.0 in
      let kinds = or_parts (is_blank k) (is_line_end k) parts.0 in
      let after : after_blanks (d ∷ (w ++ k ∷ s)) ≡ k ∷ s = past_blanks (d ∷ w) k s all kinds.0 in
      cond-true (may_begin o CommentState.outside c d (w ++ k ∷ s)) _ _
      (and_from (is_line_end c) _ end
      (and_from (is_blank d) _ some
      (ap (begins (may_begin_key o)) after
      ∙ ap not (or_from (is_line_end k) (begins_note o k) kinds.1 whole.1))))

  note_passes : {c : ℕ} {w s t : Text} → NoteFront o (c ∷ []) w → Note s t → Passes o c (w ++ s) t
  note_passes {c} {t = t} (NoteFront.alone may late) (Note.note {m} {s} mark all closes) =
      Passes.past (mark_no_key mark) (note_past c late (Note.note {m = m} {s = s} mark all closes))
  note_passes {c} {w} {t = t} (NoteFront.indented on i) (Note.note {m} {s} mark all closes) =
      let note = begins_note o m in
      let unkeyed : may_begin_key o m ≡ false =
      ap not (or_right (is_line_end m) note (and_from o.enabled_indented_comment _ on mark)) in
      Passes.past (mark_source_no_key w m s i.blank on mark)
      (ap (dropped_key o c) (append_assoc w (m ∷ s) t)
      ∙ indent_past c w (m ∷ (s ++ t)) i.some i.blank
      (ap (begins (may_begin_key o)) (past_blanks w m (s ++ t) i.blank (comment_mark-apart m mark).0)
      ∙ unkeyed)
      ∙ note_past (last_or c w) (blanks_no_feed_last c w i.some i.blank)
      (Note.note {m = m} {s = s} mark all closes)
      ∙ ap (λ d. dropped_key o d t) (sym (last_or-append c w (m ∷ s))))

  passes : {c : ℕ} {s r t : Text} → Quiet o (c ∷ []) s r → r ≡ t
      → BeginsWithNo (λ c. c == open_bracket) t → Passes o c s t
  passes {c} {t = t} (Quiet.anywhere (Free.line {w = w} e i q)) same apart =
      let after : after_blanks (w ++ e ∷ t) ≡ e ∷ t = past_blanks w e t i.blank (line_end_no_blank e q) in
      let unkeyed : may_begin_key o e ≡ false = ap not (or_left (is_line_end e) (begins_note o e) q) in
      Passes.past (line_no_key w e i.blank q)
      (ap (dropped_key o c) (append_assoc w (e ∷ []) t)
      ∙ indent_past c w (e ∷ t) i.some i.blank (ap (begins (may_begin_key o)) after ∙ unkeyed)
      ∙ end_past (last_or c w) e t q
      ∙ ap (λ z. dropped_key o z t) (sym (last_or-append c w (e ∷ []))))
  passes {t = t} (Quiet.before_header i) same apart =
      absurd (false≢true (sym (subst (BeginsWithNo (λ c. c == open_bracket)) (sym same) apart)))
  passes {c} {t = t} (Quiet.anywhere (Free.white {c = d} q n)) same apart =
      Passes.past (character_no_key d) (white_past c d t q n)
  passes {c} {t = t} (Quiet.anywhere (Free.comment {m = m} s one mark all)) same apart =
      Passes.past (mark_no_key mark)
      (ap (λ z. dropped_key o c (m ∷ z)) (append_assoc s (line_feed ∷ []) t)
      ∙ mark_past c m (s ++ line_feed ∷ t) one mark ∙ comment_past m s t all
      ∙ ap (λ z. dropped_key o z t) (sym (last_or-append m s (line_feed ∷ []))))
  passes {c} {t = t} (Quiet.at_end (Tail.comment {m = m} {s = s} one mark all)) same apart =
      Passes.past (mark_no_key mark)
      (subst (λ t. dropped_key o c ((m ∷ s) ++ t) ≡ dropped_key o (last_or m s) t) same
      (ap (λ z. dropped_key o c (m ∷ z)) (append-nil s) ∙ mark_past c m s one mark ∙ comment_last m s all))
  passes {c} {t = t} (Quiet.at_end (Tail.blanks {w = w} i)) same apart =
      Passes.past (blank_source_no_key w (subst (λ z. list_all blank_or_end z ≡ true) (append-nil w)
      (blanks_all w [] i.blank refl)))
      (subst (λ t. dropped_key o c (w ++ t) ≡ dropped_key o (last_or c w) t) same
      (indent_past c w [] i.some i.blank
      (ap (begins (may_begin_key o)) (ap after_blanks (append-nil w) ∙ only_blanks w i.blank))))
  passes {c} {t = t} (Quiet.at_end (Tail.key {w = w} s i begins)) same apart =
      subst (Passes o c (w ++ s)) same
      (Passes.found (ap (dropped_key o c) (append-nil (w ++ s))
      ∙ key_found c w s i.at_line_start i.some i.blank begins ∙ sym (append-nil (w ++ s)))
      i.at_line_start
      (begins_more is_blank (w ++ s) [] (begins_more is_blank w s i.some)))
  passes {c} (Quiet.at_line_end {w = w} {s = s} front remark) same apart =
      subst (Passes o c (w ++ s)) same (note_passes front remark)

-- none of them is an indented key
abbrev pub AreKeyless : ParseOption → List Piece → Type 0
AreKeyless o [] = ⊤
AreKeyless o (p ∷ ps) = (¬ IsIndentedKey o p.source) × AreKeyless o ps

-- Elements that give nothing, up to the text's end: those before the key that it cuts short, and that.
pub record DroppedOff (o : ParseOption) (b : ℕ) (z key : Text) : Type 0 where
  pub before : List Piece
  pub whole : z ≡ pieces_text before ++ key
  pub nothing : pieces_items before ≡ []
  pub keyless : AreKeyless o before
  pub are : ArePieces o b before key
  pub is : IsGap o (last_or b (pieces_text before)) key []
  pub line : (key ≡ []) ⊎ ((is_line_end (last_or b (pieces_text before)) ≡ true) × BeginsWith is_blank key)

module _ {o : ParseOption} where
  off_pieces : {b : ℕ} (ps : List Piece) → pieces_items ps ≡ [] → ArePieces o b ps []
      → DroppedOff o b (pieces_text ps) (dropped_key o b (pieces_text ps))
  off_pieces [] none are = record {
    before = [];
    whole = refl;
    nothing = refl;
    keyless = tt;
    are = ArePieces.none;
    is = record { pieces = []; whole = refl; nothing = refl; are = ArePieces.none };
    line = inl refl;
  }
  off_pieces {b} (p ∷ ps) none (ArePieces.more e rest) =
      let parts = empty_front p.gives (pieces_items ps) none in
      at (passes o (as_quiet e parts.0) (append-nil (pieces_text ps)) (pieces_no_bracket ps parts.1 rest))
      parts.0 (off_pieces {b = last_or b p.source} ps parts.1 rest)
    where
      at : Passes o b p.source (pieces_text ps) → p.gives ≡ []
          → DroppedOff o (last_or b p.source) (pieces_text ps)
          (dropped_key o (last_or b p.source) (pieces_text ps))
          → DroppedOff o b (p.source ++ pieces_text ps) (dropped_key o b (p.source ++ pieces_text ps))
      at (Passes.found is line blank) nothing later =
          subst (DroppedOff o b (p.source ++ pieces_text ps)) (sym is) (record {
            before = [];
            whole = refl;
            nothing = refl;
            keyless = tt;
            are = ArePieces.none;
            is = record { pieces = p ∷ ps; whole = refl; nothing = none; are = ArePieces.more e rest };
            line = inr (line, blank);
          })
      at (Passes.past key_apart is) nothing later =
          let key = dropped_key o (last_or b p.source) (pieces_text ps) in
          let last : last_or b (p.source ++ pieces_text later.before)
          ≡ last_or (last_or b p.source) (pieces_text later.before) =
          last_or-append b p.source (pieces_text later.before) in
          let following : pieces_text ps ++ [] ≡ pieces_text later.before ++ key =
          append-nil (pieces_text ps) ∙ later.whole in
          subst (DroppedOff o b (p.source ++ pieces_text ps)) (sym is) (record {
            before = p ∷ later.before;
            whole = ap (λ t. p.source ++ t) later.whole
                ∙ sym (append_assoc p.source (pieces_text later.before) key);
            nothing = ap (λ l. l ++ pieces_items later.before) nothing ∙ later.nothing;
            keyless = (key_apart, later.keyless);
            are = ArePieces.more (subst (λ t. Element o (b ∷ []) p.source t p.gives) following e)
                later.are;
            is = subst (λ c. IsGap o c key []) (sym last) later.is;
            line = elim later.line [
              | inl empty ↦ inl empty
              | inr there ↦ inr (subst (λ c. is_line_end c ≡ true) (sym last) there.0, there.1)
            ];
          })

  -- a gap that ends the text, cut where that key begins
  pub dropped_off : {b : ℕ} {z : Text} → IsGap o b z [] → DroppedOff o b z (dropped_key o b z)
  dropped_off {b} h =
      subst (λ t. DroppedOff o b t (dropped_key o b t)) (sym h.whole)
      (off_pieces h.pieces h.nothing h.are)
