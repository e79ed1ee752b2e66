-- What a walk over the lines between items knows, and how it goes on by one character.
use Rattle.std.proofs.Common.{◌≡◌, ◌∙◌, ◌<◌, ◌||◌, ◌&&◌, ℕ, Bool, true, false, not, cond, [], ◌∷◌}
use Rattle.std.proofs.Common.{Option, None, Some, ap, ap₂, arith, eqb, eqb-true, inl, inr, length, refl, sym}
use Rattle.std.proofs.lemmas.Bool.{and_parts, cond-false, cond_both, false≢true, false_from_ne_true, or_cases}
use Rattle.std.specs.List.{list_all}
use Rattle.std.specs.Option.{option_or}
use Rattle.ini.specs.Texts.{Text}
use Rattle.ini_text.specs.Grammar.CharacterKinds.{is_blank, is_comment_mark, is_line_end, is_line_feed}
use Rattle.ini_text.specs.Grammar.CharacterKinds.{line_feed, space, tab, begins}
use Rattle.ini_text.specs.declared.option.ParseOption.{ParseOption}
use Rattle.ini_edit.specs.SourceLines.{after_comment, after_comments, are_comments, are_quiet}
use Rattle.ini_edit.specs.SourceLines.{CommentState, begins_solid, blanks_at_end, comments_at_end}
use Rattle.ini_edit.specs.SourceLines.{indentation_at_end, is_line, is_outside, last_solid_from}
use Rattle.ini_edit.specs.SourceLines.{LinePlace, next_comment, next_place, quiet_lines_from, stays_quiet}
use Rattle.ini_edit.proofs.SourceLineLemmas.{after_comment-rest, rest_le}

-- comment lines
comment_goes_on : (cs : Text) → after_comments true cs ≡ after_comments false (after_comment cs)
comment_goes_on [] = refl
comment_goes_on (c ∷ cs) =
    elim (is_line_feed c) as (λ b. after_comments (not b) cs
    ≡ after_comments false (cond b cs (after_comment cs))) [
      | true ↦ refl
      | false ↦ comment_goes_on cs
    ]

pub comment_passed : (t : Text) → begins is_comment_mark t ≡ true
    → after_comments false (after_comment t) ≡ after_comments false t
comment_passed [] h = cc
comment_passed (c ∷ cs) h =
    sym (ap (λ b. cond b (after_comments (b && not (is_line_feed c)) cs) (c ∷ cs)) h
    ∙ comment_goes_on (c ∷ cs))

pub no_comment : (t : Text) → begins is_comment_mark t ≡ false → after_comments false t ≡ t
no_comment [] h = refl
no_comment (c ∷ cs) h = cond-false (is_comment_mark c) _ _ h

pub comment_shorter : (t : Text) → begins is_comment_mark t ≡ true → length (after_comment t) < length t
comment_shorter [] h = absurd (let no : false ≡ true = h in cc)
comment_shorter (c ∷ cs) h =
    cond_both (is_line_feed c) cs (after_comment cs) (λ x. length x < length (c ∷ cs)) (λ e. omega arith)
    (λ e. omega (arith, rest_le cs (after_comment cs) (after_comment-rest cs)))

-- a character that ends a line, or one that doesn't
abbrev pub line_start : Bool → ℕ
line_start true = line_feed
line_start false = space

feed_starts : (b : Bool) → is_line_feed (line_start b) ≡ b
feed_starts true = refl
feed_starts false = refl

end_starts : (b : Bool) → is_line_end (line_start b) ≡ b
end_starts true = refl
end_starts false = refl

-- the comments at the end, where those from `comments` on go on to the rest, if `comment` says so
abbrev pub comments_so_far : (column comment : Bool) → (comments rest : Text) → Text
comments_so_far column comment comments rest =
    cond (comment && are_comments (not column) rest) comments (comments_at_end (line_start column) rest)

pub comments_start : (before : ℕ) (t : Text)
    → comments_at_end (line_start (is_line_feed before)) t ≡ comments_at_end before t
comments_start before [] = refl
comments_start before (c ∷ cs) =
    ap (λ b. cond (b && are_comments false (c ∷ cs)) (c ∷ cs) (comments_at_end c cs))
    (feed_starts (is_line_feed before))

pub comments_more : (column comment : Bool) (c : ℕ) (comments after : Text)
    → comments_so_far column comment comments (c ∷ after)
    ≡ comments_so_far (is_line_feed c) (cond column (is_comment_mark c) comment)
    (cond (column && (is_comment_mark c && not comment)) (c ∷ after) comments) after
comments_more column comment c comments after =
    ap (λ e. cond (comment && are_comments (not column) (c ∷ after)) comments
    (cond (is_line_feed (line_start column) && are_comments false (c ∷ after)) (c ∷ after) e))
    (sym (comments_start c after))
    ∙ by column comment (is_comment_mark c)
  where
    by : (column comment m : Bool)
        → cond (comment
        && ((not column || m) && are_comments ((not column || m) && not (is_line_feed c)) after))
        comments
        (cond (is_line_feed (line_start column) && (m && are_comments (m && not (is_line_feed c)) after))
        (c ∷ after) (comments_at_end (line_start (is_line_feed c)) after))
        ≡ comments_so_far (is_line_feed c) (cond column m comment)
        (cond (column && (m && not comment)) (c ∷ after) comments) after
    by true true true =
        elim (are_comments (not (is_line_feed c)) after) as (λ b. cond b comments
        (cond b (c ∷ after) (comments_at_end (line_start (is_line_feed c)) after))
        ≡ cond b comments (comments_at_end (line_start (is_line_feed c)) after)) [
          | true ↦ refl
          | false ↦ refl
        ]
    by true true false = refl
    by true false true = refl
    by true false false = refl
    by false true m = refl
    by false false m = refl

pub comments_step : (column comment : Bool) (comments : Text) {marked : Bool} {c : ℕ}
    {newer rest after whole : Text}
    → rest ≡ c ∷ after → marked ≡ cond column (is_comment_mark c) comment
    → newer ≡ cond (column && (is_comment_mark c && not comment)) rest comments
    → comments_so_far column comment comments rest ≡ whole
    → comments_so_far (is_line_feed c) marked newer after ≡ whole
comments_step column comment comments {c = c} {after = after} is marks new so_far =
    ap₂ (λ m n. comments_so_far (is_line_feed c) m n after) marks
    (new ∙ ap (λ r. cond (column && (is_comment_mark c && not comment)) r comments) is)
    ∙ sym (comments_more column comment c comments after)
    ∙ ap (comments_so_far column comment comments) (sym is) ∙ so_far

no_line_end : (c : ℕ) → is_blank c ≡ true → is_line_end c ≡ false
no_line_end c h = elim (or_cases (eqb c space) (eqb c tab) h) [
  | inl e ↦ rw (eqb-true c space e) refl
  | inr e ↦ rw (eqb-true c tab e) refl
]

-- the blanks at the end that begin a line
abbrev pub indentation_so_far : (start indented : Bool) → (blanks rest : Text) → Text
indentation_so_far start indented blanks rest =
    cond (indented && list_all is_blank rest) blanks (indentation_at_end (line_start start) rest)

pub indentation_start : (before : ℕ) (t : Text)
    → indentation_at_end (line_start (is_line_end before)) t ≡ indentation_at_end before t
indentation_start before [] = refl
indentation_start before (c ∷ cs) =
    ap (λ b. cond (b && list_all is_blank (c ∷ cs)) (c ∷ cs) (indentation_at_end c cs))
    (end_starts (is_line_end before))

pub indentation_more : (start indented : Bool) (c : ℕ) (blanks after : Text)
    → (indented && start) ≡ false
    → indentation_so_far start indented blanks (c ∷ after)
    ≡ indentation_so_far (is_line_end c) ((indented || (start && is_blank c)) && is_blank c)
    (cond (start && is_blank c) (c ∷ after) blanks) after
indentation_more start indented c blanks after apart =
    ap (λ e. cond (indented && list_all is_blank (c ∷ after)) blanks
    (cond (is_line_end (line_start start) && list_all is_blank (c ∷ after)) (c ∷ after) e))
    (sym (indentation_start c after))
    ∙ by start indented (is_blank c) apart
  where
    by : (start indented m : Bool) → (indented && start) ≡ false
        → cond (indented && (m && list_all is_blank after)) blanks
        (cond (is_line_end (line_start start) && (m && list_all is_blank after)) (c ∷ after)
        (indentation_at_end (line_start (is_line_end c)) after))
        ≡ indentation_so_far (is_line_end c) ((indented || (start && m)) && m)
        (cond (start && m) (c ∷ after) blanks) after
    by true true m h = absurd (let no : true ≡ false = h in cc)
    by true false true h = refl
    by true false false h = refl
    by false true true h = refl
    by false true false h = refl
    by false false true h = refl
    by false false false h = refl

pub indentation_step : (start indented : Bool) (blanks : Text) {goes_on : Bool} {c : ℕ}
    {newer rest after whole : Text}
    → rest ≡ c ∷ after → goes_on ≡ ((indented || (start && is_blank c)) && is_blank c)
    → newer ≡ cond (start && is_blank c) rest blanks
    → (indented && start) ≡ false → indentation_so_far start indented blanks rest ≡ whole
    → indentation_so_far (is_line_end c) goes_on newer after ≡ whole
indentation_step start indented blanks {c = c} {after = after} is goes new apart so_far =
    ap₂ (λ m n. indentation_so_far (is_line_end c) m n after) goes
    (new ∙ ap (λ r. cond (start && is_blank c) r blanks) is)
    ∙ sym (indentation_more start indented c blanks after apart)
    ∙ ap (indentation_so_far start indented blanks) (sym is) ∙ so_far

pub blank_starts_none : (b : Bool) (c : ℕ) → ((b && is_blank c) && is_line_end c) ≡ false
blank_starts_none b c =
    false_from_ne_true ((b && is_blank c) && is_line_end c)
    (λ h. let both = and_parts (b && is_blank c) (is_line_end c) h in
    let blank = (and_parts b (is_blank c) both.0).1 in
    false≢true (sym (no_line_end c blank) ∙ both.1))

-- the blanks at the end, of which those from `blanks` on go on to the rest
abbrev pub blanks_so_far : (blanks rest : Text) → Text
blanks_so_far blanks rest = cond (list_all is_blank rest) blanks (blanks_at_end rest)

pub blanks_start : (t : Text) → blanks_so_far t t ≡ blanks_at_end t
blanks_start [] = refl
blanks_start (c ∷ cs) =
    elim (list_all is_blank (c ∷ cs)) as (λ b. cond b (c ∷ cs) (cond b (c ∷ cs) (blanks_at_end cs))
    ≡ cond b (c ∷ cs) (blanks_at_end cs)) [
      | true ↦ refl
      | false ↦ refl
    ]

pub blanks_more : (c : ℕ) (blanks after : Text)
    → blanks_so_far blanks (c ∷ after) ≡ blanks_so_far (cond (is_blank c) blanks after) after
blanks_more c blanks after =
    elim (is_blank c) as (λ m. cond (m && list_all is_blank after) blanks
    (cond (m && list_all is_blank after) (c ∷ after) (blanks_at_end after))
    ≡ blanks_so_far (cond m blanks after) after) [
      | true ↦ elim (list_all is_blank after) as (λ b. cond b blanks
          (cond b (c ∷ after) (blanks_at_end after)) ≡ cond b blanks (blanks_at_end after)) [
            | true ↦ refl
            | false ↦ refl
          ]
      | false ↦ sym (blanks_start after)
    ]

pub blanks_step : (blanks : Text) {c : ℕ} {newer rest after whole : Text} → rest ≡ c ∷ after
    → newer ≡ cond (is_blank c) blanks after → blanks_so_far blanks rest ≡ whole
    → blanks_so_far newer after ≡ whole
blanks_step blanks {c = c} {after = after} is new so_far =
    ap (λ n. blanks_so_far n after) new ∙ sym (blanks_more c blanks after)
    ∙ ap (blanks_so_far blanks) (sym is) ∙ so_far

-- the quiet lines at the end, where those from `lines` on go on to the rest, if `quiet` says so
abbrev pub quiet_so_far : (o : ParseOption) → LinePlace → (quiet : Bool) → (lines rest : Text) → Text
quiet_so_far o p quiet lines rest =
    cond (quiet && are_quiet o p rest) lines (quiet_lines_from o p rest)

pub quiet_more : (o : ParseOption) (p : LinePlace) (quiet : Bool) (c : ℕ) (lines after : Text)
    → quiet_so_far o p quiet lines (c ∷ after) ≡ quiet_so_far o (next_place o p c after)
    (stays_quiet o p c && (quiet || is_line p))
    (cond (stays_quiet o p c && (not quiet && is_line p)) (c ∷ after) lines) after
quiet_more o p quiet c lines after = by quiet (is_line p) (stays_quiet o p c)
  where
    all : Bool
    all = are_quiet o (next_place o p c after) after

    by : (quiet line m : Bool)
        → cond (quiet && (m && all)) lines
        (cond (line && (m && all)) (c ∷ after) (quiet_lines_from o (next_place o p c after) after))
        ≡ quiet_so_far o (next_place o p c after) (m && (quiet || line))
        (cond (m && (not quiet && line)) (c ∷ after) lines) after
    by true true true =
        elim all as (λ b. cond b lines
        (cond b (c ∷ after) (quiet_lines_from o (next_place o p c after) after))
        ≡ cond b lines (quiet_lines_from o (next_place o p c after) after)) [
          | true ↦ refl
          | false ↦ refl
        ]
    by true true false = refl
    by true false true = refl
    by true false false = refl
    by false true true = refl
    by false true false = refl
    by false false true = refl
    by false false false = refl

pub quiet_step : (o : ParseOption) (p : LinePlace) (quiet : Bool) {q : LinePlace} {goes_on : Bool} {c : ℕ}
    {rest after new whole : Text} (lines : Text) → rest ≡ c ∷ after
    → goes_on ≡ (stays_quiet o p c && (quiet || is_line p))
    → new ≡ cond (stays_quiet o p c && (not quiet && is_line p)) rest lines → q ≡ next_place o p c after
    → quiet_so_far o p quiet lines rest ≡ whole → quiet_so_far o q goes_on new after ≡ whole
quiet_step o p quiet {c = c} {after = after} {new} lines is marks lines_are next so_far =
    let m = stays_quiet o p c in
    let starts : new ≡ cond (m && (not quiet && is_line p)) (c ∷ after) lines =
    lines_are ∙ ap (λ t. cond (m && (not quiet && is_line p)) t lines) is in
    rw (marks, starts, next)
    (sym (quiet_more o p quiet c lines after) ∙ ap (quiet_so_far o p quiet lines) (sym is) ∙ so_far)

-- the last solid part, which is in the rest or is this one
abbrev pub solid_so_far : CommentState → (before : ℕ) → Option Text → (rest : Text) → Option Text
solid_so_far state before solid rest = option_or (last_solid_from state before rest) solid

pub solid_more : (state : CommentState) (before : ℕ) (solid : Option Text) (c : ℕ) (after : Text)
    → solid_so_far state before solid (c ∷ after)
    ≡ solid_so_far (next_comment state before c) c
    (cond (is_outside state && begins_solid before c) (Some (c ∷ after)) solid) after
solid_more state before solid c after =
    by (last_solid_from (next_comment state before c) c after) (is_outside state && begins_solid before c)
  where
    by : (x : Option Text) (b : Bool) → option_or (option_or x (cond b (Some (c ∷ after)) None)) solid
        ≡ option_or x (cond b (Some (c ∷ after)) solid)
    by None true = refl
    by None false = refl
    by (Some x) b = refl
