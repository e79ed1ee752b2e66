-- What a gap has before the place of a section's first pair, with its line ended, stands before any text.
use Rattle.std.proofs.Common.{◌≡◌, ◌∙◌, ◌⊎◌, ◌&&◌, ◌||◌, ℕ, Bool, true, false, cond, not, [], ◌∷◌, ◌++◌, None}
use Rattle.std.proofs.Common.{Option, Some, ap, append_assoc, append-nil, inl, inr, refl, subst, sym}
use Rattle.std.proofs.lemmas.Bool.{and_from, both_ways, cond-false, cond-true, false≢true, not-false}
use Rattle.std.proofs.lemmas.Bool.{or_left, or_parts}
use Rattle.std.proofs.lemmas.List.Folds.{list_all-append}
use Rattle.std.specs.List.{list_all}
use Rattle.std.specs.Option.{option_or}
use Rattle.ini_text.specs.Grammar.CharacterKinds.{BeginsWith, is_comment_mark, is_line_end, is_line_feed}
use Rattle.ini_text.specs.Grammar.CharacterKinds.{line_feed}
use Rattle.ini_text.specs.Grammar.Positions.{is_column_one, last_or}
use Rattle.ini_text.specs.Grammar.Strings.{Closes, plain_ends}
use Rattle.ini_text.specs.Parsing.Fronts.{front_of}
use Rattle.ini_text.specs.declared.option.ParseOption.{ParseOption}
use Rattle.ini_text.proofs.LawLemmas.PieceLemmas.{last_or-append}
use Rattle.ini_text.proofs.StringLemmas.FrontLemmas.{front_grows, front_is}
use Rattle.ini.specs.Texts.{Text}
use Rattle.ini_edit.specs.Inside.Spans.{IsGap}
use Rattle.ini_edit.specs.SourceLines.{is_blank_or_line_end}
use Rattle.ini_edit.specs.SourceEditsAdd.{GapPlace, after_header, after_header_comments, after_licence}
use Rattle.ini_edit.specs.SourceEditsAdd.{at_front, first_place, freed, past_blank_lines}
use Rattle.ini_edit.specs.SourceLines.{after_blank_lines, after_comments, after_line, after_line_end}
use Rattle.ini_edit.specs.SourceLines.{blanks_at_end, has_lone_return, is_empty, is_in_comment}
use Rattle.ini_edit.specs.SourceLines.{line_end_at_end}
use Rattle.ini_edit.proofs.CommentRowLemmas.{IsNewLine, comments_gap, comments_whole}
use Rattle.ini_edit.proofs.FirstFrontLemmas.{comment_front, comments_glued, end_front, line_any, line_some}
use Rattle.ini_edit.proofs.FirstPlaceLemmas.{StandsIn, header_feed, header_line}
use Rattle.ini_edit.proofs.GapCutLemmas.{blanks_there}
use Rattle.ini_edit.proofs.GapLemmas.{EndsThere, gap_join, white_gap}
use Rattle.ini_edit.proofs.GapPartLemmas.{gap_nothing}
use Rattle.ini_edit.proofs.LineFrontLemmas.{comments_of, end_ends}
use Rattle.ini_edit.proofs.SourceAddLemmas.{line_ends_gap}
use Rattle.ini_edit.proofs.SourceLineLemmas.{after_comments-rest, after_line-rest, after_line_end-rest}
use Rattle.ini_edit.proofs.SourceLineLemmas.{front_of_all}

pub new_line_all : {e : Text} → IsNewLine e → list_all is_line_end e ≡ true
new_line_all IsNewLine.lf = refl
new_line_all IsNewLine.cr_lf = refl

new_line_white : {e : Text} → IsNewLine e → list_all is_blank_or_line_end e ≡ true
new_line_white IsNewLine.lf = refl
new_line_white IsNewLine.cr_lf = refl

new_line_last : {e : Text} (d : ℕ) → IsNewLine e → is_line_end (last_or d e) ≡ true
new_line_last d IsNewLine.lf = refl
new_line_last d IsNewLine.cr_lf = refl

-- comments begin with a mark
begins_mark : (f rest : Text) → is_empty f ≡ false → after_comments false f ≡ []
    → BeginsWith is_comment_mark (f ++ rest)
begins_mark [] rest some all = absurd (false≢true (sym some))
begins_mark (m ∷ f) rest some all = by (is_comment_mark m) refl all
  where
    by : (b : Bool) → is_comment_mark m ≡ b
        → cond b (after_comments (is_in_comment false m) f) (m ∷ f) ≡ [] → is_comment_mark m ≡ true
    by true is h = is
    by false is h = absurd (let no : m ∷ f ≡ [] = h in cc)

-- all of the comments with which a text begins is comments
comments_all : (t : Text) → after_comments false (front_of t (after_comments false t)) ≡ []
comments_all t =
    let f = comment_front false t in
    subst (λ s. after_comments false s ≡ [])
    (sym (front_is f.0 (after_comments false t) t f.1.whole)) f.1.all

-- what stands before the place, with its line ended; and that it stands before any text
abbrev pub front_ended : Text → GapPlace → Text
front_ended e p = p.before ++ cond p.starts [] e

abbrev pub Stays : ParseOption → ℕ → Text → GapPlace → Type 0
Stays o c e p = (x : Text) → IsGap o c (front_ended e p) x

new_line_closes : {e : Text} → IsNewLine e → (x : Text) → Closes plain_ends (e ++ x)
new_line_closes IsNewLine.lf x = refl
new_line_closes IsNewLine.cr_lf x = refl

glue_any : {o : ParseOption} {e : Text} → IsNewLine e → (b : Bool) {d : ℕ} {x : Text} → IsGap o d
    (cond b [] e) x
glue_any end true = gap_nothing
glue_any end false = line_ends_gap _ (new_line_all end)

front_stays : {o : ParseOption} {c : ℕ} (e gap : Text) → Stays o c e (at_front gap)
front_stays e gap x = gap_nothing

freed_stays : {o : ParseOption} {c : ℕ} (e : Text) (is_last : Bool) (place q : GapPlace)
    → freed is_last place ≡ Some q → Stays o c e place → Stays o c e q
freed_stays {o} {c} e is_last place q is stays x = by taken refl is
  where
    rest : Text
    rest = after_blank_lines place.after

    lines : Text
    lines = front_of place.after rest

    taken : Bool
    taken = not (is_empty (blanks_at_end lines)) && not (is_last && is_empty rest)
        || has_lone_return true lines

    free : GapPlace
    free = record { before = place.before; starts = place.starts; lines = lines; after = rest }

    by : (b : Bool) → taken ≡ b → cond b None (Some free) ≡ Some q → IsGap o c (front_ended e q) x
    by true t h = absurd (let no : ◌≡◌ {A = Option GapPlace} None (Some q) = h in cc)
    by false t h = let same : free ≡ q = cc in subst (λ p. IsGap o c (front_ended e p) x) same (stays x)

module _ {o : ParseOption} {c : ℕ} {gap e : Text} (end : IsNewLine e) where
  header_stays : {r : Text} → (is_line_end c ≡ false) ⊎ BeginsWith is_line_end gap → IsGap o c gap r
      → Stays o c e (after_header gap)
  header_stays named h x =
      let front = front_of gap (after_line gap) in
      gap_join (line_any named (glue_ends (is_empty (line_end_at_end front)) refl) h)
      (glue_any end (not (is_empty (line_end_at_end front))))
    where
      glue_ends : (b : Bool) → is_empty (line_end_at_end (front_of gap (after_line gap))) ≡ b
          → Closes plain_ends (cond
          (not (is_empty (line_end_at_end (front_of gap (after_line gap))))) [] e ++ x)
          ⊎ (is_line_end (last_or c (front_of gap (after_line gap))) ≡ true)
      glue_ends true none =
          inl (subst (λ b. Closes plain_ends (cond (not b) [] e ++ x)) (sym none) (new_line_closes end x))
      glue_ends false some = inr (end_ends c (front_of gap (after_line gap)) some)

  comments_stay : {r : Text} → (is_line_end c ≡ false) ⊎ BeginsWith is_line_end gap → IsGap o c gap r
      → Stays o c e (after_header_comments gap)
  comments_stay named h x = by (is_empty comments || not (is_column_one (front_of gap line))) refl
    where
      line : Text
      line = after_line gap

      rest : Text
      rest = after_comments false line

      comments : Text
      comments = front_of line rest

      glue : Text
      glue = cond (is_column_one comments) [] e

      grown : front_of gap rest ≡ front_of gap line ++ comments
      grown = (front_grows gap line comments rest (after_line-rest gap) (sym
          (after_comments-rest false line))).0

      by : (b : Bool) → (is_empty comments || not (is_column_one (front_of gap line))) ≡ b
          → IsGap o c (front_ended e (after_header_comments gap)) x
      by true none =
          subst (λ p. IsGap o c (front_ended e p) x)
          (sym (cond-true (is_empty comments || not (is_column_one (front_of gap line))) _ _ none))
          (header_stays named h x)
      by false both =
          let parts = or_parts (is_empty comments) _ both in
          let feed = header_feed gap c
          (subst (BeginsWith is_comment_mark) (after_comments-rest false line)
          (begins_mark comments rest parts.0 (comments_all line))) (not-false _ parts.1) in
          let all : IsGap o c (front_of gap line ++ (comments ++ glue)) x =
          gap_join (line_any named (inr (or_left (is_line_feed (last_or c (front_of gap line))) _ feed)) h)
          (comments_gap (comments ++ glue) feed (comments_glued comments end (comments_all line))) in
          subst (λ p. IsGap o c (front_ended e p) x)
          (sym (cond-false (is_empty comments || not (is_column_one (front_of gap line))) _ _ both))
          (subst (λ t. IsGap o c t x)
          (sym (append_assoc (front_of gap line) comments glue) ∙ ap (λ t. t ++ glue) (sym grown)) all)

  licence_stays : {r : Text} → IsGap o c gap r → is_line_feed c ≡ true → Stays o c e (after_licence gap)
  licence_stays h feed x = by (is_empty comments || (is_empty line || not (is_column_one line))) refl
    where
      rest : Text
      rest = after_comments false gap

      comments : Text
      comments = front_of gap rest

      line : Text
      line = front_of rest (after_line_end rest)

      grown : front_of gap (after_line_end rest) ≡ comments ++ line
      grown = (front_grows gap rest line (after_line_end rest) (after_comments-rest false gap) (sym
          (after_line_end-rest rest))).0

      none_after : rest ≡ [] → is_empty line ≡ true
      none_after none = ap (λ t. is_empty (front_of t (after_line_end t))) none ∙ ap is_empty
          (front_of_all [])

      ended : is_empty comments ≡ false → is_empty line ≡ false → is_line_feed
          (last_or line_feed comments) ≡ true
      ended some more =
          let f = comments_of false gap in
          let is = front_is f.0 rest gap f.1.whole in
          elim f.1.ends [
            | inl none ↦ absurd (both_ways (is_empty line) more (none_after none))
            | inr ends ↦ elim ends [
              | inl none ↦ absurd (both_ways (is_empty comments) some (ap is_empty (is ∙ none.0)))
              | inr feed ↦ ap (λ t. is_line_feed (last_or line_feed t)) is ∙ feed line_feed
            ]
          ]

      line_all : list_all is_line_end line ≡ true
      line_all =
          let f = end_front rest in
          subst (λ t. list_all is_line_end t ≡ true)
          (sym (front_is f.0 (after_line_end rest) rest f.1.whole))
          f.1.all

      by : (b : Bool) → (is_empty comments || (is_empty line || not (is_column_one line))) ≡ b
          → IsGap o c (front_ended e (after_licence gap)) x
      by true none =
          subst (λ p. IsGap o c (front_ended e p) x)
          (sym (cond-true (is_empty comments || (is_empty line || not (is_column_one line))) _ _ none))
          (front_stays e gap x)
      by false there =
          let some = or_parts (is_empty comments) _ there in
          let more = or_parts (is_empty line) _ some.1 in
          let are = comments_whole false line_feed comments (λ _. refl) (ended some.0 more.0)
          (comments_all gap) in
          let all : IsGap o c (comments ++ line) x =
          gap_join (comments_gap comments feed are) (line_ends_gap line line_all) in
          subst (λ p. IsGap o c (front_ended e p) x)
          (sym (cond-false (is_empty comments || (is_empty line || not (is_column_one line))) _ _ there))
          (subst (λ t. IsGap o c t x)
          (sym (append-nil (front_of gap (after_line_end rest)) ∙ grown)) all)

  past_stays : (rest : Text) (q : GapPlace) → past_blank_lines gap rest ≡ Some q
      → front_of gap rest ++ rest ≡ gap
      → (rest ≡ []) ⊎ (is_line_end (last_or c (front_of gap rest)) ≡ true)
      → ((x : Text) → Closes plain_ends x ⊎ (is_line_end (last_or c (front_of gap rest)) ≡ true)
      → IsGap o c (front_of gap rest) x) → Stays o c e q
  past_stays rest q is whole ended any x = by indents refl is
    where
      after : Text
      after = after_blank_lines rest

      lines : Text
      lines = front_of rest after

      indents : Bool
      indents = not (is_empty (blanks_at_end lines)) && not (is_empty after)

      starts : Bool
      starts = not (is_empty (line_end_at_end lines))

      glue : Text
      glue = cond starts [] e

      past : GapPlace
      past = record { before = front_of gap after; starts = starts; lines = []; after = after }

      grown : front_of gap after ≡ front_of gap rest ++ lines
      grown = (front_grows gap rest lines after whole (blanks_there rest).whole).0

      glue_all : (b : Bool) → list_all is_blank_or_line_end (cond b [] e) ≡ true
      glue_all true = refl
      glue_all false = new_line_white end

      ends : (b : Bool) → is_empty (line_end_at_end lines) ≡ b
          → is_line_end (last_or line_feed (lines ++ cond (not b) [] e)) ≡ true
      ends false some =
          ap (λ t. is_line_end (last_or line_feed t)) (append-nil lines) ∙ end_ends line_feed lines some
      ends true none =
          ap is_line_end (last_or-append line_feed lines e) ∙ new_line_last (last_or line_feed lines) end

      white : IsGap o (last_or c (front_of gap rest)) (lines ++ glue) x
      white = white_gap (lines ++ glue)
          (list_all-append is_blank_or_line_end lines glue
          ∙ and_from _ _ (blanks_there rest).all (glue_all starts))
          (EndsThere.line (ends (is_empty (line_end_at_end lines)) refl))

      -- where nothing follows the front the line end does
      closed : (rest ≡ []) ⊎ (is_line_end (last_or c (front_of gap rest)) ≡ true)
          → Closes plain_ends ((lines ++ glue) ++ x)
          ⊎ (is_line_end (last_or c (front_of gap rest)) ≡ true)
      closed (inl none) =
          inl (subst (λ t. Closes plain_ends ((front_of t (after_blank_lines t)
          ++ cond (not (is_empty (line_end_at_end (front_of t (after_blank_lines t))))) [] e) ++ x))
          (sym none)
          (new_line_closes end x))
      closed (inr end) = inr end

      by : (b : Bool) → indents ≡ b → cond b None (Some past) ≡ Some q → IsGap o c (front_ended e q) x
      by true t h = absurd (let no : ◌≡◌ {A = Option GapPlace} None (Some q) = h in cc)
      by false t h =
          let same : past ≡ q = cc in
          subst (λ p. IsGap o c (front_ended e p) x) same
          (subst (λ t. IsGap o c t x)
          (sym (append_assoc (front_of gap rest) lines glue) ∙ ap (λ t. t ++ glue) (sym grown))
          (gap_join (any ((lines ++ glue) ++ x) (closed ended)) white))

-- what holds of the places that are looked at holds of the one that is chosen
module _ (gap : Text) (holds : GapPlace → Type 0) (is_last : Bool) (wanted first q : GapPlace)
    (freed_holds : (p : GapPlace) → freed is_last p ≡ Some q → holds p → holds q)
    (past_holds : past_blank_lines gap first.after ≡ Some q → holds q) where
  pub chosen_holds : holds wanted → holds first → (on : Bool)
      → cond on (option_or (freed is_last wanted) (option_or (freed is_last first)
      (past_blank_lines gap first.after))) (Some wanted) ≡ Some q
      → holds q
  chosen_holds one two false h = let same : wanted ≡ q = cc in subst holds same one
  chosen_holds one two true h = at (freed is_last wanted) (freed is_last first) refl refl h
    where
      at : (a b : Option GapPlace) → freed is_last wanted ≡ a → freed is_last first ≡ b
          → option_or a (option_or b (past_blank_lines gap first.after)) ≡ Some q → holds q
      at (Some p) b is_a is_b h = freed_holds wanted (is_a ∙ h) one
      at None (Some p) is_a is_b h = freed_holds first (is_b ∙ h) two
      at None None is_a is_b h = past_holds h

-- the place of a section's first pair
pub first_stays : {o : ParseOption} {c : ℕ} {gap r e : Text} (end : IsNewLine e) (is_general is_last : Bool)
    (q : GapPlace) → StandsIn is_general is_last c gap r → IsGap o c gap r
    → first_place o is_general is_last gap ≡ Some q → (x : Text) → IsGap o c (front_ended e q) x
first_stays {o} {c} {gap} {r} {e} end true is_last q around h is =
    chosen_holds gap (Stays o c e) is_last (after_licence gap) (at_front gap) q
    (λ p. freed_stays e is_last p q)
    (λ past. past_stays end gap q past (ap (λ t. t ++ gap) (front_of_all gap))
    (inr (ap (λ t. is_line_end (last_or c t)) (front_of_all gap)
    ∙ or_left (is_line_feed c) _ (around.general refl)))
    (λ x ended. subst (λ t. IsGap o c t x) (sym (front_of_all gap)) gap_nothing))
    (licence_stays end h (around.general refl)) (front_stays e gap)
    o.enabled_indented_mutiline_value is
first_stays {o} {c} {gap} {r} {e} end false is_last q around h is =
    chosen_holds gap (Stays o c e) is_last (after_header_comments gap)
    (after_header gap) q (λ p. freed_stays e is_last p q)
    (λ past. past_stays end (after_line gap) q past (after_line-rest gap) (header_line gap c)
    (λ x ended. line_any (around.named refl) ended h))
    (comments_stay end (around.named refl) h) (header_stays end (around.named refl) h)
    o.enabled_indented_mutiline_value is

-- where a line end directly follows a header, the place is after it
abbrev HasFront : GapPlace → Type 0
HasFront p = is_empty p.before ≡ false

some_more : (a b : Text) → is_empty a ≡ false → is_empty (a ++ b) ≡ false
some_more [] b some = absurd (false≢true (sym some))
some_more (c ∷ a) b some = refl

pub first_some : (o : ParseOption) (is_last : Bool) (gap : Text) (q : GapPlace) → BeginsWith is_line_end gap
    → first_place o false is_last gap ≡ Some q → is_empty q.before ≡ false
first_some o is_last gap q begins is =
    chosen_holds gap HasFront is_last (after_header_comments gap) (after_header gap) q freed_some past_some
    (by (is_empty comments || not (is_column_one (front_of gap line))) refl)
    (line_some gap begins) o.enabled_indented_mutiline_value is
  where
    line : Text
    line = after_line gap

    rest : Text
    rest = after_comments false line

    comments : Text
    comments = front_of line rest

    more : (lines later : Text) → line ≡ lines ++ later → is_empty (front_of gap later) ≡ false
    more lines later whole =
        ap is_empty (front_grows gap line lines later (after_line-rest gap) whole).0
        ∙ some_more (front_of gap line) lines (line_some gap begins)

    by : (b : Bool) → (is_empty comments || not (is_column_one (front_of gap line))) ≡ b
        → HasFront (after_header_comments gap)
    by true none =
        subst HasFront
        (sym (cond-true (is_empty comments || not (is_column_one (front_of gap line))) _ _ none))
        (line_some gap begins)
    by false some =
        subst HasFront
        (sym (cond-false (is_empty comments || not (is_column_one (front_of gap line))) _ _ some))
        (more comments rest (sym (after_comments-rest false line)))

    freed_some : (p : GapPlace) → freed is_last p ≡ Some q → HasFront p → HasFront q
    freed_some p is some = at taken refl is
      where
        later : Text
        later = after_blank_lines p.after

        lines : Text
        lines = front_of p.after later

        taken : Bool
        taken = not (is_empty (blanks_at_end lines)) && not (is_last && is_empty later)
            || has_lone_return true lines

        free : GapPlace
        free = record { before = p.before; starts = p.starts; lines = lines; after = later }

        at : (b : Bool) → taken ≡ b → cond b None (Some free) ≡ Some q → HasFront q
        at true t h = absurd (let no : ◌≡◌ {A = Option GapPlace} None (Some q) = h in cc)
        at false t h = let same : free ≡ q = cc in subst HasFront same some

    past_some : past_blank_lines gap line ≡ Some q → HasFront q
    past_some is = at indents refl is
      where
        later : Text
        later = after_blank_lines line

        lines : Text
        lines = front_of line later

        indents : Bool
        indents = not (is_empty (blanks_at_end lines)) && not (is_empty later)

        past : GapPlace
        past = record {
          before = front_of gap later;
          starts = not (is_empty (line_end_at_end lines));
          lines = [];
          after = later;
        }

        at : (b : Bool) → indents ≡ b → cond b None (Some past) ≡ Some q → HasFront q
        at true t h = absurd (let no : ◌≡◌ {A = Option GapPlace} None (Some q) = h in cc)
        at false t h = let same : past ≡ q = cc in subst HasFront same
            (more lines later (blanks_there line).whole)
