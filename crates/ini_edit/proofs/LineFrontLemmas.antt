-- How a line, comments and blank lines end: with a line end, unless nothing follows.
use Rattle.std.proofs.Common.{◌≡◌, ◌∙◌, ◌⊎◌, ◌==◌, ◌&&◌, ◌||◌, ℕ, Bool, true, false, not, [], ◌∷◌}
use Rattle.std.proofs.Common.{◌++◌, ap, inl, inr, refl, subst, sym}
use Rattle.std.proofs.lemmas.Bool.{and_from, and_parts, both_ways, cond-false, cond-true, false≢true}
use Rattle.std.proofs.lemmas.Bool.{not-false, or_cases, or_left, or_parts, or_right}
use Rattle.std.specs.List.{list_all}
use Rattle.ini_text.specs.Grammar.CharacterKinds.{BeginsWithNo, carriage_return, is_blank}
use Rattle.ini_text.specs.Grammar.CharacterKinds.{is_comment_mark, is_line_end, is_line_feed}
use Rattle.ini_text.specs.Grammar.Positions.{last_or}
use Rattle.ini_text.specs.Parsing.Fronts.{front_of}
use Rattle.ini_text.proofs.LawLemmas.PieceLemmas.{last_or-append}
use Rattle.ini.specs.Texts.{Text}
use Rattle.ini_edit.specs.SourceLines.{is_blank_or_line_end, after_comments, after_line, after_line_feed}
use Rattle.ini_edit.specs.SourceLines.{blanks_at_end, is_empty, is_in_comment, line_end_at_end}
use Rattle.ini_edit.proofs.DeletedLinesLemmas.{IsLineEnd, end_is, end_last}
use Rattle.ini_edit.proofs.GapCutLemmas.{blanks_later}
use Rattle.ini_edit.proofs.SourceLineLemmas.{line_end_at_end-rest}

-- a line end at a text's end is its last character
pub last_end : (d : ℕ) (e : Text) → IsLineEnd e → is_empty e ≡ false → is_line_end (last_or d e) ≡ true
last_end d e IsLineEnd.none some = absurd (false≢true (sym some))
last_end d e IsLineEnd.lf some = refl
last_end d e IsLineEnd.cr_lf some = refl
last_end d e IsLineEnd.cr some = refl

pub end_ends : (d : ℕ) (t : Text) → is_empty (line_end_at_end t) ≡ false → is_line_end (last_or d t) ≡ true
end_ends d t some =
    ap (λ u. is_line_end (last_or d u)) (sym (line_end_at_end-rest t))
    ∙ ap is_line_end (last_or-append d (front_of t (line_end_at_end t)) (line_end_at_end t))
    ∙ last_end _ (line_end_at_end t) (end_is t) some

pub ends_some : (d : ℕ) (t : Text) → is_empty t ≡ false → is_line_end (last_or d t) ≡ true
    → is_empty (line_end_at_end t) ≡ false
ends_some d [] some end = absurd (false≢true (sym some))
ends_some d (c ∷ t) some end = at (line_end_at_end (c ∷ t)) (end_last 0 d (c ∷ t) (λ e. cc) end)
  where
    at : (e : Text) → last_or 0 e ≡ last_or d (c ∷ t) → is_empty e ≡ false
    at [] same = absurd (false≢true (ap is_line_end same ∙ end))
    at (x ∷ e) same = refl

-- a line's own text ends with its line end, unless nothing follows
pub record IsLine (t front rest : Text) : Type 0 where
  pub whole : front ++ rest ≡ t
  pub ends : (rest ≡ []) ⊎ ((d : ℕ) → is_line_end (last_or d front) ≡ true)

pub line_of : (t : Text) → (front : Text) × IsLine t front (after_line t)
line_of [] = ([], record { whole = refl; ends = inl refl })
line_of (c ∷ cs) = by (is_line_end c) (is_line_feed c) refl refl (line_of cs)
  where
    feed_next : (u : Text) → (c == carriage_return) ≡ true
        → (front : Text) × (front ++ after_line_feed u ≡ u) × ((d : ℕ)
        → is_line_end (last_or d (c ∷ front)) ≡ true)
    feed_next [] h = ([], refl, λ d. or_right (is_line_feed c) _ h)
    feed_next (e ∷ u) h = at (is_line_feed e) refl
      where
        at : (b : Bool) → is_line_feed e ≡ b
            → (front : Text) × (front ++ after_line_feed (e ∷ u) ≡ e ∷ u)
            × ((d : ℕ) → is_line_end (last_or d (c ∷ front)) ≡ true)
        at true feed = (e ∷ [], ap (λ l. e ∷ l) (cond-true _ _ _ feed), λ d. or_left (is_line_feed e) _ feed)
        at false other = ([], cond-false _ _ _ other, λ d. or_right (is_line_feed c) _ h)

    by : (x y : Bool) → is_line_end c ≡ x → is_line_feed c ≡ y
        → ((front : Text) × IsLine cs front (after_line cs))
        → (front : Text) × IsLine (c ∷ cs) front (after_line (c ∷ cs))
    by false y other feed more = (
      c ∷ more.0,
      subst (IsLine (c ∷ cs) (c ∷ more.0)) (sym (cond-false _ _ _ other)) (record {
        whole = ap (λ l. c ∷ l) more.1.whole;
        ends = elim more.1.ends [ inl none ↦ inl none | inr end ↦ inr (λ d. end c) ];
      }),
    )
    by true true end feed more = (
      c ∷ [],
      subst (IsLine (c ∷ cs) (c ∷ [])) (sym (cond-true _ _ _ end ∙ cond-true _ _ _ feed)) (record {
        whole = refl;
        ends = inr (λ d. end);
      }),
    )
    by true false end feed more =
        let is : (c == carriage_return) ≡ true = elim (or_cases (is_line_feed c) (c == carriage_return) end)
        [ inl f ↦ absurd (both_ways (is_line_feed c) feed f) | inr r ↦ r ] in
        let next = feed_next cs is in (
          c ∷ next.0,
          subst (IsLine (c ∷ cs) (c ∷ next.0))
              (sym (cond-true _ _ _ end ∙ cond-false _ _ _ feed ∙ cond-true _ _ _ is)) (record {
                whole = ap (λ l. c ∷ l) next.1;
                ends = inr next.2;
              }),
        )

-- comments end with LF, unless nothing follows
pub record EndsComments (inside : Bool) (t front rest : Text) : Type 0 where
  pub whole : front ++ rest ≡ t
  pub ends : (rest ≡ []) ⊎ (((front ≡ []) × (inside ≡ false)) ⊎ ((d : ℕ)
      → is_line_feed (last_or d front) ≡ true))

pub comments_of : (inside : Bool) (t : Text) → (front : Text)
    × EndsComments inside t front (after_comments inside t)
comments_of inside [] = ([], record { whole = refl; ends = inl refl })
comments_of inside (c ∷ cs) =
    by (inside || is_comment_mark c) refl (comments_of (is_in_comment inside c) cs)
  where
    by : (b : Bool) → (inside || is_comment_mark c) ≡ b
        → ((front : Text) × EndsComments (is_in_comment inside c) cs front
        (after_comments (is_in_comment inside c) cs))
        → (front : Text) × EndsComments inside (c ∷ cs) front (after_comments inside (c ∷ cs))
    by false other more = (
      [],
      subst (EndsComments inside (c ∷ cs) []) (sym (cond-false _ _ _ other)) (record {
        whole = refl;
        ends = inr (inl (refl, (or_parts inside (is_comment_mark c) other).0));
      }),
    )
    by true goes more = (
      c ∷ more.0,
      subst (EndsComments inside (c ∷ cs) (c ∷ more.0)) (sym (cond-true _ _ _ goes)) (record {
        whole = ap (λ l. c ∷ l) more.1.whole;
        ends = elim more.1.ends [
          | inl none ↦ inl none
          | inr h ↦ elim h [
            | inl here ↦
                inr (inr (λ d. ap (λ f. is_line_feed (last_or c f)) here.0
                ∙ not-false _ (sym (ap (λ b. b && not (is_line_feed c)) goes) ∙ here.1)))
            | inr end ↦ inr (inr (λ d. end c))
          ]
        ];
      }),
    )

-- blank lines of which no blanks are left over end with a line end
pub none_left : (t : Text) → is_empty t ≡ true → t ≡ []
none_left [] h = refl
none_left (x ∷ t) h = absurd (false≢true h)

pub lines_ended : (d x : ℕ) (t : Text) → list_all is_blank_or_line_end (x ∷ t) ≡ true
    → blanks_at_end (x ∷ t) ≡ [] → is_line_end (last_or d (x ∷ t)) ≡ true
lines_ended d x [] all none =
    by (is_blank x) refl (or_cases (is_blank x) (is_line_end x) (and_parts (is_blank_or_line_end x) _ all).0)
  where
    by : (b : Bool) → is_blank x ≡ b → (is_blank x ≡ true) ⊎ (is_line_end x ≡ true) → is_line_end x ≡ true
    by true blank kind =
        absurd (let no : x ∷ [] ≡ [] =
        sym (cond-true (is_blank x && true) (x ∷ []) [] (and_from (is_blank x) true blank refl))
        ∙ none in cc)
    by false other kind =
        elim kind [ inl blank ↦ absurd (both_ways (is_blank x) other blank) | inr end ↦ end ]
lines_ended d x (y ∷ t) all none =
    lines_ended x y t (and_parts (is_blank_or_line_end x) _ all).1 (blanks_later x (y ∷ t) none)

pub kinds : (t : Text) → BeginsWithNo is_blank_or_line_end t → BeginsWithNo is_blank t
    × BeginsWithNo is_line_end t
kinds [] h = (tt, tt)
kinds (x ∷ t) h = or_parts (is_blank x) (is_line_end x) h

pub apart_both : (t r : Text) → BeginsWithNo is_blank_or_line_end t → BeginsWithNo is_blank_or_line_end r
    → BeginsWithNo is_blank_or_line_end (t ++ r)
apart_both [] r h g = g
apart_both (x ∷ t) r h g = h
