-- What stays of the gap after a section's last pair, once the section is taken out: a gap of its own.
use Rattle.std.proofs.Common.{◌≡◌, ◌≢◌, ◌∙◌, ◌&&◌, ℕ, Bool, true, false, not, [], ◌∷◌}
use Rattle.std.proofs.Common.{◌++◌, ap, append_assoc, append-nil, inl, inr, refl, subst, sym}
use Rattle.std.specs.Prelude.{◌⊎◌}
use Rattle.std.proofs.lemmas.Bool.{and_from, and_parts, both_ways, cases_Bool, cond-false, cond-true}
use Rattle.std.proofs.lemmas.Bool.{false≢true, false_from_ne_true}
use Rattle.std.proofs.lemmas.List.Folds.{list_all-append}
use Rattle.std.specs.List.{list_all}
use Rattle.ini_text.specs.Grammar.CharacterKinds.{BeginsWith, BeginsWithNo, is_blank, is_comment_mark}
use Rattle.ini_text.specs.Grammar.CharacterKinds.{is_line_end, is_line_feed}
use Rattle.ini_text.specs.Grammar.Pieces.{pieces_text}
use Rattle.ini_text.specs.Grammar.Positions.{last_or}
use Rattle.ini_text.specs.declared.option.ParseOption.{ParseOption}
use Rattle.ini_text.proofs.GrammarLemmas.KindLemmas.{comment_mark-apart, line_end_no_blank}
use Rattle.ini_text.proofs.StringLemmas.FrontLemmas.{front_is}
use Rattle.ini_text.specs.Parsing.Fronts.{front_of}
use Rattle.ini.specs.Texts.{Text}
use Rattle.ini_edit.specs.Inside.Spans.{IsGap}
use Rattle.ini_edit.specs.SourceEditsSections.{section_rest}
use Rattle.ini_edit.specs.SourceLines.{are_comments, comments_at_end, indentation_at_end}
use Rattle.ini_edit.proofs.DroppedKeyLemmas.{dropped_off}
use Rattle.ini_edit.proofs.EndingLemmas.{no_feed_by}
use Rattle.ini_edit.proofs.GapPartLemmas.{LineStarts, gap_nothing, gap_parts}
use Rattle.ini_edit.proofs.QuietLemmas.{line_end_no_mark}
use Rattle.ini_edit.proofs.SourceLineLemmas.{dropped_key-rest}

-- a text up to the blanks at its end that begin a line
pub record Unindented (b : ℕ) (t : Text) : Type 0 where
  pub front : Text
  pub whole : t ≡ front ++ indentation_at_end b t
  pub bare : indentation_at_end b front ≡ []
  pub blank : list_all is_blank (indentation_at_end b t) ≡ true
  pub line : (indentation_at_end b t ≡ []) ⊎ (is_line_end (last_or b front) ≡ true)

pub unindented : (b : ℕ) (t : Text) → Unindented b t
unindented b [] = record { front = []; whole = refl; bare = refl; blank = refl; line = inl refl }
unindented b (c ∷ cs) =
    elim (cases_Bool (is_line_end b && list_all is_blank (c ∷ cs))) [
      | inl is ↦
          let parts = and_parts (is_line_end b) (list_all is_blank (c ∷ cs)) is in
          let all : indentation_at_end b (c ∷ cs) ≡ c ∷ cs = cond-true _ _ _ is in
          record {
            front = [];
            whole = sym all;
            bare = refl;
            blank = ap (list_all is_blank) all ∙ parts.1;
            line = inr parts.0;
          }
      | inr other ↦ further other (unindented c cs)
    ]
  where
    further : (is_line_end b && list_all is_blank (c ∷ cs)) ≡ false → Unindented c cs
        → Unindented b (c ∷ cs)
    further other u =
        let later : indentation_at_end b (c ∷ cs) ≡ indentation_at_end c cs = cond-false _ _ _ other in
        let w = indentation_at_end c cs in
        record {
          front = c ∷ u.front;
          whole = ap (λ t. c ∷ t) u.whole ∙ ap (λ t. c ∷ (u.front ++ t)) (sym later);
          bare =
              cond-false (is_line_end b && list_all is_blank (c ∷ u.front)) _ _
              (false_from_ne_true (is_line_end b && list_all is_blank (c ∷ u.front)) (λ h.
              let parts = and_parts (is_line_end b) (list_all is_blank (c ∷ u.front)) h in
              let all : list_all is_blank (c ∷ cs) ≡ true =
              ap (λ t. list_all is_blank (c ∷ t)) u.whole
              ∙ list_all-append is_blank (c ∷ u.front) w
              ∙ and_from (list_all is_blank (c ∷ u.front)) (list_all is_blank w) parts.1 u.blank in
              both_ways (is_line_end b && list_all is_blank (c ∷ cs)) other
              (and_from (is_line_end b) (list_all is_blank (c ∷ cs)) parts.0 all)))
              ∙ u.bare;
          blank = ap (list_all is_blank) later ∙ u.blank;
          line = elim u.line [ inl none ↦ inl (later ∙ none) | inr end ↦ inr end ];
        }

-- the comment lines at a text's end
record Commented (b : ℕ) (t : Text) : Type 0 where
  front : Text
  whole : t ≡ front ++ comments_at_end b t
  are : are_comments false (comments_at_end b t) ≡ true
  line : (comments_at_end b t ≡ []) ⊎ (is_line_feed (last_or b front) ≡ true)

commented : (b : ℕ) (t : Text) → Commented b t
commented b [] = record { front = []; whole = refl; are = refl; line = inl refl }
commented b (c ∷ cs) =
    elim (cases_Bool (is_line_feed b && are_comments false (c ∷ cs))) [
      | inl is ↦
          let parts = and_parts (is_line_feed b) (are_comments false (c ∷ cs)) is in
          let all : comments_at_end b (c ∷ cs) ≡ c ∷ cs = cond-true _ _ _ is in
          record {
            front = [];
            whole = sym all;
            are = ap (are_comments false) all ∙ parts.1;
            line = inr parts.0;
          }
      | inr other ↦
          let later : comments_at_end b (c ∷ cs) ≡ comments_at_end c cs = cond-false _ _ _ other in
          let u = commented c cs in
          record {
            front = c ∷ u.front;
            whole = ap (λ t. c ∷ t) u.whole ∙ ap (λ t. c ∷ (u.front ++ t)) (sym later);
            are = ap (are_comments false) later ∙ u.are;
            line = elim u.line [ inl none ↦ inl (later ∙ none) | inr end ↦ inr end ];
          }
    ]

-- comment lines begin with a mark, if with anything
comments_begin : (t : Text) → are_comments false t ≡ true → BeginsWithNo is_line_end t
comments_begin [] h = tt
comments_begin (c ∷ t) h =
    false_from_ne_true (is_line_end c)
    (λ end. both_ways (is_comment_mark c) (line_end_no_mark c end)
    (and_parts (is_comment_mark c) _ h).0)

blanks_begin : (t : Text) → list_all is_blank t ≡ true → BeginsWithNo is_line_end t
blanks_begin [] h = tt
blanks_begin (c ∷ t) h =
    false_from_ne_true (is_line_end c)
    (λ end. both_ways (is_blank c) (line_end_no_blank c end) (and_parts (is_blank c) _ h).0)

blanks_no_mark : (t : Text) → list_all is_blank t ≡ true → BeginsWith is_comment_mark t → ⊥
blanks_no_mark [] h mark = false≢true (sym mark)
blanks_no_mark (c ∷ t) h mark =
    both_ways (is_blank c) (comment_mark-apart c mark).0 (and_parts (is_blank c) (list_all is_blank t) h).0

pub blanks_no_feed : (t : Text) → list_all is_blank t ≡ true → list_all (λ c. not (is_line_feed c)) t ≡ true
blanks_no_feed [] h = refl
blanks_no_feed (c ∷ t) h =
    let parts = and_parts (is_blank c) (list_all is_blank t) h in
    let no_feed = no_feed_by is_blank c refl parts.0 in
    and_from (not (is_line_feed c)) _ (ap not no_feed) (blanks_no_feed t parts.1)

-- What stays of a gap after this character, before a text: a gap, which begins a line if a blank or a
-- comment begins it, the comment in column one.
pub record Rest (o : ParseOption) (b : ℕ) (z rest R : Text) : Type 0 where
  pub before : Text
  pub whole : z ≡ before ++ rest
  pub is : IsGap o (last_or b before) rest R
  pub line : BeginsWith is_blank rest → is_line_end (last_or b before) ≡ true
  pub column : BeginsWith is_comment_mark rest → is_line_feed (last_or b before) ≡ true
  pub no_end : BeginsWithNo is_line_end rest

module _ {o : ParseOption} (b : ℕ) (z : Text) {R : Text} (some : R ≢ []) (g : IsGap o b z R) where
  -- before another header: comments, and what indents the header
  pub rest_of_next : Rest o b z (section_rest o false b z) R
  rest_of_next =
      let u = unindented b z in
      let w = indentation_at_end b z in
      let front : front_of z w ≡ u.front = front_is u.front w z (sym u.whole) in
      let v = commented b u.front in
      let s = comments_at_end b u.front in
      let is : section_rest o false b z ≡ s ++ w = ap (λ t. comments_at_end b t ++ w) front in
      let text : z ≡ v.front ++ (s ++ w) =
      u.whole ∙ ap (λ t. t ++ w) v.whole ∙ append_assoc v.front s w in
      subst (λ t. Rest o b z t R) (sym is) (at s w v.front v.are u.blank text v.line
      (elim u.line [
        | inl none ↦ inl none
        | inr end ↦ inr (subst (λ t. is_line_end (last_or b t) ≡ true)
            v.whole end)
      ]))
    where
      at : (s w front : Text) → are_comments false s ≡ true → list_all is_blank w ≡ true
          → z ≡ front ++ (s ++ w)
          → (s ≡ []) ⊎ (is_line_feed (last_or b front) ≡ true)
          → (w ≡ []) ⊎ (is_line_end (last_or b (front ++ s)) ≡ true) → Rest o b z (s ++ w) R
      at [] [] front are blank text feed end = record {
        before = front;
        whole = text;
        is = gap_nothing;
        line = λ h. absurd (false≢true (sym h));
        column = λ h. absurd (false≢true (sym h));
        no_end = tt;
      }
      at [] (c ∷ w) front are blank text feed (inl none) =
          absurd (let no : c ∷ w ≡ [] = none in cc)
      at [] (c ∷ w) front are blank text feed (inr end) =
          let line : is_line_end (last_or b front) ≡ true =
          subst (λ t. is_line_end (last_or b t) ≡ true) (append-nil front) end in
          record {
            before = front;
            whole = text;
            is = (gap_parts front (c ∷ w) some
                (LineStarts.before_no_feed line (blanks_no_feed (c ∷ w) blank))
                (subst (λ t. IsGap o b t R) text g)).rest;
            line = λ h. line;
            column = λ h. absurd (blanks_no_mark (c ∷ w) blank h);
            no_end = blanks_begin (c ∷ w) blank;
          }
      at (c ∷ s) w front are blank text (inl none) end = absurd (let no : c ∷ s ≡ [] = none in cc)
      at (c ∷ s) w front are blank text (inr feed) end =
          let parts : LineStarts (last_or b front) ((c ∷ s) ++ w) = LineStarts.by_feed feed in
          record {
            before = front;
            whole = text;
            is = (gap_parts front ((c ∷ s) ++ w) some parts (subst (λ t. IsGap o b t R) text g)).rest;
            line = λ h. absurd (both_ways (is_blank c)
                (comment_mark-apart c (and_parts (is_comment_mark c) _ are).0).0 h);
            column = λ h. feed;
            no_end = comments_begin (c ∷ s) are;
          }

-- at the text's end: an indented key that this cuts short
module _ {o : ParseOption} (b : ℕ) (z : Text) (g : IsGap o b z []) where
  pub rest_at_end : Rest o b z (section_rest o true b z) []
  rest_at_end =
      let off = dropped_off g in
      let front = pieces_text off.before in
      elim off.line [
        | inl none ↦ subst (λ t. Rest o b z t []) (sym none) (record {
          before = front;
          whole = off.whole ∙ ap (λ t. front ++ t) none;
          is = gap_nothing;
          line = λ h. absurd (false≢true (sym h));
          column = λ h. absurd (false≢true (sym h));
          no_end = tt;
        })
        | inr there ↦ record {
          before = front;
          whole = off.whole;
          is = off.is;
          line = λ h. there.0;
          column = λ h. absurd (no_mark_blank (section_rest o true b z) there.1 h);
          no_end = no_end_blank (section_rest o true b z) there.1;
        }
      ]
    where
      no_mark_blank : (t : Text) → BeginsWith is_blank t → BeginsWith is_comment_mark t → ⊥
      no_mark_blank [] h m = false≢true (sym h)
      no_mark_blank (c ∷ t) h m = both_ways (is_blank c) (comment_mark-apart c m).0 h

      no_end_blank : (t : Text) → BeginsWith is_blank t → BeginsWithNo is_line_end t
      no_end_blank [] h = tt
      no_end_blank (c ∷ t) h =
          false_from_ne_true (is_line_end c)
          (λ end. both_ways (is_blank c) (line_end_no_blank c end) h)

-- what stays is an end of the gap
pub rest_whole : (o : ParseOption) (is_last : Bool) (b : ℕ) (z : Text)
    → front_of z (section_rest o is_last b z) ++ section_rest o is_last b z ≡ z
rest_whole o true b z = dropped_key-rest o b z
rest_whole o false b z =
    let u = unindented b z in
    let w = indentation_at_end b z in
    let front : front_of z w ≡ u.front = front_is u.front w z (sym u.whole) in
    let v = commented b u.front in
    let s = comments_at_end b u.front in
    let is : section_rest o false b z ≡ s ++ w = ap (λ t. comments_at_end b t ++ w) front in
    let text : z ≡ v.front ++ (s ++ w) =
    u.whole ∙ ap (λ t. t ++ w) v.whole ∙ append_assoc v.front s w in
    ap (λ r. front_of z r ++ r) is ∙ ap (λ f. f ++ (s ++ w)) (front_is v.front (s ++ w) z (sym text))
    ∙ sym text
