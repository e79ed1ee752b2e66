-- Where a section's first pair goes: the gap is cut there where an element ends, a line starts there or
-- nothing follows, and the blank lines after it are those of a multiline value.
use Rattle.std.proofs.Common.{◌≡◌, ◌∙◌, ◌⊎◌, ◌==◌, ◌&&◌, ◌||◌, ℕ, Bool, true, false, cond, not, [], ◌∷◌}
use Rattle.std.proofs.Common.{◌++◌, Option, None, Some, ap, append_assoc, inl, inr, refl, subst, sym}
use Rattle.std.proofs.lemmas.Bool.{and_cases, and_parts, both_ways, cond-false, cond-true, cond_both}
use Rattle.std.proofs.lemmas.Bool.{false≢true, not-false, not-true, or_cases, or_left, or_parts, or_right}
use Rattle.std.specs.List.{list_all}
use Rattle.std.specs.Option.{option_or}
use Rattle.ini_text.specs.Grammar.CharacterKinds.{BeginsWith, BeginsWithNo, carriage_return, is_blank}
use Rattle.ini_text.specs.Grammar.CharacterKinds.{is_comment_mark, is_line_end, is_line_feed, line_feed}
use Rattle.ini_text.specs.Grammar.CharacterKinds.{open_bracket}
use Rattle.ini_text.specs.Grammar.Elements.{Element, Header}
use Rattle.ini_text.specs.Grammar.Pieces.{ArePieces, pieces_text}
use Rattle.ini_text.specs.Grammar.Positions.{is_column_one, last_or}
use Rattle.ini_text.specs.Grammar.Strings.{Closes, Str, bracketed_name_ends, noted}
use Rattle.ini_text.specs.Grammar.Values.{MoreLines}
use Rattle.ini_text.specs.Parsing.Fronts.{front_of}
use Rattle.ini_text.specs.declared.option.ParseOption.{ParseOption}
use Rattle.ini_text.proofs.LawLemmas.PieceLemmas.{last_or-append, pieces_split, pieces_text-append}
use Rattle.ini_text.proofs.ReaderLemmas.StringReaderLemmas.{note_parts}
use Rattle.ini_text.proofs.StringLemmas.FrontLemmas.{front_grows, front_is}
use Rattle.ini_text.proofs.StringLemmas.ScanLemmas.{last_or_append}
use Rattle.ini.specs.Texts.{Text}
use Rattle.ini_edit.specs.Inside.Spans.{IsGap}
use Rattle.ini_edit.specs.SourceLines.{is_blank_or_line_end}
use Rattle.ini_edit.specs.SourceEditsAdd.{GapPlace, after_header, after_header_comments, after_licence}
use Rattle.ini_edit.specs.SourceEditsAdd.{at_front, first_place, freed, past_blank_lines}
use Rattle.ini_edit.specs.SourceLines.{after_blank_lines, after_comments, after_line, after_line_end}
use Rattle.ini_edit.specs.SourceLines.{blanks_at_end, has_lone_return, is_empty, line_end_at_end}
use Rattle.ini_edit.proofs.BlankLineLemmas.{AreBlank}
use Rattle.ini_edit.proofs.BlankValueLemmas.{EndBefore, are_blank}
use Rattle.ini_edit.proofs.DroppedKeyLemmas.{blank_no_end}
use Rattle.ini_edit.proofs.GapCutLemmas.{AreBlanks, AreParts, IsCut, blank_cut, blanks_there, comment_cut}
use Rattle.ini_edit.proofs.GapCutLemmas.{cut_gap, cut_on, cut_rest_gap, end_cut, line_cut}
use Rattle.ini_edit.proofs.GapLemmas.{gap_join}
use Rattle.ini_edit.proofs.LineFrontLemmas.{EndsComments, apart_both, comments_of, end_ends, ends_some}
use Rattle.ini_edit.proofs.LineFrontLemmas.{kinds, line_of, lines_ended, none_left}
use Rattle.ini_edit.proofs.SourceLineLemmas.{after_comments-rest, after_line-rest, after_line_end-rest}
use Rattle.ini_edit.proofs.SourceLineLemmas.{last_if_some}

-- the place stands in the gap
pub record IsFirstPlace (o : ParseOption) (c : ℕ) (gap r : Text) (p : GapPlace) : Type 0 where
  pub whole : p.before ++ (p.lines ++ p.after) ≡ gap
  pub front : IsGap o c p.before ((p.lines ++ p.after) ++ r)
  pub rest : IsGap o (last_or c p.before) (p.lines ++ p.after) r
  pub starts : p.starts ≡ true → is_line_end (last_or c p.before) ≡ true
  pub ends : p.starts ≡ false → p.lines ++ p.after ≡ []

-- and a multiline value may stand there
pub record IsFreePlace (o : ParseOption) (c : ℕ) (r : Text) (p : GapPlace) : Type 0 where
  pub lines : AreBlank o p.lines (p.after ++ r)
  pub after : IsGap o (last_or (last_or c p.before) p.lines) p.after r
  pub apart : BeginsWithNo is_blank_or_line_end p.after

-- what stands around the gap: the section's header or nothing, and what follows the section
pub record StandsIn (is_general is_last : Bool) (c : ℕ) (gap r : Text) : Type 0 where
  pub general : is_general ≡ true → is_line_feed c ≡ true
  pub named : is_general ≡ false → (is_line_end c ≡ false) ⊎ BeginsWith is_line_end gap
  pub last : is_last ≡ true → r ≡ []
  pub apart : BeginsWithNo is_blank_or_line_end r

-- the header's own line ends with its line end, unless nothing follows
pub header_line : (gap : Text) (c : ℕ) → (after_line gap ≡ [])
    ⊎ (is_line_end (last_or c (front_of gap (after_line gap))) ≡ true)
header_line gap c =
    let line = line_of gap in
    let is = front_is line.0 (after_line gap) gap line.1.whole in
    elim line.1.ends [
      | inl none ↦ inl none
      | inr end ↦ inr (ap (λ f. is_line_end (last_or c f)) is ∙ end c)
    ]

-- a comment directly after the header's line stands behind that
pub header_feed : (gap : Text) (c : ℕ) → BeginsWith is_comment_mark (after_line gap)
    → is_column_one (front_of gap (after_line gap)) ≡ true
    → is_line_feed (last_or c (front_of gap (after_line gap))) ≡ true
header_feed gap c mark one =
    let line = line_of gap in
    at (front_of gap (after_line gap)) (front_is line.0 (after_line gap) gap line.1.whole) line.1.ends one
  where
    at : (f : Text) → f ≡ (line_of gap).0
        → (after_line gap ≡ []) ⊎ ((d : ℕ) → is_line_end (last_or d (line_of gap).0) ≡ true)
        → is_column_one f ≡ true → is_line_feed (last_or c f) ≡ true
    at f is (inl none) one = absurd (false≢true (sym (subst (BeginsWith is_comment_mark) none mark)))
    at [] is (inr end) one = absurd (false≢true (ap (λ u. is_line_end (last_or 0 u)) is ∙ end 0))
    at (x ∷ f) is (inr end) one = one

module _ {o : ParseOption} {c : ℕ} {gap r : Text} where
  of_parts : {m : Text} (starts : Bool) → AreParts o c gap m r
      → (starts ≡ true → is_line_end (last_or c (front_of gap m)) ≡ true) → (starts ≡ false → m ≡ [])
      → IsFirstPlace o c gap r (record { before = front_of gap m; starts = starts; lines = []; after = m })
  of_parts starts parts begins ends = record {
    whole = parts.whole;
    front = parts.front;
    rest = parts.rest;
    starts = begins;
    ends = ends;
  }

  at_front_stands : is_line_end c ≡ true → IsGap o c gap r → IsFirstPlace o c gap r (at_front gap)
  at_front_stands end h = record {
    whole = refl;
    front = record { pieces = []; whole = refl; nothing = refl; are = ArePieces.none };
    rest = h;
    starts = λ _. end;
    ends = λ no. absurd (false≢true (sym no));
  }

  pub header_cut : (is_line_end c ≡ false) ⊎ BeginsWith is_line_end gap → (h : IsGap o c gap r)
      → IsCut h.pieces (after_line gap)
  header_cut named h =
      subst (λ t. IsCut h.pieces (after_line t)) (sym h.whole) (line_cut h.pieces h.are h.nothing
      (elim named [
        | inl apart ↦ inl apart
        | inr begins ↦ inr (subst
            (BeginsWith is_line_end) h.whole begins)
      ]))

  after_header_stands : (is_line_end c ≡ false) ⊎ BeginsWith is_line_end gap → IsGap o c gap r
      → IsFirstPlace o c gap r (after_header gap)
  after_header_stands named h =
      let line = line_of gap in
      let is = front_is line.0 (after_line gap) gap line.1.whole in
      of_parts _ (cut_gap h (header_cut named h))
      (λ starts. end_ends c (front_of gap (after_line gap)) (not-true _ starts))
      (λ none. at (front_of gap (after_line gap)) is line.1.ends (not-false _ none))
    where
      at : (f : Text) → f ≡ (line_of gap).0
          → (after_line gap ≡ []) ⊎ ((d : ℕ) → is_line_end (last_or d (line_of gap).0) ≡ true)
          → is_empty (line_end_at_end f) ≡ true → after_line gap ≡ []
      at f is (inl none) empty = none
      at [] is (inr end) empty =
          absurd (false≢true (ap (λ u. is_line_end (last_or 0 u)) is ∙ end 0))
      at (x ∷ f) is (inr end) empty =
          absurd (both_ways (is_empty (line_end_at_end (x ∷ f)))
          (ends_some c (x ∷ f) refl (ap (λ u. is_line_end (last_or c u)) is ∙ end c)) empty)

  comments_stand : (is_line_end c ≡ false) ⊎ BeginsWith is_line_end gap → IsGap o c gap r
      → IsFirstPlace o c gap r (after_header_comments gap)
  comments_stand named h = by (is_empty comments || not (is_column_one (front_of gap line))) refl
    where
      line : Text
      line = after_line gap

      rest : Text
      rest = after_comments false line

      comments : Text
      comments = front_of line rest

      cut : is_column_one (front_of gap line) ≡ true → IsCut h.pieces rest
      cut one =
          let first = header_cut named h in
          let gap_rest = cut_rest_gap h.pieces h.are h.nothing first in
          let whole : pieces_text first.front ++ line ≡ gap =
          ap (λ t. pieces_text first.front ++ t) (sym first.text)
          ∙ sym (pieces_text-append first.front first.rest)
          ∙ ap pieces_text (sym first.whole) ∙ sym h.whole in
          let is = front_is (pieces_text first.front) line gap whole in
          let are = (pieces_split first.front first.rest (subst (λ l. ArePieces o c l r)
          first.whole h.are)).1 in
          cut_on first (subst (λ t. IsCut first.rest (after_comments false t)) first.text
          (comment_cut first.rest are gap_rest.nothing (λ mark.
          subst (λ f. is_line_feed (last_or c f) ≡ true) is
          (header_feed gap c (subst (BeginsWith is_comment_mark) first.text mark) one))))

      grown : front_of gap rest ≡ front_of gap line ++ comments
      grown = (front_grows gap line comments rest (after_line-rest gap) (sym
          (after_comments-rest false line))).0

      by : (b : Bool) → (is_empty comments || not (is_column_one (front_of gap line))) ≡ b
          → IsFirstPlace o c gap r (after_header_comments gap)
      by true none =
          subst (IsFirstPlace o c gap r) (sym (cond-true
          (is_empty comments || not (is_column_one (front_of gap line))) (after_header gap) _ none))
          (after_header_stands named h)
      by false both =
          let parts = or_parts (is_empty comments) (not (is_column_one (front_of gap line))) both in
          let some = parts.0 in
          subst (IsFirstPlace o c gap r) (sym (cond-false
          (is_empty comments || not (is_column_one (front_of gap line))) (after_header gap) _ both))
          (of_parts (is_column_one comments) (cut_gap h (cut (not-false _ parts.1)))
          (λ column. ap (λ u. is_line_end (last_or c u)) grown
          ∙ ap is_line_end (last_or-append c (front_of gap line) comments
          ∙ last_if_some (last_or c (front_of gap line)) line_feed comments some)
          ∙ or_left (is_line_feed (last_or line_feed comments)) _ column)
          (λ other. at comments some (front_is found.0 rest line found.1.whole) found.1.ends other))
        where
          found : (front : Text) × EndsComments false line front rest
          found = comments_of false line

          at : (f : Text) → is_empty f ≡ false → f ≡ (comments_of false line).0
              → (rest ≡ []) ⊎ ((((comments_of false line).0 ≡ []) × (false ≡ false))
              ⊎ ((d : ℕ) → is_line_feed (last_or d (comments_of false line).0) ≡ true))
              → is_column_one f ≡ false → rest ≡ []
          at f some is (inl none) other = none
          at f some is (inr (inl here)) other =
              absurd (false≢true (sym some ∙ ap is_empty (is ∙ here.0)))
          at f some is (inr (inr end)) other =
              absurd (both_ways (is_column_one f) other
              (ap (λ u. is_line_feed (last_or line_feed u)) is ∙ end line_feed))

  licence_stands : is_line_feed c ≡ true → IsGap o c gap r → IsFirstPlace o c gap r (after_licence gap)
  licence_stands feed h = by (is_empty (front_of gap rest) || (is_empty line || not
      (is_column_one line))) refl
    where
      rest : Text
      rest = after_comments false gap

      line : Text
      line = front_of rest (after_line_end rest)

      cut : IsCut h.pieces (after_line_end rest)
      cut =
          let first = subst (λ t. IsCut h.pieces (after_comments false t)) (sym h.whole)
          (comment_cut h.pieces h.are h.nothing (λ _. feed)) in
          let gap_rest = cut_rest_gap h.pieces h.are h.nothing first in
          cut_on first (subst (λ t. IsCut first.rest (after_line_end t)) gap_rest.text
          (end_cut first.rest gap_rest.are gap_rest.nothing))

      grown : front_of gap (after_line_end rest) ≡ front_of gap rest ++ line
      grown = (front_grows gap rest line (after_line_end rest) (after_comments-rest false gap)
          (sym (after_line_end-rest rest))).0

      by : (b : Bool) → (is_empty (front_of gap rest) || (is_empty line || not (is_column_one line))) ≡ b
          → IsFirstPlace o c gap r (after_licence gap)
      by true none =
          subst (IsFirstPlace o c gap r) (sym (cond-true
          (is_empty (front_of gap rest) || (is_empty line || not (is_column_one line)))
          (at_front gap) _ none))
          (at_front_stands (or_left (is_line_feed c) _ feed) h)
      by false some =
          let both = or_parts (is_empty line) (not (is_column_one line)) (or_parts _ _ some).1 in
          subst (IsFirstPlace o c gap r) (sym (cond-false
          (is_empty (front_of gap rest) || (is_empty line || not (is_column_one line)))
          (at_front gap) _ some))
          (of_parts true (cut_gap h cut)
          (λ _. ap (λ u. is_line_end (last_or c u)) grown
          ∙ ap is_line_end (last_or-append c (front_of gap rest) line
          ∙ last_if_some (last_or c (front_of gap rest)) line_feed line both.0)
          ∙ or_left (is_line_feed (last_or line_feed line)) _ (not-false _ both.1))
          (λ no. absurd (false≢true (sym no))))

-- what a place that is free, or isn't, says of the lines after it
abbrev is_refused : (is_last : Bool) → (lines rest : Text) → Bool
is_refused is_last lines rest =
    not (is_empty (blanks_at_end lines)) && not (is_last && is_empty rest) || has_lone_return true lines

ended_before : (is_last : Bool) (lines rest r : Text) → list_all is_blank_or_line_end lines ≡ true
    → BeginsWithNo is_blank_or_line_end rest → BeginsWithNo is_blank_or_line_end r
    → (is_last ≡ true → r ≡ [])
    → (blanks_at_end lines ≡ []) ⊎ ((is_last ≡ true) × (rest ≡ []))
    → EndBefore line_feed lines (rest ++ r)
ended_before is_last lines rest r all apart later last (inr end) =
    inl (ap (λ t. t ++ r) end.1 ∙ last end.0)
ended_before is_last [] rest r all apart later last (inl none) =
    let both = kinds (rest ++ r) (apart_both rest r apart later) in inr (refl, both.0, both.1)
ended_before is_last (x ∷ lines) rest r all apart later last (inl none) =
    let both = kinds (rest ++ r) (apart_both rest r apart later) in
    inr (lines_ended line_feed x lines all none, both.0, both.1)

not_refused : (is_last : Bool) (lines rest : Text) → is_refused is_last lines rest ≡ false
    → ((blanks_at_end lines ≡ []) ⊎ ((is_last ≡ true) × (rest ≡ []))) × (has_lone_return true lines ≡ false)
not_refused is_last lines rest h =
    let parts = or_parts _ (has_lone_return true lines) h in (
      elim (and_cases (not (is_empty (blanks_at_end lines))) (not (is_last && is_empty rest)) parts.0) [
        | inl none ↦ inl (none_left (blanks_at_end lines) (not-false _ none))
        | inr end ↦
            let both = and_parts is_last (is_empty rest) (not-false _ end) in
            inr (both.0, none_left rest both.1)
      ],
      parts.1,
    )

no_lines_wanted : (gap : Text) → (after_licence gap).lines ≡ []
no_lines_wanted gap =
    let rest = after_comments false gap in
    let after = after_line_end rest in
    let line = front_of rest after in
    cond_both (is_empty (front_of gap rest) || (is_empty line || not (is_column_one line))) (at_front gap)
    (record { before = front_of gap after; starts = true; lines = []; after = after })
    (λ p. p.lines ≡ []) (λ _. refl) (λ _. refl)

no_lines_after : (gap : Text) → (after_header_comments gap).lines ≡ []
no_lines_after gap =
    let rest = after_comments false (after_line gap) in
    let comments = front_of (after_line gap) rest in
    cond_both (is_empty comments || not (is_column_one (front_of gap (after_line gap)))) (after_header gap)
    (record { before = front_of gap rest; starts = is_column_one comments; lines = []; after = rest })
    (λ p. p.lines ≡ []) (λ _. refl) (λ _. refl)

module _ {o : ParseOption} {is_general is_last : Bool} {c : ℕ} {gap r : Text}
    (around : StandsIn is_general is_last c gap r) where
  -- a place with the blank lines after it
  freed_stands : (p q : GapPlace) → p.lines ≡ [] → IsFirstPlace o c gap r p → freed is_last p ≡ Some q
      → IsFirstPlace o c gap r q × IsFreePlace o c r q
  freed_stands p q bare stands is = by (is_refused is_last lines rest) refl is
    where
      rest : Text
      rest = after_blank_lines p.after

      lines : Text
      lines = front_of p.after rest

      blanks : AreBlanks p.after lines rest
      blanks = blanks_there p.after

      whole : p.lines ++ p.after ≡ lines ++ rest
      whole = ap (λ l. l ++ p.after) bare ∙ blanks.whole

      made : GapPlace
      made = record { before = p.before; starts = p.starts; lines = lines; after = rest }

      put : IsFirstPlace o c gap r made
      put = record {
        whole = ap (λ t. p.before ++ t) (sym whole) ∙ stands.whole;
        front = subst (λ t. IsGap o c p.before (t ++ r)) whole stands.front;
        rest = subst (λ t. IsGap o (last_or c p.before) t r) whole stands.rest;
        starts = stands.starts;
        ends = λ no. sym whole ∙ stands.ends no;
      }

      free : is_refused is_last lines rest ≡ false → IsFreePlace o c r made
      free h =
          let known = not_refused is_last lines rest h in
          let after = subst (λ t. IsGap o (last_or c p.before) t r) (ap
          (λ l. l ++ p.after) bare) stands.rest in
          let cut = blank_cut after.pieces lines rest after.are after.nothing
          (subst (λ t. AreBlanks t lines rest) after.whole blanks)
          (elim known.0 [ inl none ↦ inl none | inr end ↦ inr end.1 ]) in
          record {
            lines = are_blank lines (rest ++ r) blanks.all known.1
                (ended_before is_last lines rest r blanks.all blanks.apart around.apart around.last known.0);
            after = (cut_gap after cut).rest;
            apart = blanks.apart;
          }

      by : (b : Bool) → is_refused is_last lines rest ≡ b → cond b None (Some made) ≡ Some q
          → IsFirstPlace o c gap r q × IsFreePlace o c r q
      by true h e = absurd (let no : ◌≡◌ {A = Option GapPlace} None (Some q) = e in cc)
      by false h e =
          let same : made ≡ q = cc in
          (subst (IsFirstPlace o c gap r) same put, subst (IsFreePlace o c r) same (free h))

  -- the place after the blank lines, where the one before them isn't free
  past_stands : (p q : GapPlace) → p.lines ≡ [] → IsFirstPlace o c gap r p
      → ◌≡◌ {A = Option GapPlace} (freed is_last p) None → past_blank_lines gap p.after ≡ Some q
      → IsFirstPlace o c gap r q × IsFreePlace o c r q
  past_stands p q bare stands taken is =
      by (not (is_empty (blanks_at_end lines)) && not (is_empty rest)) refl is
    where
      rest : Text
      rest = after_blank_lines p.after

      lines : Text
      lines = front_of p.after rest

      last : ℕ
      last = last_or c p.before

      blanks : AreBlanks p.after lines rest
      blanks = blanks_there p.after

      made : GapPlace
      made = record {
        before = front_of gap rest;
        starts = not (is_empty (line_end_at_end lines));
        lines = [];
        after = rest;
      }

      whole : (p.before ++ lines) ++ rest ≡ gap
      whole = append_assoc p.before lines rest ∙ ap (λ t. p.before ++ t) (sym blanks.whole)
          ∙ ap (λ l. p.before ++ (l ++ p.after)) (sym bare) ∙ stands.whole

      front : front_of gap rest ≡ p.before ++ lines
      front = front_is (p.before ++ lines) rest gap whole

      ends_so : last_or c (front_of gap rest) ≡ last_or last lines
      ends_so = ap (last_or c) front ∙ last_or-append c p.before lines

      refused : is_refused is_last lines rest ≡ true
      refused = at (is_refused is_last lines rest) refl taken
        where
          at : (b : Bool) → is_refused is_last lines rest ≡ b
              → ◌≡◌ {A = Option GapPlace}
              (cond b None (Some
              (record { before = p.before; starts = p.starts; lines = lines; after = rest })))
              None
              → is_refused is_last lines rest ≡ true
          at true h e = h
          at false h e = absurd (let no : ◌≡◌ {A = Option GapPlace}
              (Some
              (record { before = p.before; starts = p.starts; lines = lines; after = rest })) None = e in cc)

      -- the blank lines are some
      some_lines : (l : Text) → is_refused is_last l rest ≡ true → is_empty l ≡ false
      some_lines [] h = absurd (false≢true h)
      some_lines (x ∷ l) h = refl

      no_end : (l : Text) → is_empty l ≡ false → list_all is_blank_or_line_end l ≡ true
          → blanks_at_end l ≡ []
          → is_empty (line_end_at_end l) ≡ true → rest ≡ []
      no_end [] some all none empty = absurd (false≢true (sym some))
      no_end (x ∷ l) some all none empty =
          absurd (both_ways (is_empty (line_end_at_end (x ∷ l)))
          (ends_some last (x ∷ l) refl (lines_ended last x l all none)) empty)

      free : (blanks_at_end lines ≡ []) ⊎ (rest ≡ []) → IsFirstPlace o c gap r made × IsFreePlace o c r made
      free known =
          let gap_after = subst (λ t. IsGap o last t r) (ap (λ l. l ++ p.after) bare) stands.rest in
          let cut = blank_cut gap_after.pieces lines rest gap_after.are gap_after.nothing
          (subst (λ t. AreBlanks t lines rest) gap_after.whole blanks) known in
          let parts = cut_gap gap_after cut in
          let before = subst (λ t. IsGap o c p.before (t ++ r))
          (ap (λ l. l ++ p.after) bare ∙ blanks.whole) stands.front in
          let joined = gap_join (subst (IsGap o c p.before)
          (append_assoc lines rest r) before) parts.front in
          let after = subst (λ d. IsGap o d rest r) (sym ends_so) parts.rest in
          let both = kinds (rest ++ r) (apart_both rest r blanks.apart around.apart) in (
            record {
              whole = ap (λ f. f ++ rest) front ∙ whole;
              front = subst (λ f. IsGap o c f (rest ++ r)) (sym front) joined;
              rest = after;
              starts = λ starts. ap is_line_end ends_so ∙ end_ends last lines (not-true _ starts);
              ends = λ empty. elim known [
                | inl none ↦
                    no_end lines (some_lines lines refused) blanks.all none (not-false _ empty)
                | inr end ↦ end
              ];
            },
            record {
              lines = record { value = []; are = MoreLines.done both.0 both.1; all = refl };
              after = after;
              apart = blanks.apart;
            },
          )

      by : (b : Bool) → (not (is_empty (blanks_at_end lines)) && not (is_empty rest)) ≡ b
          → cond b None (Some made) ≡ Some q → IsFirstPlace o c gap r q × IsFreePlace o c r q
      by true h e = absurd (let no : ◌≡◌ {A = Option GapPlace} None (Some q) = e in cc)
      by false h e =
          let same : made ≡ q = cc in
          let there = free (elim (and_cases (not (is_empty (blanks_at_end lines))) (not (is_empty rest)) h) [
            | inl none ↦ inl (none_left (blanks_at_end lines) (not-false _ none))
            | inr end ↦ inr (none_left rest (not-false _ end))
          ]) in
          (subst (IsFirstPlace o c gap r) same there.0, subst (IsFreePlace o c r) same there.1)

  -- one of the places
  chosen : (wanted first q : GapPlace) → wanted.lines ≡ [] → first.lines ≡ []
      → IsFirstPlace o c gap r wanted → IsFirstPlace o c gap r first → (multiline : Bool)
      → cond multiline (option_or (freed is_last wanted) (option_or (freed is_last first)
      (past_blank_lines gap first.after))) (Some wanted) ≡ Some q
      → IsFirstPlace o c gap r q × (multiline ≡ true → IsFreePlace o c r q)
  chosen wanted first q bare none wanted_stands first_stands false is =
      let same : wanted ≡ q = cc in
      (subst (IsFirstPlace o c gap r) same wanted_stands, λ no. absurd (false≢true no))
  chosen wanted first q bare none wanted_stands first_stands true is =
      let there = at (freed is_last wanted) (freed is_last first) refl refl is in (there.0, λ _. there.1)
    where
      at : (a b : Option GapPlace) → freed is_last wanted ≡ a → freed is_last first ≡ b
          → option_or a (option_or b (past_blank_lines gap first.after)) ≡ Some q
          → IsFirstPlace o c gap r q × IsFreePlace o c r q
      at (Some p) b is_a is_b e = freed_stands wanted q bare wanted_stands (is_a ∙ e)
      at None (Some p) is_a is_b e = freed_stands first q none first_stands (is_b ∙ e)
      at None None is_a is_b e = past_stands first q none first_stands is_b e

-- the place of a section's first pair
pub first_stands : {o : ParseOption} (is_general is_last : Bool) {c : ℕ} {gap r : Text} {q : GapPlace}
    → StandsIn is_general is_last c gap r → IsGap o c gap r → first_place o is_general is_last gap ≡ Some q
    → IsFirstPlace o c gap r q × (o.enabled_indented_mutiline_value ≡ true → IsFreePlace o c r q)
first_stands {o} true is_last {c = c} {gap = gap} {q = q} around h is =
    let line = or_left (is_line_feed c) _ (around.general refl) in
    chosen around (after_licence gap) (at_front gap) q (no_lines_wanted gap) refl
    (licence_stands (around.general refl) h) (at_front_stands line h)
    o.enabled_indented_mutiline_value is
first_stands {o} false is_last {gap = gap} {q = q} around h is =
    chosen around (after_header_comments gap) (after_header gap) q (no_lines_after gap) refl
    (comments_stand (around.named refl) h) (after_header_stands (around.named refl) h)
    o.enabled_indented_mutiline_value is

-- after a header a line end is next, or its last character is none, as the blank before a note
pub header_opens : {o : ParseOption} {b s z name : Text} (c : ℕ) → Element o b s z (Header name ∷ [])
    → (is_line_end (last_or c s) ≡ false) ⊎ BeginsWith is_line_end z
header_opens c (Element.header {s = s} off str) = inl (ap is_line_end (last_or_append open_bracket 93 s))
header_opens c (Element.bracketed_header on (Str.closed row closes) i) = inr (closed _ closes)
  where
    closed : (z : Text) → Closes bracketed_name_ends z → BeginsWith is_line_end z
    closed [] h = absurd (false≢true h)
    closed (x ∷ z) h = elim (or_cases (x == line_feed) (x == carriage_return || false) h) [
      | inl feed ↦ or_left (x == line_feed) _ feed
      | inr return ↦ or_right (x == line_feed) _ (elim (or_cases (x == carriage_return) false return) [
        | inl is ↦ is
        | inr none ↦ absurd (false≢true none)
      ])
    ]
header_opens {o} {z = z} c (Element.bracketed_header on (Str.before_note {s} d row raw inside note) i) =
    inl (ap is_line_end (last_or_append open_bracket d s)
    ∙ blank_no_end d (note_parts (noted o bracketed_name_ends) d z note).1)
header_opens c (Element.bracketed_header on (Str.lone special row text) i) = absurd (false≢true text)

pub begins_gap : (gap r : Text) → BeginsWith is_line_end (gap ++ r) → BeginsWithNo is_blank_or_line_end r
    → BeginsWith is_line_end gap
begins_gap [] [] begins apart = begins
begins_gap [] (x ∷ r) begins apart =
    absurd (both_ways (is_line_end x) (or_parts (is_blank x) (is_line_end x) apart).1 begins)
begins_gap (x ∷ gap) r begins apart = begins
