-- Reading an element by the character with which it begins: the reader finds what the grammar says, and the
-- code gives it.
use Rattle.std.proofs.Common.{◌≡◌, ◌≢◌, ℕ, true, false, ◌&&◌, ◌||◌, ◌==◌, List, [], ◌∷◌, ◌++◌, drop, Option}
use Rattle.std.proofs.Common.{Some, None, inl, inr, refl, sym, ap, ◌∙◌, subst, subst₂, append_assoc}
use Rattle.std.proofs.Common.{append-nil, eqb-true}
use Rattle.std.proofs.Math.Bool.{or-false}
use Rattle.std.proofs.lemmas.Bool.{cases_Bool, cond-true, cond-false, and_parts, or_parts, not-true}
use Rattle.std.proofs.lemmas.Bool.{not-false}
use Rattle.std.specs.Char.{is_whitespace}
use Rattle.std.specs.List.{list_all}
use Rattle.ini_text.specs.Options.ReadOptions.{backslash_of}
use Rattle.ini_text.specs.declared.option.LoneLine.{LoneLine}
use Rattle.ini_text.specs.declared.option.LoneLine.TheVariants.{RunsOn, Refused, Key}
use Rattle.ini_text.specs.declared.option.ParseOption.{ParseOption}
use Rattle.ini_text.specs.declared.error.ParseKind.{ParseKind}
use Rattle.ini_text.specs.declared.error.ParseKind.TheVariants.{EndOfText, InlineComment}
use Rattle.ini_text.specs.Grammar.CharacterKinds.{line_feed, open_bracket, close_bracket, is_line_end}
use Rattle.ini_text.specs.Grammar.CharacterKinds.{is_blank, is_separator, is_comment_mark, BeginsWith}
use Rattle.ini_text.specs.Grammar.CharacterKinds.{BeginsWithNo}
use Rattle.ini_text.specs.Grammar.Positions.{starts_line, is_column_one}
use Rattle.ini_text.specs.Grammar.Strings.{Ends, Str, StrStops, ends_with_line, name_ends}
use Rattle.ini_text.specs.Grammar.Strings.{bracketed_name_ends, key_ends, noted, noted_key_ends}
use Rattle.ini_text.specs.Grammar.Values.{Value, ValueStops}
use Rattle.ini_text.specs.Grammar.Keys.{Indentation, begins_key, begins_indented_key, begins_note, KeyFront}
use Rattle.ini_text.specs.Grammar.Lines.{Note}
use Rattle.ini_text.specs.Grammar.Elements.{Given, Gap, Element, ElementStops, ends_part, may_have_note}
use Rattle.ini_text.specs.Inside.ElementReader.{after_key, after_mark, key_string, lone_key, name_in, header}
use Rattle.ini_text.specs.Inside.ElementReader.{header_of_name, bracketed_header, after_bracket}
use Rattle.ini_text.specs.Inside.ElementReader.{pair_of_value, after_separator, trimmed_key, pair_of_key}
use Rattle.ini_text.specs.Inside.ElementReader.{unindented_pair, dropped_tail, indented_pair_of_key}
use Rattle.ini_text.specs.Inside.ElementReader.{kept_blanks, indented_pair, after_blanks, is_comment_part}
use Rattle.ini_text.specs.Inside.ElementReader.{element}
use Rattle.ini_text.specs.Inside.Reading.{Answer, found, stopped, prepend, altered_answer}
use Rattle.ini_text.specs.Inside.Scans.{is_line_part, run_of, skipped, trimmed_at}
use Rattle.ini_text.specs.Inside.StringReader.{string}
use Rattle.ini_text.specs.Inside.ValueReader.{value}
use Rattle.ini_text.specs.Parsing.Fronts.{front_of, IsRest}
use Rattle.ini_text.proofs.GrammarLemmas.BracketedNameLemmas.{finds_name, name_found, no_name, none_found}
use Rattle.ini_text.proofs.GrammarLemmas.KindLemmas.{no_white_no_blank, line_end_no_blank, comment_mark-apart}
use Rattle.ini_text.proofs.GrammarLemmas.KindLemmas.{comment_mark-in_line}
use Rattle.ini_text.proofs.ReaderLemmas.NoteLemmas.{note_at, note_read}
use Rattle.ini_text.proofs.ReaderLemmas.ReaderLemmas.{Says, IsReader}
use Rattle.ini_text.proofs.ReaderLemmas.RunReaderLemmas.{run-finds, run-sound}
use Rattle.ini_text.proofs.ReaderLemmas.StringReaderLemmas.{StringSays, string-reads}
use Rattle.ini_text.proofs.ReaderLemmas.ValueReaderLemmas.{value-reads}
use Rattle.ini_text.proofs.StringLemmas.FrontLemmas.{front_is}
use Rattle.ini_text.proofs.ReaderLemmas.KeyReaderLemmas.{MayFollow, alone_after, endpoint_follows}
use Rattle.ini_text.proofs.ReaderLemmas.KeyReaderLemmas.{indented_value, key_apart, key_at_end, key_ends_line}
use Rattle.ini_text.proofs.ReaderLemmas.KeyReaderLemmas.{KeyFront-ends, key_string-reads, key_value}
use Rattle.ini_text.proofs.ReaderLemmas.KeyReaderLemmas.{not_dropped, part_no_separator, separated}
use Rattle.ini_text.proofs.ReaderLemmas.KeyReaderLemmas.{some_lone_key, stopped_at_end, value_after}

module _ (o : ParseOption) (b : List ℕ) where
  no_line_start : (c : ℕ) → (is_blank c ≡ true → starts_line b ≡ false)
      → (is_blank c && starts_line b) ≡ false
  no_line_start c h = elim (cases_Bool (is_blank c)) [ inl q ↦ rw (q, h q) refl | inr q ↦ rw q refl ]

  pub element-end : element o b [] ≡ found [] []
  unfolding element
  element-end = refl

  abbrev ElementSays : List ℕ → Answer Given → Type 0
  ElementSays t a = Says (Element o b) (ElementStops o b) t a

  name-reads : IsReader (Str (backslash_of o) name_ends) (StrStops (backslash_of o) name_ends)
      (string (backslash_of o) name_ends)
  name-reads = string-reads (backslash_of o) name_ends refl

  key-reads : IsReader (Str (backslash_of o) (noted_key_ends o))
      (StrStops (backslash_of o) (noted_key_ends o)) (key_string o)
  key-reads = key_string-reads o

  abbrev header_ends : Ends
  header_ends = noted o bracketed_name_ends

  line-reads : IsReader (Str (backslash_of o) header_ends)
      (StrStops (backslash_of o) header_ends) (string (backslash_of o) header_ends)
  line-reads = string-reads (backslash_of o) header_ends refl

  name-bracket : {s r v : List ℕ} → Str (backslash_of o) name_ends s r v
      → (x : List ℕ) × (r ≡ close_bracket ∷ x)
  name-bracket {r = []} (Str.closed k h) = cc
  name-bracket {r = m ∷ x} (Str.closed k h) = (x, ap (λ y. y ∷ x) (eqb-true m 93 (rw or-false at h)))
  name-bracket (Str.before_note c k begins other before) = cc
  name-bracket (Str.lone sp k h) = cc

  after_separator-sound : {k r : List ℕ} {m : ℕ} (key : List ℕ) → KeyFront o b k (m ∷ r) key
      → is_separator m ≡ true
      → ElementSays (k ++ m ∷ r) (after_separator o key r)
  after_separator-sound {k} {r} {m} [] front sep =
      (k ++ m ∷ [], ElementStops.no_key front sep, append_assoc k (m ∷ []) r)
  after_separator-sound {k} {r} {m} (c ∷ key) front sep = by (value o r) ((value-reads o).sound r)
    where
      by : (a : Answer ℕ) → Says (Value o) (ValueStops o) r a
          → ElementSays (k ++ m ∷ r) (pair_of_value (c ∷ key) a)
      by (found v x) (s, given, h) =
          let before = subst (λ y. KeyFront o b k (m ∷ y) (c ∷ key)) (sym h) front in
          (k ++ m ∷ s, Element.pair before (λ q. cc) sep given, simp (append_assoc, h))
      by (stopped x kind) (s, stops, h) =
          let before = subst (λ y. KeyFront o b k (m ∷ y) (c ∷ key)) (sym h) front in
          (k ++ m ∷ s, ElementStops.in_value before (λ q. cc) sep stops, simp (append_assoc, h))

  -- a key alone before what ends its line, or at the text's end
  lone_key-sound : {k r : List ℕ} {m : ℕ} (line : LoneLine) → o.line_without_separator ≡ line
      → ends_with_line line ≡ true → (key : List ℕ) → KeyFront o b k (m ∷ r) key → ends_part m ≡ true
      → ElementSays (k ++ m ∷ r) (lone_key line key (m ∷ r))
  lone_key-sound RunsOn runs with_line key front end = let z : false ≡ true = with_line in cc
  lone_key-sound {k} {r} {m} Refused refuses with_line key front end =
      (k ++ m ∷ [], ElementStops.no_separator refuses front end, append_assoc k (m ∷ []) r)
  lone_key-sound {k} {r} {m} Key alone with_line [] front end =
      (k ++ m ∷ [], ElementStops.no_lone_key alone front end, append_assoc k (m ∷ []) r)
  lone_key-sound {k} {m = m} Key alone with_line (c ∷ key) front end =
      (k, Element.lone_key alone front (λ q. cc) (part_no_separator m end), refl)

  last_key-sound : {k : List ℕ} → o.line_without_separator ≡ Key → (key : List ℕ) → KeyFront o b k [] key
      → ElementSays (k ++ []) (lone_key Key key [])
  last_key-sound {k} alone [] front = (k, ElementStops.no_last_key alone front, refl)
  last_key-sound {k} alone (c ∷ key) front = (k, Element.lone_key alone front (λ q. cc) tt, refl)

  after_key-sound : {k r : List ℕ} (key : List ℕ) → KeyFront o b k r key → MayFollow (noted_key_ends o) r
      → ElementSays (k ++ r) (after_key o key r)
  after_key-sound {k} {r = []} key front follows =
      let alone = key_at_end o follows in
      subst (λ line. ElementSays (k ++ []) (lone_key line key [])) (sym alone)
      (last_key-sound alone key front)
  after_key-sound {k} {r = m ∷ r} key front follows = elim (cases_Bool (is_separator m)) [
    | inl sep ↦
        subst (ElementSays (k ++ m ∷ r)) (sym (separated o key {c = m} refl sep))
        (after_separator-sound key front sep)
    | inr none ↦
        let ends = key_ends_line o m r follows none in
        subst (ElementSays (k ++ m ∷ r)) (sym (alone_after o key (m ∷ r) none))
        (lone_key-sound o.line_without_separator refl ends.0 key front ends.1)
  ]

  pair_of_key-sound : (w : List ℕ) {s r v t : List ℕ} (key : List ℕ)
      → ((x : List ℕ) → s ++ x ≡ t → Str (backslash_of o) (noted_key_ends o) s x v
      → KeyFront o b (w ++ s) x key)
      → Str (backslash_of o) (noted_key_ends o) s r v → s ++ r ≡ t
      → ElementSays (w ++ t) (after_key o key r)
  pair_of_key-sound w {s} {r} key front str h =
      subst (λ y. ElementSays y (after_key o key r)) (append_assoc w s r ∙ ap (λ y. w ++ y) h)
      (after_key-sound key (front r h str) (KeyFront-ends (front r h str)))

  unindented_pair-sound : (t : List ℕ) → BeginsWith begins_key t → (a : Answer ℕ)
      → StringSays (backslash_of o) (noted_key_ends o) t a
      → ElementSays t (pair_of_key o (trimmed_key o a))
  unindented_pair-sound t begins (found v r) (s, str, h) =
      subst (λ k. ElementSays t (after_key o k r))
      (sym (key_value o.enabled_preserve_key_leading_whitespace v))
      (pair_of_key-sound [] _ (λ x q k. KeyFront.unindented (subst (BeginsWith begins_key) (sym q) begins) k)
      str
      h)
  unindented_pair-sound t begins (stopped r k) (s, stops, h) =
      (s, ElementStops.in_key (subst (BeginsWith begins_key) (sym h) begins) stops, h)

  -- where a key ends, by what becomes of a line in which no separator follows it
  abbrev ends_by : LoneLine → Ends
  ends_by line =
      let ends = key_ends line in
      record {
        characters = ends.characters;
        text = ends.text;
        notes = ends_with_line line && o.enabled_inline_comment;
      }

  indented_pair-sound : (w t : List ℕ) → Indentation b w → BeginsWith (begins_indented_key o) t
      → (a : Answer ℕ)
      → StringSays (backslash_of o) (noted_key_ends o) t a
      → ElementSays (w ++ t) (indented_pair_of_key o (trimmed_key o (prepend (kept_blanks o w) a)))
  indented_pair-sound w t ind begins (found v r) (s, str, h) =
      subst (λ k. ElementSays (w ++ t) (after_key o k r))
      (sym (indented_value o.enabled_preserve_key_leading_whitespace w v))
      (pair_of_key-sound w
      _ (λ x q k. KeyFront.indented ind (subst (BeginsWith (begins_indented_key o)) (sym q) begins) k) str h)
  indented_pair-sound w t ind begins (stopped r k) (s, stops, h) =
      by o.line_without_separator refl k stops
    where
      whole : (w ++ s) ++ r ≡ w ++ t
      whole = append_assoc w s r ∙ ap (λ y. w ++ y) h

      text : BeginsWith (begins_indented_key o) (s ++ r)
      text = subst (BeginsWith (begins_indented_key o)) (sym h) begins

      refused : (k : ParseKind) → StrStops (backslash_of o) (noted_key_ends o) s r k
          → (o.line_without_separator ≡ RunsOn → k ≢ EndOfText) → ElementSays (w ++ t) (stopped r k)
      refused k stops other = (w ++ s, ElementStops.in_indented_key ind text stops other, whole)

      by : (line : LoneLine) → o.line_without_separator ≡ line → (k : ParseKind)
          → StrStops (backslash_of o) (noted_key_ends o) s r k
          → ElementSays (w ++ t) (dropped_tail line r k)
      by RunsOn runs EndOfText stops =
          let none : r ≡ [] = stopped_at_end stops refl in
          let key = Element.dropped_key runs ind (rw (none, append-nil s) at text)
          (subst₂ (λ l y. StrStops (backslash_of o) (ends_by l) s y EndOfText) runs none stops) in
          (w ++ s, subst (λ y. Element o b (w ++ s) y []) (sym none) key, whole)
      by RunsOn runs k stops = refused k stops (λ _ q. cc)
      by Refused refuses k stops =
          refused k stops (λ runs. let z : RunsOn ≡ Refused = sym runs ∙ refuses in cc)
      by Key alone k stops = refused k stops (λ runs. let z : RunsOn ≡ Key = sym runs ∙ alone in cc)

  note-sound : (w : List ℕ) (c : ℕ) (cs : List ℕ) → Indentation b w → begins_note o c ≡ true
      → ElementSays (w ++ c ∷ cs) (found [] (skipped is_line_part cs))
  note-sound w c cs ind begins =
      let two = and_parts o.enabled_indented_comment (is_comment_mark c) begins in
      let n = c ∷ run_of is_line_part cs in (
        w ++ n,
        Element.indented_comment two.0 ind (note_at c cs two.1),
        append_assoc w n (skipped is_line_part cs)
            ∙ ap (λ y. w ++ c ∷ y) (run-sound is_line_part cs).whole,
      )

  after_blanks-sound : (w t : List ℕ) → Indentation b w → BeginsWithNo is_blank t
      → ElementSays (w ++ t) (after_blanks o w t)
  after_blanks-sound w [] ind other = (w, Element.dropped_blanks ind, refl)
  after_blanks-sound w (c ∷ cs) ind other = elim (cases_Bool (is_line_end c)) [
    | inl h ↦ rw h (w ++ c ∷ [], Element.gap (Gap.blank_line c ind h), append_assoc w (c ∷ []) cs)
    | inr n ↦ elim (cases_Bool (c == open_bracket)) [
      | inl q ↦ rw (eqb-true c 91 q) (w, Element.gap (Gap.before_header ind), refl)
      | inr m ↦ elim (cases_Bool (begins_note o c)) [
        | inl g ↦ rw (n, m, g) (note-sound w c cs ind g)
        | inr g ↦ rw (n, m, g) (indented_pair-sound w (c ∷ cs) ind (rw (other, n, m, g) refl)
            (key_string o (c ∷ cs)) (key-reads.sound (c ∷ cs)))
      ]
    ]
  ]

  header-sound : o.enabled_brackets_in_section_names ≡ false → (t : List ℕ) (a : Answer ℕ)
      → StringSays (backslash_of o) name_ends t a
      → ElementSays (open_bracket ∷ t) (header (altered_answer (trimmed_at true) a))
  header-sound off t (stopped r k) (s, stops, h) =
      (open_bracket ∷ s, ElementStops.in_header off stops, ap (λ y. open_bracket ∷ y) h)
  header-sound off t (found v r) (s, str, h) =
      let x = name-bracket str in
      rw x.1 (
        open_bracket ∷ (s ++ close_bracket ∷ []),
        Element.header off (subst (λ y. Str (backslash_of o) name_ends s y v) x.1 str),
        ap (λ y. open_bracket ∷ y)
            (append_assoc s (close_bracket ∷ []) x.0 ∙ ap (λ y. s ++ y) (sym x.1) ∙ h),
      )

  header_of_name-sound : {s r v t : List ℕ} → o.enabled_brackets_in_section_names ≡ true
      → Str (backslash_of o) header_ends s r v → s ++ r ≡ t → (name : Option (List ℕ))
      → name_in v ≡ name → ElementSays (open_bracket ∷ t) (header_of_name name r)
  header_of_name-sound {s} {r} {v} on str h (Some name) e =
      (open_bracket ∷ s, Element.bracketed_header on str (name_found v name e), ap (λ y. open_bracket ∷ y) h)
  header_of_name-sound {s} {r} {v} on str h None e =
      let (c, x, is, follows) = endpoint_follows str refl in
      rw is (
        open_bracket ∷ (s ++ c ∷ []),
        ElementStops.no_header_end on (subst (λ y. Str (backslash_of o) header_ends s y v) is str)
            (no_name v e),
        ap (λ y. open_bracket ∷ y) (append_assoc s (c ∷ []) x ∙ ap (λ y. s ++ y) (sym is) ∙ h),
      )

  bracketed_header-sound : o.enabled_brackets_in_section_names ≡ true → (t : List ℕ) (a : Answer ℕ)
      → StringSays (backslash_of o) header_ends t a
      → ElementSays (open_bracket ∷ t) (bracketed_header a)
  bracketed_header-sound on t (stopped r k) (s, stops, h) =
      (open_bracket ∷ s, ElementStops.in_bracketed_header on stops, ap (λ y. open_bracket ∷ y) h)
  bracketed_header-sound on t (found v r) (s, str, h) = header_of_name-sound on str h (name_in v) refl

  after_bracket-sound : (cs : List ℕ) → ElementSays (open_bracket ∷ cs) (after_bracket o cs)
  after_bracket-sound cs = elim (cases_Bool o.enabled_brackets_in_section_names) [
    | inl on ↦
        subst (ElementSays (open_bracket ∷ cs)) (sym (cond-true o.enabled_brackets_in_section_names _ _ on))
        (bracketed_header-sound on cs (string (backslash_of o) header_ends cs) (line-reads.sound cs))
    | inr off ↦
        subst (ElementSays (open_bracket ∷ cs))
        (sym (cond-false o.enabled_brackets_in_section_names _ _ off))
        (header-sound off cs (string (backslash_of o) name_ends cs) (name-reads.sound cs))
  ]

  comment-sound : (c : ℕ) (s rest : List ℕ) → is_column_one b ≡ true → is_comment_mark c ≡ true
      → list_all is_comment_part s ≡ true
      → BeginsWithNo is_comment_part rest
      → ElementSays (c ∷ (s ++ rest)) (found [] (drop 1 rest))
  comment-sound c s [] one mark all other = (c ∷ s, Element.last_comment one mark all, refl)
  comment-sound c s (l ∷ rest) one mark all other =
      let feed : l ≡ line_feed = eqb-true l 10 (not-false (l == line_feed) other) in
      rw feed (
        c ∷ (s ++ line_feed ∷ []),
        Element.comment s one mark all,
        ap (λ y. c ∷ y) (append_assoc s (line_feed ∷ []) rest),
      )

  -- after a mark, by where it stands
  comment_there : (cs : List ℕ) → is_column_one b ≡ true
      → after_mark o b cs ≡ found [] (drop 1 (skipped is_comment_part cs))
  comment_there cs one = cond-true (is_column_one b) _ _ one

  note_there : (cs : List ℕ) → is_column_one b ≡ false → may_have_note o b ≡ true
      → after_mark o b cs ≡ found [] (skipped is_line_part cs)
  note_there cs late h = cond-false (is_column_one b) _ _ late ∙ cond-true _ _ _ h

  none_there : (cs : List ℕ) → is_column_one b ≡ false → may_have_note o b ≡ false
      → after_mark o b cs ≡ stopped cs InlineComment
  none_there cs late h = cond-false (is_column_one b) _ _ late ∙ cond-false _ _ _ h

  mark-sound : (c : ℕ) (cs : List ℕ) → is_comment_mark c ≡ true
      → ElementSays (c ∷ cs) (after_mark o b cs)
  mark-sound c cs mark = elim (cases_Bool (is_column_one b)) [
    | inl one ↦
        let split = run-sound is_comment_part cs in
        let rest = skipped is_comment_part cs in
        subst (ElementSays (c ∷ cs)) (sym (comment_there cs one))
        (subst (λ y. ElementSays (c ∷ y) (found [] (drop 1 rest))) split.whole
        (comment-sound c (run_of is_comment_part cs) rest one mark split.all split.ends))
    | inr late ↦ elim (cases_Bool (may_have_note o b)) [
      | inl may ↦
          subst (ElementSays (c ∷ cs)) (sym (note_there cs late may)) (
            c ∷ run_of is_line_part cs,
            Element.note may late (note_at c cs mark),
            ap (λ y. c ∷ y) (run-sound is_line_part cs).whole,
          )
      | inr none ↦
          subst (ElementSays (c ∷ cs)) (sym (none_there cs late none))
          (c ∷ [], ElementStops.late_comment mark late none, refl)
    ]
  ]

  blanks-sound : (c : ℕ) (cs : List ℕ) → is_blank c ≡ true → starts_line b ≡ true
      → ElementSays (c ∷ cs) (after_blanks o (run_of is_blank (c ∷ cs)) (skipped is_blank (c ∷ cs)))
  blanks-sound c cs blank start =
      let split = run-sound is_blank (c ∷ cs) in
      let w = run_of is_blank (c ∷ cs) in
      let rest = skipped is_blank (c ∷ cs) in
      let ind : Indentation b w =
      record { at_line_start = start; some = rw blank blank; blank = split.all } in
      subst (λ y. ElementSays y (after_blanks o w rest)) split.whole
      (after_blanks-sound w rest ind split.ends)

  pub element-sound : (c : ℕ) (cs : List ℕ) → ElementSays (c ∷ cs) (element o b (c ∷ cs))
  unfolding element
  element-sound c cs = elim (cases_Bool (is_blank c && starts_line b)) [
    | inl h ↦ let two = and_parts (is_blank c) (starts_line b) h in rw h (blanks-sound c cs two.0 two.1)
    | inr n ↦ elim (cases_Bool (is_whitespace c)) [
      | inl w ↦ rw (n, w) (c ∷ [], Element.gap (Gap.white {c = c} w (λ h. rw h at n)), refl)
      | inr x ↦ elim (cases_Bool (is_comment_mark c)) [
        | inl m ↦ rw (n, x, m) (mark-sound c cs m)
        | inr m ↦ elim (cases_Bool (c == open_bracket)) [
          | inl q ↦ rw (eqb-true c 91 q) (after_bracket-sound cs)
          | inr k ↦ rw (n, x, m, k)
              (unindented_pair-sound (c ∷ cs) (rw (x, m, k) refl) (key_string o (c ∷ cs))
              (key-reads.sound (c ∷ cs)))
        ]
      ]
    ]
  ]

  -- at a line's start, after blanks
  element-blanks : {w : List ℕ} (t : List ℕ) → Indentation b w → BeginsWithNo is_blank t
      → element o b (w ++ t) ≡ after_blanks o w t
  unfolding element
  element-blanks {w = []} t ind other = let none = ind.some in cc
  element-blanks {w = c ∷ w} t ind other =
      let split = run-finds is_blank (c ∷ w) t ind.blank other in
      cond-true (is_blank c && starts_line b) _ _ (rw (ind.some, ind.at_line_start) refl)
      ∙ rw (split.0, split.1) refl

  element-indented_pair : {w : List ℕ} (t : List ℕ) → Indentation b w
      → BeginsWith (begins_indented_key o) t
      → element o b (w ++ t) ≡ indented_pair o w t
  element-indented_pair [] ind begins = cc
  element-indented_pair (c ∷ t) ind begins =
      let x = key_apart o c begins in
      rw (element-blanks (c ∷ t) ind x.blank, x.line_end, x.bracket, x.note)

  element-unindented_pair : (t : List ℕ) → BeginsWith begins_key t → element o b t ≡ unindented_pair o t
  unfolding element
  element-unindented_pair [] begins = cc
  element-unindented_pair (c ∷ t) begins =
      let x = or_parts (is_whitespace c || is_comment_mark c) (c == open_bracket) (not-true _ begins) in
      let y = or_parts (is_whitespace c) (is_comment_mark c) x.0 in
      rw (no_white_no_blank c y.0, y.0, y.1, x.1)

  element-ended_key : {k x key : List ℕ} → KeyFront o b k x key → element o b (k ++ x) ≡ after_key o key x
  element-ended_key {x = x} (KeyFront.unindented {s} {v = v} begins str) =
      rw (element-unindented_pair (s ++ x) begins, key-reads.finds str)
      (ap (λ k. after_key o k x) (key_value o.enabled_preserve_key_leading_whitespace v))
  element-ended_key {x = x} (KeyFront.indented {w} {s} {v = v} ind begins str) =
      rw (append_assoc w s x, element-indented_pair (s ++ x) ind begins, key-reads.finds str)
      (ap (λ k. after_key o k x) (indented_value o.enabled_preserve_key_leading_whitespace w v))

  element-key : {k x key : List ℕ} {m : ℕ} → KeyFront o b k (m ∷ x) key → is_separator m ≡ true
      → element o b (k ++ m ∷ x) ≡ after_separator o key x
  element-key {key = key} {m} front sep = element-ended_key front ∙ separated o key {c = m} refl sep

  -- a key that no separator follows
  element-lone_key : {k r key : List ℕ} → KeyFront o b k r key → BeginsWithNo is_separator r
      → element o b (k ++ r) ≡ lone_key o.line_without_separator key r
  element-lone_key {r = r} {key} front next = element-ended_key front ∙ alone_after o key r next

  element-gap : {s r : List ℕ} → Gap b s r → element o b (s ++ r) ≡ found [] r
  unfolding element
  element-gap {r = r} (Gap.blank_line {w} c ind end) =
      rw (append_assoc w (c ∷ []) r, element-blanks (c ∷ r) ind (line_end_no_blank c end))
      (cond-true (is_line_end c) _ _ end)
  element-gap (Gap.before_header {w} {r} ind) = element-blanks (open_bracket ∷ r) ind refl
  element-gap (Gap.white {c} w n) = rw (no_line_start c n, w)

  element-comment : (m : ℕ) (s r : List ℕ) → is_column_one b ≡ true → is_comment_mark m ≡ true
      → list_all is_comment_part s ≡ true
      → BeginsWithNo is_comment_part r → element o b (m ∷ (s ++ r)) ≡ found [] (drop 1 r)
  unfolding element
  element-comment m s r one mark all other =
      let apart = comment_mark-apart m mark in rw (
        apart.0,
        apart.1,
        mark,
        one,
        (run-finds is_comment_part s r all other).1,
      )

  element-indented_comment : {w s r : List ℕ} → o.enabled_indented_comment ≡ true → Indentation b w
      → Note s r → element o b ((w ++ s) ++ r) ≡ found [] r
  element-indented_comment {w} {r = r} on ind (Note.note {m} {s} mark all closes) =
      let kinds = comment_mark-in_line m mark in
      rw (
        append_assoc w (m ∷ s) r,
        element-blanks (m ∷ (s ++ r)) ind (comment_mark-apart m mark).0,
        kinds.0,
        kinds.1,
        on,
        mark,
        note_read {m = m} {s = s} {r = r} (Note.note mark all closes),
      )

  element-note : {s r : List ℕ} → may_have_note o b ≡ true → is_column_one b ≡ false → Note s r
      → element o b (s ++ r) ≡ found [] r
  unfolding element
  element-note {r = r} may late (Note.note {m} {s} mark all closes) =
      let apart = comment_mark-apart m mark in
      rw (apart.0, apart.1, mark) (note_there (s ++ r) late may
      ∙ ap (found []) (note_read {m = m} {s = s} {r = r} (Note.note mark all closes)))

  pub element-finds : {s r : List ℕ} {gives : List Given} → Element o b s r gives
      → element o b (s ++ r) ≡ found gives r
  unfolding element
  element-finds (Element.gap g) = element-gap g
  element-finds {r = r} (Element.comment {m} s one mark all) =
      rw (append_assoc s (line_feed ∷ []) r) (element-comment m s (line_feed ∷ r) one mark all refl)
  element-finds (Element.last_comment {m} {s} one mark all) = element-comment m s [] one mark all tt
  element-finds (Element.indented_comment on ind is_note) = element-indented_comment on ind is_note
  element-finds (Element.note may late is_note) = element-note may late is_note
  element-finds {r = r} (Element.header {s} off str) =
      rw (off, append_assoc s (close_bracket ∷ []) r, name-reads.finds str)
  element-finds (Element.bracketed_header on str i) = rw (on, line-reads.finds str, finds_name i)
  element-finds {r = r} (Element.pair {k} {s} {key = key} {m = m} front some sep given) =
      rw (
        append_assoc k (m ∷ s) r,
        element-key front sep,
        value_after o key (s ++ r) some,
        (value-reads o).finds given,
      )
  element-finds {r = r} (Element.lone_key {key = key} alone front some next) =
      element-lone_key front next ∙ ap (λ line. lone_key line key r) alone ∙ some_lone_key key r some
  element-finds (Element.dropped_blanks ind) = element-blanks [] ind tt
  element-finds (Element.dropped_key {w} {s} runs ind begins stops) =
      let here = subst (λ l. StrStops (backslash_of o) (ends_by l) s [] EndOfText) (sym runs) stops in
      let reads : key_string o s ≡ stopped [] EndOfText = rw (append-nil s) at (key-reads.stops here) in
      rw (append-nil (w ++ s), element-indented_pair s ind begins, reads)
      (ap (λ l. dropped_tail l [] EndOfText) runs)

  pub element-stops : {s r : List ℕ} {k : ParseKind} → ElementStops o b s r k
      → element o b (s ++ r) ≡ stopped r k
  unfolding element
  element-stops (ElementStops.in_header off stops) = rw (off, name-reads.stops stops)
  element-stops (ElementStops.in_bracketed_header on stops) = rw (on, line-reads.stops stops)
  element-stops {r = r} (ElementStops.no_header_end {s} {v = v} {c} on str none) =
      rw (on, append_assoc s (c ∷ []) r, line-reads.finds str, none_found v none)
  element-stops {s} {r} (ElementStops.in_key begins stops) =
      rw (element-unindented_pair (s ++ r) begins, key-reads.stops stops)
  element-stops {r = r} {k} (ElementStops.in_indented_key {w} {s} ind begins stops n) =
      rw (append_assoc w s r, element-indented_pair (s ++ r) ind begins, key-reads.stops stops)
      (not_dropped o.line_without_separator r k n)
  element-stops {r = r} (ElementStops.no_key {k} {m = m} front sep) =
      rw (append_assoc k (m ∷ []) r) (element-key front sep)
  element-stops {r = r} (ElementStops.no_lone_key {k} {c = c} alone front end) =
      rw (append_assoc k (c ∷ []) r) (element-lone_key front (part_no_separator c end) ∙ rw alone refl)
  element-stops (ElementStops.no_last_key alone front) = element-lone_key front tt ∙ rw alone refl
  element-stops {r = r} (ElementStops.no_separator {k} {key = key} {c} refuses front end) =
      rw (append_assoc k (c ∷ []) r) (element-lone_key front (part_no_separator c end)
      ∙ ap (λ line. lone_key line key (c ∷ r)) refuses)
  element-stops {r = r} (ElementStops.in_value {k} {s} {key = key} {m = m} front some sep stops) =
      rw (
        append_assoc k (m ∷ s) r,
        element-key front sep,
        value_after o key (s ++ r) some,
        (value-reads o).stops stops,
      )
  element-stops (ElementStops.late_comment {m} mark late none) =
      let apart = comment_mark-apart m mark in
      rw (apart.0, apart.1, mark) (none_there _ late none)

  -- what the reader answers at a text that isn't at its end
  pub element-says : {t cs : List ℕ} {c : ℕ} {a : Answer Given} → t ≡ c ∷ cs → element o b t ≡ a
      → ElementSays t a
  element-says {t} {cs} {c} is e = subst (ElementSays t) e (rw is (element-sound c cs))

-- the front before the rest after a line's blanks
pub blanks_front : {t start : List ℕ} → start ≡ skipped is_blank t
    → (front_of t start ≡ run_of is_blank t) × IsRest t start
blanks_front {t} {start} is =
    let whole : run_of is_blank t ++ start ≡ t =
    ap (λ x. run_of is_blank t ++ x) is ∙ (run-sound is_blank t).whole in
    let front = front_is (run_of is_blank t) start t whole in
    (front, ap (λ x. x ++ start) front ∙ whole)
