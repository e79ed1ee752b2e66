-- The lines with which a value goes on, one after another, as the code reads them.
use Rattle.std.proofs.Common.{◌≡◌, ◌≢◌, ℕ, ◌<◌, true, false, List, [], ◌∷◌, ◌++◌, length, Some, None, inl}
use Rattle.std.proofs.Common.{inr, refl, sym, ap, ◌∙◌, subst, append_assoc, ne_eqb}
use Rattle.std.proofs.lemmas.Bool.{cases_Bool, cond-true}
use Rattle.ini_text.specs.declared.error.ParseKind.{ParseKind}
use Rattle.ini_text.specs.Grammar.CharacterKinds.{line_feed, carriage_return, begins, is_blank}
use Rattle.ini_text.specs.Grammar.CharacterKinds.{is_inline_white, BeginsWithNo, is_comment_mark}
use Rattle.ini_text.specs.Grammar.WhiteSpace.{Lead, without_outer_line_feeds}
use Rattle.ini_text.specs.Grammar.Keys.{begins_note}
use Rattle.ini_text.specs.Grammar.Values.{CommentLine, MoreLines, MoreLinesStop}
use Rattle.ini_text.specs.Inside.LineReader.{line}
use Rattle.ini_text.specs.Inside.Reading.{found, stopped, prepend, altered_answer, more, ends, go_on}
use Rattle.ini_text.specs.Inside.Scans.{is_line_part, run_of, skipped}
use Rattle.ini_text.specs.Inside.ValueReader.{after_end, comment_end, empty_cr, before_end, row, more_lines}
use Rattle.ini_text.specs.Inside.ValueReader.{multiline_value, value}
use Rattle.ini_text.proofs.GrammarLemmas.KindLemmas.{blank_inline}
use Rattle.ini_text.proofs.ReaderLemmas.ReaderLemmas.{and_more, and_found, read_after, stopped_after}
use Rattle.ini_text.proofs.ReaderLemmas.ReaderLemmas.{shortens}
use Rattle.ini_text.proofs.ReaderLemmas.NoteLemmas.{other_text}
use Rattle.ini_text.proofs.ReaderLemmas.RunReaderLemmas.{run-sound}
use Rattle.ini_text.proofs.ReaderLemmas.ValueReaderLemmas.{lines-turn, goes_on, row-sound, row-comment}
use Rattle.ini_text.proofs.ReaderLemmas.ValueReaderLemmas.{blank-apart, comment_line, joined}
use Rattle.ini_text.specs.declared.option.ParseOption.{ParseOption}

module _ (o : ParseOption) where
  -- the lines that go on, line by line
  pub no_lines : {t : List ℕ} → t ≡ [] → more_lines o t ≡ found [] t
  no_lines none = rw none ((lines-turn o) [])

  pub no_more_lines : {t cs : List ℕ} {c : ℕ} → t ≡ c ∷ cs → c ≢ line_feed → c ≢ carriage_return
      → is_blank c ≡ false → more_lines o t ≡ found [] t
  no_more_lines {cs = cs} {c} is n m b =
      rw is ((lines-turn o) (c ∷ cs) ∙ rw (ne_eqb c 10 n, ne_eqb c 13 m, b))

  pub empty_line : {t cs : List ℕ} {c : ℕ} → t ≡ c ∷ cs → c ≡ line_feed
      → more_lines o t ≡ prepend (line_feed ∷ []) (more_lines o cs)
  empty_line {cs = cs} is q = rw (is, q) ((lines-turn o) (line_feed ∷ cs))

  pub empty_cr_line : {t cs r : List ℕ} {c : ℕ} → t ≡ c ∷ cs → c ≡ carriage_return
      → empty_cr cs ≡ found [] r → more_lines o t ≡ prepend (line_feed ∷ []) (more_lines o r)
  empty_cr_line {cs = cs} is q h = rw (is, q) ((lines-turn o) (carriage_return ∷ cs) ∙ rw h)

  pub empty_cr_stops : {t cs r : List ℕ} {k : ParseKind} {c : ℕ} → t ≡ c ∷ cs → c ≡ carriage_return
      → empty_cr cs ≡ stopped r k → more_lines o t ≡ stopped r k
  empty_cr_stops {cs = cs} is q h = rw (is, q) ((lines-turn o) (carriage_return ∷ cs) ∙ rw h)

  -- an indented comment, and a line that is none
  past_blank : (c : ℕ) (cs : List ℕ) → is_blank c ≡ true
      → skipped is_inline_white (c ∷ cs) ≡ skipped is_inline_white cs
  past_blank c cs b = cond-true (is_inline_white c) _ _ (blank_inline c b)

  pub no_comment_text : (c : ℕ) (cs : List ℕ) → is_blank c ≡ true → comment_end o c cs ≡ None
      → o.enabled_indented_comment ≡ true → BeginsWithNo is_comment_mark (skipped is_inline_white (c ∷ cs))
  no_comment_text c cs b none =
      let t = skipped is_inline_white cs in
      subst (λ y. o.enabled_indented_comment ≡ true → BeginsWithNo is_comment_mark y)
      (sym (past_blank c cs b)) (elim (cases_Bool (begins (begins_note o) t)) [
        | inl h ↦ absurd (let z : None ≡ Some (skipped is_line_part t) = sym none ∙ rw (b, h) refl in cc)
        | inr n ↦ other_text o t n
      ])

  pub comment_at : (c : ℕ) (cs : List ℕ) {end : List ℕ} → comment_end o c cs ≡ Some end
      → (s : List ℕ) × CommentLine o s end × (s ++ end ≡ c ∷ cs)
  comment_at c cs {end} some = elim (cases_Bool (is_blank c)) [
    | inl b ↦
        let t = skipped is_inline_white cs in
        elim (cases_Bool (begins (begins_note o) t)) [
          | inl h ↦
              let same : Some (skipped is_line_part t) ≡ Some end = sym (rw (b, h) refl) ∙ some in
              let is : skipped is_line_part t ≡ end = cc in
              let split = run-sound is_inline_white cs in
              let w = c ∷ run_of is_inline_white cs in
              let lead : Lead w t =
              record { white = rw (blank_inline c b, split.all) refl; ends = split.ends } in
              let (s, line, whole) = (comment_line o) w t b lead h in (
                s,
                subst (CommentLine o s) is line,
                ap (λ y. s ++ y) (sym is) ∙ whole ∙ ap (λ y. c ∷ y) split.whole,
              )
          | inr n ↦ absurd (let z : None ≡ Some end = sym (rw (b, n) refl) ∙ some in cc)
        ]
    | inr n ↦ absurd (let z : None ≡ Some end = sym (rw n refl) ∙ some in cc)
  ]

  pub comment_goes_on : {t cs end next : List ℕ} {c : ℕ} → t ≡ c ∷ cs → comment_end o c cs ≡ Some end
      → after_end end ≡ Some next
      → (more_lines o t ≡ prepend [] (more_lines o next)) × (length next < length t)
  comment_goes_on {t} {cs} {end} {next} {c} is comment some =
      let (s, line, whole) = comment_at c cs comment in
      let step : row o t ≡ more [] next =
      ap (row o) (is ∙ sym whole) ∙ (row-comment o) line ∙ ap (before_end [] end) some in (
        (lines-turn o) t ∙ ap (go_on (more_lines o)) step,
        shortens (MoreLines o) (MoreLinesStop o) (row o) (row-sound o) step,
      )

  -- a line that begins with a blank, after what was read, `old`, and a line feed
  module _ {t cs start : List ℕ} {c : ℕ} (old pushed : List ℕ) (is : t ≡ c ∷ cs) (b : is_blank c ≡ true)
      (skips : start ≡ skipped is_inline_white t) (no_comment : comment_end o c cs ≡ None)
      (feed : pushed ≡ old ++ line_feed ∷ []) where
    row-at : row o t ≡ (goes_on o) (line o false start)
    row-at =
        let following : start ≡ skipped is_inline_white cs = skips ∙ ap (skipped is_inline_white) is
        ∙ cond-true (is_inline_white c) _ _ (blank_inline c b) in
        rw (following, is)
        (rw (ne_eqb c 10 (blank-apart c 10 refl b), ne_eqb c 13 (blank-apart c 13 refl b), no_comment, b))

    line-turn : more_lines o t ≡ go_on (more_lines o) ((goes_on o) (line o false start))
    line-turn = (lines-turn o) t ∙ ap (go_on (more_lines o)) row-at

    grown-by : {new : List ℕ} (u : List ℕ) → new ≡ pushed ++ u → new ≡ old ++ (line_feed ∷ u)
    grown-by u grown = grown ∙ ap (λ x. x ++ u) feed ∙ append_assoc old (line_feed ∷ []) u

    pub line_goes_on : {new end next : List ℕ} → prepend pushed (line o false start) ≡ found new end
        → after_end end ≡ Some next
        → (prepend old (more_lines o t) ≡ prepend new (more_lines o next)) × (length next < length t)
    line_goes_on {end = end} {next} h e =
        let (u, read, grown) = read_after pushed (line o false start) h in
        let step : row o t ≡ more (line_feed ∷ u) next =
        row-at ∙ ap (goes_on o) read ∙ ap (before_end (line_feed ∷ u) end) e in (
          and_more old (line_feed ∷ u) (more_lines o next) refl
              ((lines-turn o) t ∙ ap (go_on (more_lines o)) step) (grown-by u grown),
          shortens (MoreLines o) (MoreLinesStop o) (row o) (row-sound o) step,
        )

    pub line_ends : {new end : List ℕ} → prepend pushed (line o false start) ≡ found new end
        → after_end end ≡ None → prepend old (more_lines o t) ≡ found new end
    line_ends {end = end} h e =
        let (u, read, grown) = read_after pushed (line o false start) h in
        let step : row o t ≡ ends (found (line_feed ∷ u) end) =
        row-at ∙ ap (goes_on o) read ∙ ap (before_end (line_feed ∷ u) end) e in
        and_found old refl ((lines-turn o) t ∙ ap (go_on (more_lines o)) step) (grown-by u grown)

    pub line_stops : {r : List ℕ} {k : ParseKind} → prepend pushed (line o false start) ≡ stopped r k
        → prepend old (more_lines o t) ≡ stopped r k
    line_stops h =
        ap (prepend old) (line-turn
        ∙ ap (λ a. go_on (more_lines o) ((goes_on o) a)) (stopped_after pushed (line o false start) h))

  -- a value, after its lead
  module _ {start : List ℕ} (t : List ℕ) (skips : start ≡ skipped is_inline_white t) where
    pub value_line : o.enabled_indented_mutiline_value ≡ false → value o t ≡ line o true start
    unfolding value
    value_line off = rw (skips, off)

    value_multiline : o.enabled_indented_mutiline_value ≡ true
        → value o t ≡ multiline_value o (line o true start)
    unfolding value
    value_multiline on = rw (skips, on)

    pub value_stops : {r : List ℕ} {k : ParseKind} → line o true start ≡ stopped r k
        → value o t ≡ stopped r k
    value_stops h = elim (cases_Bool o.enabled_indented_mutiline_value)
        [ inl on ↦ value_multiline on ∙ ap (multiline_value o) h | inr off ↦ value_line off ∙ h ]

    pub value_ends : {u v end : List ℕ} → o.enabled_indented_mutiline_value ≡ true
        → line o true start ≡ found u end → after_end end ≡ None → v ≡ without_outer_line_feeds u
        → value o t ≡ found v end
    value_ends {u} {end = end} on h e is =
        value_multiline on ∙ ap (multiline_value o) h
        ∙ ap (λ n. altered_answer without_outer_line_feeds (go_on (more_lines o) (before_end u end n))) e
        ∙ ap (λ x. found x end) (sym is)

    pub value_goes_on : {u end next : List ℕ} → o.enabled_indented_mutiline_value ≡ true
        → line o true start ≡ found u end → after_end end ≡ Some next
        → value o t ≡ (joined o) u (more_lines o next)
    value_goes_on {u} {end} on h e = value_multiline on ∙ ap (multiline_value o) h
        ∙ ap (λ n. altered_answer without_outer_line_feeds (go_on (more_lines o) (before_end u end n))) e
