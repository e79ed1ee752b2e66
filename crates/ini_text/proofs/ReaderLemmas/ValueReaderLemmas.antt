-- Reading a value by its first line and the lines with which it goes on: the reader finds what the grammar
-- says, and the code gives it.
use Rattle.std.proofs.Common.{◌≡◌, ◌≢◌, ◌≤◌, ℕ, ◌<◌, Bool, true, false, ◌==◌, List, [], ◌∷◌, ◌++◌, length}
use Rattle.std.proofs.Common.{Option, Some, None, inl, inr, refl, sym, ap, ◌∙◌, subst, append_assoc}
use Rattle.std.proofs.Common.{append-nil, length-append, arith, ne_eqb, eqb-true}
use Rattle.std.proofs.Math.Bool.{or-false}
use Rattle.std.proofs.lemmas.Bool.{cases_Bool, cond_both, and_parts, or_parts}
use Rattle.std.proofs.lemmas.List.{append_cancel_left}
use Rattle.std.specs.List.{list_all}
use Rattle.ini_text.specs.declared.option.ParseOption.{ParseOption}
use Rattle.ini_text.specs.declared.error.ParseKind.{ParseKind}
use Rattle.ini_text.specs.Grammar.CharacterKinds.{line_feed, carriage_return, begins, is_blank, is_line_end}
use Rattle.ini_text.specs.Grammar.CharacterKinds.{is_inline_white, BeginsWith, BeginsWithNo}
use Rattle.ini_text.specs.Grammar.WhiteSpace.{Lead, without_outer_line_feeds}
use Rattle.ini_text.specs.Grammar.Strings.{plain_ends, Closes}
use Rattle.ini_text.specs.Grammar.Keys.{begins_note}
use Rattle.ini_text.specs.Grammar.Lines.{Line, Note}
use Rattle.ini_text.specs.Grammar.Values.{CommentLine, GoesOn, LineEnd, MoreLines, Value, MoreLinesStop}
use Rattle.ini_text.specs.Grammar.Values.{ValueStops}
use Rattle.ini_text.specs.Inside.LineReader.{line}
use Rattle.ini_text.specs.Inside.Reading.{Answer, found, stopped, prepend, altered_answer, Step, more, ends}
use Rattle.ini_text.specs.Inside.Reading.{go_on}
use Rattle.ini_text.specs.Inside.Scans.{is_line_part, run_of, skipped}
use Rattle.ini_text.specs.Inside.StringReader.{as_step}
use Rattle.ini_text.specs.Inside.ValueReader.{past_cr, after_end, after_note, empty_cr, after_line}
use Rattle.ini_text.specs.Inside.ValueReader.{indented_line, row, more_lines, multiline_value, value}
use Rattle.ini_text.proofs.GrammarLemmas.KindLemmas.{blank_inline}
use Rattle.ini_text.proofs.ReaderLemmas.ReaderLemmas.{Says, IsReader, StepSays, prefixed, turn, reads}
use Rattle.ini_text.proofs.ReaderLemmas.LineReaderLemmas.{LineSays, line-reads}
use Rattle.ini_text.proofs.ReaderLemmas.NoteLemmas.{LineTail-closes, no_note, note_read, other_text}
use Rattle.ini_text.proofs.ReaderLemmas.NoteLemmas.{past_mark, some_note}
use Rattle.ini_text.proofs.ReaderLemmas.RunReaderLemmas.{BeginsWith-some, run-finds, run-sound}

-- a line end, and what follows it
after_end-finds : {e r : List ℕ} → LineEnd e r → after_end (e ++ r) ≡ Some r
after_end-finds LineEnd.lf = refl
after_end-finds LineEnd.cr_lf = refl
after_end-finds {r = []} (LineEnd.cr n) = refl
after_end-finds {r = c ∷ r} (LineEnd.cr n) = rw n

abbrev pub EndSays : List ℕ → Option (List ℕ) → Type 0
EndSays t None = BeginsWithNo is_line_end t
EndSays t (Some r) = (e : List ℕ) × LineEnd e r × (e ++ r ≡ t)

pub after_end-sound : (t : List ℕ) → EndSays t (after_end t)
after_end-sound [] = tt
after_end-sound (c ∷ cs) = elim (cases_Bool (c == line_feed)) [
  | inl q ↦ rw (eqb-true c 10 q) (line_feed ∷ [], LineEnd.lf, refl)
  | inr n ↦
      elim (cases_Bool (c == carriage_return))
      [ inl q ↦ rw (eqb-true c 13 q) (at_cr cs) | inr m ↦ rw (n, m) (rw (n, m) refl) ]
]
  where
    at_cr : (cs : List ℕ) → EndSays (carriage_return ∷ cs) (Some (past_cr cs))
    at_cr [] = (carriage_return ∷ [], LineEnd.cr tt, refl)
    at_cr (d ∷ ds) = elim (cases_Bool (d == line_feed)) [
      | inl q ↦ rw (eqb-true d 10 q) (carriage_return ∷ line_feed ∷ [], LineEnd.cr_lf, refl)
      | inr n ↦ rw n (carriage_return ∷ [], LineEnd.cr n, refl)
    ]

-- a line that no line end follows ends the text
pub no_end : (t : List ℕ) → Closes plain_ends t → after_end t ≡ None → t ≡ []
no_end [] h n = refl
no_end (c ∷ cs) h n =
    let none : BeginsWithNo is_line_end (c ∷ cs) = subst (EndSays (c ∷ cs)) n (after_end-sound (c ∷ cs)) in
    let z : true ≡ false = sym (rw or-false at h) ∙ none in cc

pub line_end-some : {e r : List ℕ} → LineEnd e r → 1 ≤ length e
line_end-some LineEnd.lf = omega arith
line_end-some LineEnd.cr_lf = omega arith
line_end-some (LineEnd.cr n) = omega arith

pub Line-closes : {o : ParseOption} {first : Bool} {s r v : List ℕ} → Line o first s r v
    → Closes plain_ends r
Line-closes (Line.line ln tail) = LineTail-closes tail

-- a line of lead w and source l, with the value u, before its line end e and then r
pub record EndedLine (o : ParseOption) (first : Bool) (w l e r u : List ℕ) : Type 0 where
  pub lead : Lead w (l ++ (e ++ r))
  pub line : Line o first l (e ++ r) u
  pub end : LineEnd e r

-- where a line is read and the text goes on, stands a line end
ended : {o : ParseOption} {first : Bool} {w x u : List ℕ} (c : ℕ) (r : List ℕ) → Lead w x
    → LineSays o first x (found u (c ∷ r))
    → (n : List ℕ) × (after_end (c ∷ r) ≡ Some n) × (l : List ℕ) × (e : List ℕ) × EndedLine o first w l e n
    u × (w ++ (l ++ (e ++ n)) ≡ w ++ x)
ended {o} {first} {w} {x} {u} c r lead (l, ln, h) = by (after_end (c ∷ r)) refl (after_end-sound (c ∷ r))
  where
    by : (n : Option (List ℕ)) → after_end (c ∷ r) ≡ n → EndSays (c ∷ r) n
        → (n : List ℕ) × (after_end (c ∷ r) ≡ Some n) × (l : List ℕ) × (e : List ℕ) × EndedLine o first w l
        e n u × (w ++ (l ++ (e ++ n)) ≡ w ++ x)
    by None is none = let z : true ≡ false = sym (rw or-false at (Line-closes ln)) ∙ none in cc
    by (Some n) is (e, end, q) = (
      n,
      is,
      l,
      e,
      record { lead = rw (q, h) lead; line = rw q ln; end = end },
      ap (λ y. w ++ y)
          (ap (λ y. l ++ y) q ∙ h),
    )

-- a blank is inline white and ends no line
pub blank-apart : (c x : ℕ) → is_blank x ≡ false → is_blank c ≡ true → c ≢ x
blank-apart c x n h q = let z = subst (λ y. is_blank y ≡ true) q h in cc

after_lead : {w x : List ℕ} → Lead w x → skipped is_inline_white (w ++ x) ≡ x
after_lead {w} {x} lead = (run-finds is_inline_white w x lead.white lead.ends).1

module _ (o : ParseOption) where
  abbrev LinesSay : List ℕ → Answer ℕ → Type 0
  LinesSay t a = Says (MoreLines o) (MoreLinesStop o) t a

  abbrev RowSays : List ℕ → Step ℕ → Type 0
  RowSays t x = StepSays (MoreLines o) (MoreLinesStop o) t x

  continued : {w l e n u : List ℕ} → GoesOn o w (l ++ (e ++ n)) → EndedLine o false w l e n u
      → (a : Answer ℕ) → LinesSay n a
      → LinesSay (w ++ (l ++ (e ++ n))) (prepend (line_feed ∷ u) a)
  continued {w} {l} {e} {u = u} goes ln (found v r) (s, m, h) =
      let x = subst (λ y. EndedLine o false w l e y u) (sym h) ln in
      let g = subst (λ y. GoesOn o w (l ++ (e ++ y))) (sym h) goes in
      (w ++ (l ++ (e ++ s)), MoreLines.continued g x.line x.end m, simp (append_assoc, h))
  continued {w} {l} {e} {u = u} goes ln (stopped r k) (s, m, h) =
      let x = subst (λ y. EndedLine o false w l e y u) (sym h) ln in
      let g = subst (λ y. GoesOn o w (l ++ (e ++ y))) (sym h) goes in
      (w ++ (l ++ (e ++ s)), MoreLinesStop.continued g x.line x.end m, simp (append_assoc, h))

  commented : {s e n : List ℕ} → CommentLine o s (e ++ n) → LineEnd e n → (a : Answer ℕ) → LinesSay n a
      → LinesSay (s ++ (e ++ n)) (prepend [] a)
  commented {s} {e} line end (found v r) (t, m, h) = (
    s ++ (e ++ t),
    MoreLines.comment (subst (λ y. CommentLine o s (e ++ y)) (sym h) line) (subst (LineEnd e) (sym h) end) m,
    simp (append_assoc, h),
  )
  commented {s} {e} line end (stopped r k) (t, m, h) = (
    s ++ (e ++ t),
    MoreLinesStop.comment (subst (λ y. CommentLine o s (e ++ y)) (sym h) line)
        (subst (LineEnd e) (sym h) end) m,
    simp (append_assoc, h),
  )

  abbrev pub goes_on : Answer ℕ → Step ℕ
  goes_on a = after_line (prepend (line_feed ∷ []) a)

  goes_on-sound : (w x : List ℕ) → GoesOn o w x → (a : Answer ℕ) → LineSays o false x a
      → RowSays (w ++ x) (goes_on a)
  goes_on-sound w x goes (found u []) (l, ln, h) = (
    w ++ l,
    MoreLines.last (subst (GoesOn o w) (sym h ∙ append-nil l) goes) ln,
    append_assoc w l [] ∙ ap (λ y. w ++ y) h,
  )
  goes_on-sound w x goes (found u (c ∷ r)) said =
      let (n, is, l, e, ln, whole) = ended c r goes.lead said in
      rw (is, ← whole) (
        omega (
          arith,
          BeginsWith-some is_blank w goes.begins,
          length-append w (l ++ (e ++ n)),
          length-append l (e ++ n),
          length-append e n,
        ),
        continued (subst (GoesOn o w) (append_cancel_left w x (l ++ (e ++ n)) (sym whole)) goes) ln,
      )
  goes_on-sound w x goes (stopped r k) (l, stops, h) = (
    w ++ l,
    MoreLinesStop.in_line (subst (GoesOn o w) (sym h) goes) stops,
    append_assoc w l r ∙ ap (λ y. w ++ y) h,
  )

  -- an indented comment
  pub comment_line : (w t : List ℕ) → BeginsWith is_blank w → Lead w t → begins (begins_note o) t ≡ true
      → (s : List ℕ) × CommentLine o s (skipped is_line_part t) × (s ++ skipped is_line_part t ≡ w ++ t)
  comment_line w t b lead h =
      let (on, n, noted, whole) = some_note o t h in (
        w ++ n,
        CommentLine.comment on b (subst (Lead w) (sym whole) lead) noted,
        append_assoc w n (skipped is_line_part t) ∙ ap (λ y. w ++ y) whole,
      )

  pub CommentLine-closes : {s r : List ℕ} → CommentLine o s r → Closes plain_ends r
  CommentLine-closes (CommentLine.comment on b lead (Note.note mark all closes)) = closes

  CommentLine-some : {s r : List ℕ} → CommentLine o s r → 1 ≤ length s
  CommentLine-some (CommentLine.comment {w} {n} on b lead noted) =
      omega (arith, BeginsWith-some is_blank w b, length-append w n)

  comment-sound : {t : List ℕ} (s r : List ℕ) → CommentLine o s r → s ++ r ≡ t
      → RowSays t (after_line (found [] r))
  comment-sound {t} s r line whole = by (after_end r) refl (after_end-sound r)
    where
      by : (n : Option (List ℕ)) → after_end r ≡ n → EndSays r n → RowSays t (after_line (found [] r))
      by None is none =
          let empty : r ≡ [] = no_end r (CommentLine-closes line) is in
          rw empty (
            s,
            MoreLines.last_comment (subst (CommentLine o s) empty line),
            ap (λ y. s ++ y) (sym empty) ∙ whole,
          )
      by (Some n) is (e, end, q) =
          rw is (subst (λ t. RowSays t (more [] n)) (ap (λ y. s ++ y) q ∙ whole) (
            omega (arith, CommentLine-some line, length-append s (e ++ n), length-append e n),
            commented (subst (CommentLine o s) (sym q) line) end,
          ))

  pub row-sound : (t : List ℕ) → RowSays t (row o t)
  row-sound [] = ([], MoreLines.done tt tt, refl)
  row-sound (c ∷ cs) = elim (cases_Bool (c == line_feed)) [
    | inl q ↦
        let lf = line_feed ∷ [] in
        rw (eqb-true c 10 q) (
          omega arith,
          prefixed lf lf cs (λ s r v m. MoreLines.empty_lf m) (λ s r k m. MoreLinesStop.empty_lf m),
        )
    | inr n ↦ elim (cases_Bool (c == carriage_return)) [
      | inl q ↦ rw (eqb-true c 13 q) (at_cr cs)
      | inr m ↦ elim (cases_Bool (is_blank c)) [
        | inl b ↦ rw (n, m, b) (at_blank b)
        | inr b ↦ rw (n, m, b) ([], MoreLines.done {r = c ∷ cs} b (rw (n, m) refl), refl)
      ]
    ]
  ]
    where
      at_cr : (cs : List ℕ)
          → RowSays (carriage_return ∷ cs) (as_step (prepend (line_feed ∷ []) (empty_cr cs)))
      at_cr [] = (carriage_return ∷ [], MoreLinesStop.cr_at_end, refl)
      at_cr (d ∷ ds) = elim (cases_Bool (d == line_feed)) [
        | inl q ↦
            let shorter : length ds < length (carriage_return ∷ line_feed ∷ ds) = omega arith in
            let crlf = carriage_return ∷ line_feed ∷ [] in
            rw (eqb-true d 10 q) (
              shorter,
              prefixed crlf (line_feed ∷ []) ds
                  (λ s r v m. MoreLines.empty_cr_lf m) (λ s r k m. MoreLinesStop.empty_cr_lf m),
            )
        | inr n ↦ rw n (carriage_return ∷ d ∷ [], MoreLinesStop.cr_alone n, refl)
      ]

      at_blank : is_blank c ≡ true → RowSays (c ∷ cs) (indented_line o (skipped is_inline_white cs)
          (after_note o (skipped is_inline_white cs)))
      at_blank b =
          let split = run-sound is_inline_white cs in
          let rest = skipped is_inline_white cs in
          let w = c ∷ run_of is_inline_white cs in
          let lead : Lead w rest =
          record { white = rw (blank_inline c b, split.all) refl; ends = split.ends } in
          subst (λ y. RowSays (c ∷ y) (indented_line o rest (after_note o rest))) split.whole
          (elim (cases_Bool (begins (begins_note o) rest)) [
            | inl h ↦
                let (s, line, whole) = comment_line w rest b lead h in
                rw h (comment-sound s (skipped is_line_part rest) line whole)
            | inr n ↦
                let goes : GoesOn o w rest =
                record { begins = b; lead = lead; text = other_text o rest n } in
                rw n (goes_on-sound w rest goes (line o false rest) ((line-reads o false).sound rest))
          ])

  pub lines-turn : (t : List ℕ) → more_lines o t ≡ go_on (more_lines o) (row o t)
  unfolding more_lines
  lines-turn t = turn (MoreLines o) (MoreLinesStop o) (row o) row-sound t

  last : {a : Answer ℕ} (t : List ℕ) → row o t ≡ ends a → more_lines o t ≡ a
  last t e = lines-turn t ∙ ap (go_on (more_lines o)) e

  then : {r w : List ℕ} {a : Answer ℕ} (t : List ℕ) → row o t ≡ more w r → more_lines o r ≡ a
      → more_lines o t ≡ prepend w a
  then {w = w} t e rest = lines-turn t ∙ ap (go_on (more_lines o)) e ∙ ap (prepend w) rest

  row-indented : {w x : List ℕ} → BeginsWith is_blank w → Lead w x
      → row o (w ++ x) ≡ indented_line o x (after_note o x)
  row-indented {w = []} b lead = cc
  row-indented {w = c ∷ w} {x} b lead =
      let white : list_all is_inline_white w ≡ true = (and_parts (is_inline_white c) _ lead.white).1 in
      rw (
        ne_eqb c 10 (blank-apart c 10 refl b),
        ne_eqb c 13 (blank-apart c 13 refl b),
        b,
        after_lead
            {w = w} (record { white = white; ends = lead.ends }),
      )

  row-blank : {w x : List ℕ} → GoesOn o w x → row o (w ++ x) ≡ goes_on (line o false x)
  row-blank {x = x} goes = row-indented goes.begins goes.lead ∙ rw (no_note o x goes.text) refl

  row-continued : {w l e n u : List ℕ} → GoesOn o w (l ++ (e ++ n)) → EndedLine o false w l e n u
      → row o (w ++ (l ++ (e ++ n))) ≡ more (line_feed ∷ u) n
  row-continued goes ln = rw (row-blank goes, (line-reads o false).finds ln.line, after_end-finds ln.end)

  pub row-comment : {s r : List ℕ} → CommentLine o s r → row o (s ++ r) ≡ after_line (found [] r)
  row-comment {r = r} (CommentLine.comment {w} on b lead (Note.note {m} {s = k} mark all closes)) =
      ap (row o) (append_assoc w (m ∷ k) r) ∙ row-indented b lead
      ∙ rw (on, mark, past_mark m (k ++ r) mark, note_read {m = m} (Note.note mark all closes)) refl

  row-commented : {s e n : List ℕ} → CommentLine o s (e ++ n) → LineEnd e n
      → row o (s ++ (e ++ n)) ≡ more [] n
  row-commented line end = row-comment line ∙ rw (after_end-finds end) refl

  row-done : (r : List ℕ) → BeginsWithNo is_blank r → BeginsWithNo is_line_end r
      → row o r ≡ ends (found [] r)
  row-done [] n m = refl
  row-done (c ∷ r) n m =
      let other = or_parts (c == line_feed) (c == carriage_return) m in rw (other.0, other.1, n)

  pub MoreLines-finds : (s r v : List ℕ) → MoreLines o s r v → more_lines o (s ++ r) ≡ found v r
  MoreLines-finds _ r _ (MoreLines.done n m) = last _ (row-done r n m)
  MoreLines-finds _ r _ (MoreLines.empty_lf {t} {v = v} m) = then _ refl (MoreLines-finds t r v m)
  MoreLines-finds _ r _ (MoreLines.empty_cr_lf {t} {v = v} m) = then _ refl (MoreLines-finds t r v m)
  MoreLines-finds _ r _ (MoreLines.continued {t = t} {v = v} goes ln end m) =
      simp append_assoc (then _ (row-continued goes (record { lead = goes.lead; line = ln; end = end }))
      (MoreLines-finds t r v m))
  MoreLines-finds _ r _ (MoreLines.comment {t = t} {v = v} line end m) =
      simp append_assoc (then _ (row-commented line end) (MoreLines-finds t r v m))
  MoreLines-finds _ _ _ (MoreLines.last_comment line) = last _ (row-comment line)
  MoreLines-finds _ _ _ (MoreLines.last {w} {l} {u} goes ln) =
      let reads : line o false l ≡ found u [] = rw (append-nil l) at ((line-reads o false).finds ln) in
      let step : row o (w ++ l) ≡ ends (found (line_feed ∷ u) []) = rw (row-blank goes, reads) in
      rw (append-nil (w ++ l)) (last _ step)

  MoreLinesStop-finds : (s r : List ℕ) (k : ParseKind) → MoreLinesStop o s r k
      → more_lines o (s ++ r) ≡ stopped r k
  MoreLinesStop-finds _ r k (MoreLinesStop.empty_lf {t} m) =
      then {w = line_feed ∷ []} _ refl (MoreLinesStop-finds t r k m)
  MoreLinesStop-finds _ r k (MoreLinesStop.empty_cr_lf {t} m) =
      then {w = line_feed ∷ []} _ refl (MoreLinesStop-finds t r k m)
  MoreLinesStop-finds _ r k (MoreLinesStop.continued {t = t} goes ln end m) =
      simp append_assoc (then _ (row-continued goes (record { lead = goes.lead; line = ln; end = end }))
      (MoreLinesStop-finds t r k m))
  MoreLinesStop-finds _ r k (MoreLinesStop.comment {t = t} line end m) =
      simp append_assoc (then {w = []} _ (row-commented line end) (MoreLinesStop-finds t r k m))
  MoreLinesStop-finds _ r k (MoreLinesStop.in_line {w} {s} goes stops) =
      let step : row o (w ++ (s ++ r)) ≡ ends (stopped r k) =
      rw (row-blank goes, (line-reads o false).stops stops) in rw (append_assoc w s r) (last _ step)
  MoreLinesStop-finds _ r _ (MoreLinesStop.cr_alone {c} n) = last _ (rw n)
  MoreLinesStop-finds _ _ _ MoreLinesStop.cr_at_end = last _ refl

  more_lines-reads : IsReader (MoreLines o) (MoreLinesStop o) (more_lines o)
  unfolding more_lines
  more_lines-reads = record {
    sound = reads (MoreLines o) (MoreLinesStop o) (row o) row-sound;
    finds = λ {s} {r} {v} m. MoreLines-finds s r v m;
    stops = λ {s} {r} {k} m. MoreLinesStop-finds s r k m;
  }

  abbrev pub joined : List ℕ → Answer ℕ → Answer ℕ
  joined u a = altered_answer without_outer_line_feeds (prepend u a)

  abbrev ValueSays : List ℕ → Answer ℕ → Type 0
  ValueSays t a = Says (Value o) (ValueStops o) t a

  joined-sound : {w l e n u : List ℕ} → o.enabled_indented_mutiline_value ≡ true
      → EndedLine o true w l e n u → (a : Answer ℕ) → LinesSay n a
      → ValueSays (w ++ (l ++ (e ++ n))) (joined u a)
  joined-sound {w} {l} {e} {u = u} on ln (found v r) (s, m, h) =
      let x = subst (λ y. EndedLine o true w l e y u) (sym h) ln in
      (w ++ (l ++ (e ++ s)), Value.lines on x.lead x.line x.end m, simp (append_assoc, h))
  joined-sound {w} {l} {e} {u = u} on ln (stopped r k) (s, m, h) =
      let x = subst (λ y. EndedLine o true w l e y u) (sym h) ln in
      (w ++ (l ++ (e ++ s)), ValueStops.later_line on x.lead x.line x.end m, simp (append_assoc, h))

  first_line-stops : {w x r : List ℕ} {k : ParseKind} → Lead w x → LineSays o true x (stopped r k)
      → ValueSays (w ++ x) (stopped r k)
  first_line-stops {w} {r = r} lead (l, stops, h) = (
    w ++ l,
    ValueStops.first_line (subst (Lead w) (sym h) lead) stops,
    append_assoc w l r
        ∙ ap (λ y. w ++ y) h,
  )

  one_line-sound : {w x : List ℕ} → o.enabled_indented_mutiline_value ≡ false → Lead w x → (a : Answer ℕ)
      → LineSays o true x a → ValueSays (w ++ x) a
  one_line-sound {w} off lead (found v r) (l, ln, h) =
      (w ++ l, Value.one_line off (subst (Lead w) (sym h) lead) ln, append_assoc w l r ∙ ap (λ y. w ++ y) h)
  one_line-sound off lead (stopped r k) said = first_line-stops lead said

  multiline_value-sound : {w x : List ℕ} → o.enabled_indented_mutiline_value ≡ true → Lead w x
      → (a : Answer ℕ)
      → LineSays o true x a
      → ValueSays (w ++ x) (multiline_value o a)
  multiline_value-sound {w} on lead (found u []) (l, ln, h) = (
    w ++ l,
    Value.to_end on (subst (Lead w) (sym h ∙ append-nil l) lead) ln,
    append_assoc w l [] ∙ ap (λ y. w ++ y) h,
  )
  multiline_value-sound on lead (found u (c ∷ r)) said =
      let (n, is, l, e, ln, whole) = ended c r lead said in
      rw (is, ← whole) (joined-sound on ln (more_lines o n) (more_lines-reads.sound n))
  multiline_value-sound on lead (stopped r k) said = first_line-stops lead said

  value-lines : {w l e n u : List ℕ} → o.enabled_indented_mutiline_value ≡ true → EndedLine o true w l e n u
      → value o (w ++ (l ++ (e ++ n))) ≡ joined u (more_lines o n)
  unfolding value
  value-lines {u = u} on ln =
      rw (after_lead ln.lead, (line-reads o true).finds ln.line, on, after_end-finds ln.end)

  pub value-reads : IsReader (Value o) (ValueStops o) (value o)
  unfolding value
  value-reads = record { sound = sound; finds = finds; stops = stops }
    where
      sound : (t : List ℕ) → ValueSays t (value o t)
      sound t =
          let split = run-sound is_inline_white t in
          let rest = skipped is_inline_white t in
          let lead : Lead (run_of is_inline_white t) rest =
          record { white = split.all; ends = split.ends } in
          let said = (line-reads o true).sound rest in
          let multi = λ (on : o.enabled_indented_mutiline_value ≡ true).
          multiline_value-sound on lead (line o true rest) said in
          let one = λ (off : o.enabled_indented_mutiline_value ≡ false).
          one_line-sound off lead (line o true rest) said in
          subst (λ y. ValueSays y (value o t)) split.whole
          (cond_both o.enabled_indented_mutiline_value _ _
          (ValueSays (run_of is_inline_white t ++ rest)) multi one)

      finds : {s r v : List ℕ} → Value o s r v → value o (s ++ r) ≡ found v r
      finds {r = r} (Value.one_line {w} {l} off lead ln) =
          rw (append_assoc w l r, after_lead lead, (line-reads o true).finds ln, off)
      finds (Value.to_end {w} {l} {v} on lead ln) =
          let reads : line o true l ≡ found v [] = rw (append-nil l) at ((line-reads o true).finds ln) in
          rw (append-nil (w ++ l), after_lead lead, reads, on)
      finds (Value.lines {u = u} on lead ln end m) =
          simp append_assoc (value-lines on (record { lead = lead; line = ln; end = end })
          ∙ ap (joined u) (more_lines-reads.finds m))

      stops : {s r : List ℕ} {k : ParseKind} → ValueStops o s r k → value o (s ++ r) ≡ stopped r k
      stops {r = r} {k} (ValueStops.first_line {w} {s} lead x) =
          rw (append_assoc w s r, after_lead lead, (line-reads o true).stops x)
          (cond_both o.enabled_indented_mutiline_value _ _ (λ a. a ≡ stopped r k) (λ on. refl) (λ off. refl))
      stops (ValueStops.later_line {u = u} on lead ln end m) =
          simp append_assoc (value-lines on (record { lead = lead; line = ln; end = end })
          ∙ ap (joined u) (more_lines-reads.stops m))
