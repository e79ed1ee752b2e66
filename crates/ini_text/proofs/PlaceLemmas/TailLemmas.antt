-- A value's own lines and what stands after them, line by line.
use Rattle.std.proofs.Common.{◌≡◌, ◌≢◌, ◌<◌, ℕ, Bool, true, false, ◌==◌, List, [], ◌∷◌, ◌++◌, length, Some}
use Rattle.std.proofs.Common.{None, inl, inr, refl, sym, ap, ◌∙◌, subst, subst₂, append_assoc, append-nil}
use Rattle.std.proofs.Common.{chars, eqb-true, ne_eqb}
use Rattle.std.proofs.lemmas.Bool.{cases_Bool}
use Rattle.std.proofs.lemmas.List.Folds.{list_all-append}
use Rattle.std.specs.List.{list_all}
use Rattle.ini_text.specs.declared.option.ParseOption.{ParseOption}
use Rattle.ini_text.specs.declared.error.ParseKind.{ParseKind}
use Rattle.ini_text.specs.declared.parser.rests.Rests.{Rests}
use Rattle.ini_text.specs.Grammar.CharacterKinds.{line_feed, carriage_return, is_blank, is_comment_mark}
use Rattle.ini_text.specs.Grammar.CharacterKinds.{is_line_end, is_line_feed, is_inline_white, BeginsWith}
use Rattle.ini_text.specs.Grammar.CharacterKinds.{BeginsWithNo}
use Rattle.ini_text.specs.Grammar.WhiteSpace.{without_outer_line_feeds}
use Rattle.ini_text.specs.Grammar.Lines.{Line, LineText, LineTail, LineStops}
use Rattle.ini_text.specs.Grammar.Values.{CommentLine, GoesOn, LineEnd, MoreLines}
use Rattle.ini_text.specs.Grammar.Places.{LastLine, OwnLines, TrailingLines}
use Rattle.ini_text.specs.Inside.LineReader.{line, line_text, past_note, without_note}
use Rattle.ini_text.specs.Inside.PlaceReader.{HasTail, TailSoFar}
use Rattle.ini_text.specs.Inside.Reading.{found, stopped, prepend, altered_answer}
use Rattle.ini_text.specs.Inside.Scans.{run_of, skipped}
use Rattle.ini_text.specs.Inside.ValueReader.{after_end, comment_end, empty_cr, more_lines, value}
use Rattle.ini_text.proofs.GrammarLemmas.KindLemmas.{blank_inline}
use Rattle.ini_text.proofs.ReaderLemmas.ReaderLemmas.{Says, prepend-nil, prepend-prepend}
use Rattle.ini_text.proofs.ReaderLemmas.LineReaderLemmas.{line_text-reads, tail_at, text_ends}
use Rattle.ini_text.proofs.ReaderLemmas.NoteLemmas.{LineTail-closes}
use Rattle.ini_text.proofs.ReaderLemmas.RunReaderLemmas.{run-sound}
use Rattle.ini_text.proofs.ReaderLemmas.LineTurnLemmas.{comment_at, comment_goes_on, no_comment_text}
use Rattle.ini_text.proofs.ReaderLemmas.LineTurnLemmas.{empty_line, empty_cr_line, line_goes_on, line_ends}
use Rattle.ini_text.proofs.ReaderLemmas.LineTurnLemmas.{line_stops, value_line, value_ends, value_goes_on}
use Rattle.ini_text.proofs.ReaderLemmas.ValueReaderLemmas.{CommentLine-closes, EndSays, after_end-sound}
use Rattle.ini_text.proofs.ReaderLemmas.ValueReaderLemmas.{no_end, MoreLines-finds}

pub feeds_all : (u : List ℕ) → skipped is_line_feed u ≡ [] → list_all is_line_feed u ≡ true
feeds_all [] h = refl
feeds_all (c ∷ cs) h = elim (cases_Bool (is_line_feed c)) [
  | inl q ↦ rw q (feeds_all cs (rw q at h))
  | inr n ↦ let z : c ∷ cs ≡ [] = rw n at h in cc
]

pub feeds_some : {d : ℕ} {ds : List ℕ} (u : List ℕ) → skipped is_line_feed u ≡ d ∷ ds
    → list_all is_line_feed u ≡ false
feeds_some [] h = cc
feeds_some (c ∷ cs) h = elim (cases_Bool (is_line_feed c)) [
  | inl q ↦ rw q (feeds_some cs (rw q at h))
  | inr n ↦ rw n refl
]

all_after : (u v : List ℕ) → list_all is_line_feed u ≡ true → list_all is_line_feed v ≡ true
    → list_all is_line_feed (u ++ v) ≡ true
all_after u v a b = rw (list_all-append is_line_feed u v, a, b) refl

pub found_rest : {A : Type 0} {v w : List A} {x y : List ℕ} → found v x ≡ found w y → x ≡ y
found_rest h = cc

pub found_stopped : {A : Type 0} {v : List A} {x y : List ℕ} {k : ParseKind} → stopped x k ≡ found v y → ⊥
found_stopped h = cc

-- after the CR of an empty line stands LF
after_cr-is : (cs r : List ℕ) → empty_cr cs ≡ found [] r → cs ≡ line_feed ∷ r
after_cr-is [] r h = absurd (found_stopped h)
after_cr-is (c ∷ cs) r h = elim (cases_Bool (c == line_feed)) [
  | inl q ↦ let feed : c ≡ line_feed = eqb-true c 10 q in
      ap (λ x. x ∷ cs) feed ∙ ap (λ x. line_feed ∷ x) (found_rest (rw q at h))
  | inr n ↦ absurd (found_stopped (rw n at h))
]

-- what is left of a line behind its text: nothing, or a note; and then `end`
record TailAt (tail end : List ℕ) : Type 0 where
  pub note : List ℕ
  pub is_note : LineTail note end
  pub whole : note ++ end ≡ tail

-- the text of a line at the front of a text, before `tail`, and what is left of the line, before `end`
record LineAt (o : ParseOption) (t tail end u : List ℕ) : Type 0 where
  pub w : List ℕ
  pub l : List ℕ
  pub goes : GoesOn o w (l ++ tail)
  pub ln : LineText o false l tail u
  pub at : TailAt tail end
  pub whole : (w ++ l) ++ tail ≡ t

-- the same where these are the rests that were kept
pub at_rests : {o : ParseOption} {text s t gives rest : List ℕ} (rests : Rests) → rests.start.now ≡ s
    → rests.tail.now ≡ t → HasTail o text (chars s) (chars t) gives rest
    → HasTail o text (chars rests.start.now) (chars rests.tail.now) gives rest
at_rests rests p q h = rw (p, q) h

module _ (o : ParseOption) where
  -- a line is read where its text is
  line_read : (first : Bool) (start : List ℕ) {tail end u : List ℕ} → end ≡ past_note o tail
      → line_text o first start ≡ found u tail → line o first start ≡ found u end
  line_read first start {u = u} cut h = ap (without_note o) h ∙ ap (found u) (sym cut)

  pub line_stopped : (first : Bool) (start : List ℕ) {r : List ℕ} {k : ParseKind}
      → line_text o first start ≡ stopped r k → line o first start ≡ stopped r k
  line_stopped first start h = ap (without_note o) h

  left_at : {first : Bool} {l tail end u : List ℕ} → end ≡ past_note o tail → LineText o first l tail u
      → TailAt tail end
  left_at {tail = tail} cut ln =
      let (n, is_note, whole) = tail_at o tail (text_ends ln) in
      subst (TailAt tail) (sym cut) (record { note = n; is_note = is_note; whole = whole })

  whole_line : {first : Bool} {l tail end u : List ℕ} → LineText o first l tail u → (at : TailAt tail end)
      → Line o first (l ++ at.note) end u
  whole_line {first} {l} {u = u} ln at =
      Line.line (subst (λ y. LineText o first l y u) (sym at.whole) ln) at.is_note

  line_at : {t cs start tail end u : List ℕ} {c : ℕ} → t ≡ c ∷ cs → is_blank c ≡ true
      → comment_end o c cs ≡ None → start ≡ skipped is_inline_white t → end ≡ past_note o tail
      → line_text o false start ≡ found u tail → LineAt o t tail end u
  line_at {t} {cs} {start} {tail} {end} {u} {c} is b none skips cut read =
      let (l, ln, h) =
      subst (Says (LineText o false) (LineStops o) start) read ((line_text-reads o false).sound start) in
      let split = run-sound is_inline_white t in
      record {
        w = run_of is_inline_white t;
        l = l;
        goes = record {
          begins =
              subst (λ y. BeginsWith is_blank (run_of is_inline_white y)) (sym is) (rw (blank_inline c b) b);
          lead = record {
            white = split.all;
            ends = subst (BeginsWithNo is_inline_white) (sym (h ∙ skips)) split.ends;
          };
          text = subst (λ y. o.enabled_indented_comment ≡ true → BeginsWithNo is_comment_mark y)
              (sym (h ∙ skips ∙ ap (skipped is_inline_white) is)) (no_comment_text o c cs b none);
        };
        ln = ln;
        at = left_at cut ln;
        whole =
            append_assoc (run_of is_inline_white t) l tail
            ∙ ap (λ y. run_of is_inline_white t ++ y) (h ∙ skips) ∙ split.whole;
      }

  -- a row p, of the value u, after which `next` stands
  record Row (p next u : List ℕ) : Type 0 where
    pub last : (s r : List ℕ) → s ++ r ≡ next → LastLine o s r → LastLine o (p ++ s) r
    pub more : (s r v : List ℕ) → s ++ r ≡ next → MoreLines o s r v → MoreLines o (p ++ s) r (u ++ v)

  lf_row : (next : List ℕ) → Row (line_feed ∷ []) next (line_feed ∷ [])
  lf_row next = record { last = λ s r e x. LastLine.empty_lf x; more = λ s r v e m. MoreLines.empty_lf m }

  cr_lf_row : (next : List ℕ) → Row (carriage_return ∷ line_feed ∷ []) next (line_feed ∷ [])
  cr_lf_row next =
      record { last = λ s r e x. LastLine.empty_cr_lf x; more = λ s r v e m. MoreLines.empty_cr_lf m }

  module _ {t tail end u : List ℕ} (here : LineAt o t tail end u) where
    abbrev row_line : List ℕ
    row_line = here.l ++ here.at.note

    row_ln : Line o false row_line end u
    row_ln = whole_line here.ln here.at

    line_whole : row_line ++ end ≡ here.l ++ tail
    line_whole = append_assoc here.l here.at.note end ∙ ap (λ x. here.l ++ x) here.at.whole

    row_goes : GoesOn o here.w (row_line ++ end)
    row_goes = subst (GoesOn o here.w) (sym line_whole) here.goes

    text_whole : here.w ++ (row_line ++ end) ≡ t
    text_whole = ap (λ x. here.w ++ x) line_whole ∙ sym (append_assoc here.w here.l tail) ∙ here.whole

    module _ {next : List ℕ} (e : List ℕ) (le : LineEnd e next) (is : e ++ next ≡ end) where
      abbrev row_source : List ℕ
      row_source = here.w ++ (row_line ++ e)

      seam : (s : List ℕ) → row_source ++ s ≡ here.w ++ (row_line ++ (e ++ s))
      seam s = append_assoc here.w (row_line ++ e) s ∙ ap (λ x. here.w ++ x) (append_assoc row_line e s)

      onward : (s r : List ℕ) → s ++ r ≡ next → end ≡ e ++ (s ++ r)
      onward s r q = sym is ∙ ap (λ x. e ++ x) (sym q)

      line_row : Row row_source next (line_feed ∷ u)
      line_row = record {
        last = λ s r q x. subst (λ y. LastLine o y r) (sym (seam s))
            (LastLine.continued (subst (λ y. GoesOn o here.w (row_line ++ y)) (onward s r q) row_goes)
            (subst (λ y. Line o false row_line y u) (onward s r q) row_ln) (subst (LineEnd e) (sym q) le) x);
        more = λ s r v q m. subst (λ y. MoreLines o y r (line_feed ∷ (u ++ v))) (sym (seam s))
            (MoreLines.continued (subst (λ y. GoesOn o here.w (row_line ++ y)) (onward s r q) row_goes)
            (subst (λ y. Line o false row_line y u) (onward s r q) row_ln) (subst (LineEnd e) (sym q) le) m);
      }

      row_whole : t ≡ row_source ++ next
      row_whole = sym text_whole ∙ ap (λ x. here.w ++ (row_line ++ x)) (sym is) ∙ sym (seam next)

first_said : (o : ParseOption) {start tail u : List ℕ} → line_text o true start ≡ found u tail
    → (l : List ℕ) × LineText o true l tail u × (l ++ tail ≡ start)
first_said o {start} h =
    subst (Says (LineText o true) (LineStops o) start) h ((line_text-reads o true).sound start)

module _ (o : ParseOption) {text start : List ℕ} (skips : start ≡ skipped is_inline_white text) where
  -- after a first line's text stands `tail`, and after its note `end`
  module _ {tail end u : List ℕ} (read : line_text o true start ≡ found u tail)
      (cut : end ≡ past_note o tail) where
    pub one_line : o.enabled_indented_mutiline_value ≡ false → HasTail o text start tail u end
    one_line off =
        let (l, ln, whole) = first_said o read in
        let at = left_at o cut ln in
        record {
          own = l;
          note = at.note;
          following = [];
          skips = skips;
          own_is = sym whole;
          tail_is = sym at.whole;
          past_note = sym cut;
          reads = value_line o text skips off ∙ line_read o _ _ cut read;
          own_lines = OwnLines.first ln;
          is_note = at.is_note;
          is_tail = TrailingLines.line off (LineTail-closes at.is_note);
        }

    pub line_to_end : o.enabled_indented_mutiline_value ≡ true → after_end end ≡ None
        → HasTail o text start tail (without_outer_line_feeds u) end
    line_to_end on none =
        let (l, ln, whole) = first_said o read in
        let at = left_at o cut ln in
        record {
          own = l;
          note = at.note;
          following = [];
          skips = skips;
          own_is = sym whole;
          tail_is = sym at.whole;
          past_note = sym cut;
          reads = value_ends o text skips on (line_read o _ _ cut read) none refl;
          own_lines = OwnLines.first ln;
          is_note = at.is_note;
          is_tail = subst (TrailingLines o []) (sym (no_end end (LineTail-closes at.is_note) none))
              (TrailingLines.end on);
        }

    pub tail_begins : {next : List ℕ} → o.enabled_indented_mutiline_value ≡ true
        → after_end end ≡ Some next → TailSoFar o text start tail next u
    tail_begins {next} on some =
        let (l, ln, whole) = first_said o read in
        let at = left_at o cut ln in
        let (e, le, is) = subst (EndSays end) some (after_end-sound end) in
        let all = l ++ at.note in
        let line_whole : all ++ end ≡ start =
        append_assoc l at.note end ∙ ap (λ x. l ++ x) at.whole ∙ whole in
        record {
          before = all ++ e;
          own = l;
          note = at.note;
          end = e;
          lines = [];
          start_is = sym line_whole ∙ ap (λ x. all ++ x) (sym is) ∙ sym (append_assoc all e next);
          own_is = sym whole;
          tail_is = sym at.whole ∙ ap (λ x. at.note ++ x) (sym is);
          past_note = sym cut ∙ sym is;
          is_note = subst (LineTail at.note) (sym is) at.is_note;
          own_lines = OwnLines.first ln;
          ends = le;
          reads = value_goes_on o text skips on (line_read o _ _ cut read) some;
          closes = λ s r v q m feeds. (v, m, feeds);
          grows = λ s r q last.
              subst (λ x. OwnLines o x r) (sym (append_assoc all e s))
              (OwnLines.more (subst (λ y. Line o true all y u) (sym is ∙ ap (λ x. e ++ x) (sym q))
              (whole_line o ln at)) (subst (LineEnd e) (sym q) le) last);
        }

  -- a row that gives nothing stays after the value's own lines
  tail_row : {tail rest next given : List ℕ} (p u : List ℕ) → TailSoFar o text start tail rest given
      → rest ≡ p ++ next
      → more_lines o rest ≡ prepend u (more_lines o next)
      → Row o p next u → list_all is_line_feed u ≡ true → TailSoFar o text start tail next (given ++ u)
  tail_row {tail} {rest} {next} {given} p u st is turn row all =
      let lines_are : st.lines ++ rest ≡ (st.lines ++ p) ++ next =
      ap (λ x. st.lines ++ x) is ∙ sym (append_assoc st.lines p next) in
      record {
        before = st.before ++ p;
        own = st.own;
        note = st.note;
        end = st.end;
        lines = st.lines ++ p;
        start_is = st.start_is ∙ ap (λ x. st.before ++ x) is ∙ sym (append_assoc st.before p next);
        own_is = st.own_is;
        tail_is = st.tail_is ∙ ap (λ x. st.note ++ (st.end ++ x)) lines_are;
        past_note = st.past_note ∙ ap (λ x. st.end ++ x) lines_are;
        is_note = subst (λ x. LineTail st.note (st.end ++ x)) lines_are st.is_note;
        own_lines = st.own_lines;
        ends = subst (LineEnd st.end) lines_are st.ends;
        reads = st.reads ∙ ap (λ a. altered_answer without_outer_line_feeds (prepend given a)) turn
            ∙ ap (altered_answer without_outer_line_feeds) (prepend-prepend given u (more_lines o next));
        closes = λ s r v q m feeds.
            let x = st.closes (p ++ s) r (u ++ v) (append_assoc p s r ∙ ap (λ y. p ++ y) q ∙ sym is)
            (row.more s r v q m) (all_after u v all feeds) in
            (x.0, subst (λ y. MoreLines o y r x.0) (sym (append_assoc st.lines p s)) x.1, x.2);
        grows = λ s r q last.
            subst (λ y. OwnLines o y r) (sym (append_assoc st.before p s))
            (st.grows (p ++ s) r (append_assoc p s r ∙ ap (λ y. p ++ y) q ∙ sym is) (row.last s r q last));
      }

  pub tail_lf : {tail rest next given : List ℕ} {c : ℕ} → TailSoFar o text start tail rest given
      → rest ≡ c ∷ next → c ≡ line_feed → TailSoFar o text start tail next (given ++ line_feed ∷ [])
  tail_lf {next = next} {c} st is feed =
      tail_row (line_feed ∷ []) (line_feed ∷ []) st (is ∙ ap (λ x. x ∷ next) feed) (empty_line o is feed)
      (lf_row o next) refl

  pub tail_cr_lf : {tail rest cs next given : List ℕ} {c : ℕ} → TailSoFar o text start tail rest given
      → rest ≡ c ∷ cs → c ≡ carriage_return → empty_cr cs ≡ found [] next
      → TailSoFar o text start tail next (given ++ line_feed ∷ [])
  tail_cr_lf {cs = cs} {next} {c} st is cr h =
      tail_row (carriage_return ∷ line_feed ∷ []) (line_feed ∷ []) st
      (is ∙ ap (λ x. x ∷ cs) cr ∙ ap (λ x. carriage_return ∷ x) (after_cr-is cs next h))
      (empty_cr_line o is cr h) (cr_lf_row o next) refl

  -- reading stops after what is known
  pub tail_stops : {tail rest given r : List ℕ} {k : ParseKind} → TailSoFar o text start tail rest given
      → more_lines o rest ≡ stopped r k → value o text ≡ stopped r k
  tail_stops {given = given} st h =
      st.reads ∙ ap (λ a. altered_answer without_outer_line_feeds (prepend given a)) h

  -- the lines end before r
  tail_done : {tail rest given : List ℕ} → o.enabled_indented_mutiline_value ≡ true
      → TailSoFar o text start tail rest given → (s r v : List ℕ) → s ++ r ≡ rest → MoreLines o s r v
      → list_all is_line_feed v ≡ true
      → HasTail o text start tail (without_outer_line_feeds (given ++ v)) r
  tail_done {rest = rest} {given} on st s r v q m all =
      let x = st.closes s r v q m all in
      let lines_are : st.lines ++ rest ≡ (st.lines ++ s) ++ r =
      ap (λ y. st.lines ++ y) (sym q) ∙ sym (append_assoc st.lines s r) in
      let whole : st.end ++ (st.lines ++ rest) ≡ (st.end ++ (st.lines ++ s)) ++ r =
      ap (λ y. st.end ++ y) lines_are ∙ sym (append_assoc st.end (st.lines ++ s) r) in
      record {
        own = st.own;
        note = st.note;
        following = st.end ++ (st.lines ++ s);
        skips = skips;
        own_is = st.own_is;
        tail_is = st.tail_is ∙ ap (λ y. st.note ++ y) whole;
        past_note = st.past_note ∙ whole;
        reads = st.reads ∙ ap (λ a. altered_answer without_outer_line_feeds (prepend given a))
            (ap (more_lines o) (sym q) ∙ MoreLines-finds o s r v m);
        own_lines = st.own_lines;
        is_note = subst (LineTail st.note) whole st.is_note;
        is_tail = TrailingLines.lines on (subst (LineEnd st.end) lines_are st.ends) x.1 x.2;
      }

  pub tail_ends : {tail rest given : List ℕ} → o.enabled_indented_mutiline_value ≡ true
      → TailSoFar o text start tail rest given → BeginsWithNo is_blank rest → BeginsWithNo is_line_end rest
      → HasTail o text start tail (without_outer_line_feeds given) rest
  tail_ends {tail} {rest} {given} on st n m =
      subst (λ v. HasTail o text start tail (without_outer_line_feeds v) rest) (append-nil given)
      (tail_done on st [] rest [] refl (MoreLines.done n m) refl)

  pub tail_other : {tail rest cs given : List ℕ} {c : ℕ} → o.enabled_indented_mutiline_value ≡ true
      → TailSoFar o text start tail rest given → rest ≡ c ∷ cs → c ≢ line_feed → c ≢ carriage_return
      → is_blank c ≡ false → HasTail o text start tail (without_outer_line_feeds given) rest
  tail_other {c = c} on st is n m b =
      tail_ends on st (subst (BeginsWithNo is_blank) (sym is) b)
      (subst (BeginsWithNo is_line_end) (sym is) (rw (ne_eqb c 10 n, ne_eqb c 13 m) refl))

  pub tail_at_end : {tail rest given : List ℕ} → o.enabled_indented_mutiline_value ≡ true
      → TailSoFar o text start tail rest given → rest ≡ []
      → HasTail o text start tail (without_outer_line_feeds given) rest
  tail_at_end on st none =
      tail_ends on st (subst (BeginsWithNo is_blank) (sym none) tt)
      (subst (BeginsWithNo is_line_end) (sym none) tt)

  pub tail_line_stops : {tail rest cs following r given : List ℕ} {c : ℕ} {k : ParseKind}
      → TailSoFar o text start tail rest given → rest ≡ c ∷ cs → is_blank c ≡ true
      → comment_end o c cs ≡ None → following ≡ skipped is_inline_white rest
      → line_text o false following ≡ stopped r k
      → value o text ≡ stopped r k
  tail_line_stops {rest = rest} st is b none from h =
      tail_stops st (sym (prepend-nil (more_lines o rest))
      ∙ line_stops o [] (line_feed ∷ []) is b from none refl
      (ap (prepend (line_feed ∷ [])) (line_stopped o _ _ h)))

  -- an indented comment
  module _ {tail rest cs end given : List ℕ} {c : ℕ} (on : o.enabled_indented_mutiline_value ≡ true)
      (st : TailSoFar o text start tail rest given) (is : rest ≡ c ∷ cs)
      (comment : comment_end o c cs ≡ Some end) where
    at : (s : List ℕ) × CommentLine o s end × (s ++ end ≡ rest)
    at = let x = comment_at o c cs comment in (x.0, x.1, x.2 ∙ sym is)

    pub tail_comment-last : after_end end ≡ None
        → HasTail o text start tail (without_outer_line_feeds given) end
    tail_comment-last none =
        let (s, line, whole) = at in
        let ended : end ≡ [] = no_end end (CommentLine-closes o line) none in
        let done : HasTail o text start tail (without_outer_line_feeds (given ++ [])) [] =
        tail_done on st s [] [] (ap (λ x. s ++ x) (sym ended) ∙ whole)
        (MoreLines.last_comment (subst (CommentLine o s) ended line)) refl in
        subst₂ (λ v r. HasTail o text start tail (without_outer_line_feeds v) r) (append-nil given)
        (sym ended) done

    module _ {next : List ℕ} (some : after_end end ≡ Some next) where
      turned : (more_lines o rest ≡ prepend [] (more_lines o next)) × (length next < length rest)
      turned = comment_goes_on o is comment some

      pub tail_comment-shorter : length next < length rest
      tail_comment-shorter = turned.1

      pub tail_comment : TailSoFar o text start tail next given
      tail_comment =
          let (s, line, whole) = at in
          let (e, le, q) = subst (EndSays end) some (after_end-sound end) in
          let row : Row o (s ++ e) next [] = record {
            last = λ t r h x. subst (λ y. LastLine o y r) (sym (append_assoc s e t))
                (LastLine.comment (subst (CommentLine o s) (sym q ∙ ap (λ y. e ++ y) (sym h)) line)
                (subst (LineEnd e) (sym h) le) x);
            more = λ t r v h m. subst (λ y. MoreLines o y r v) (sym (append_assoc s e t))
                (MoreLines.comment (subst (CommentLine o s) (sym q ∙ ap (λ y. e ++ y) (sym h)) line)
                (subst (LineEnd e) (sym h) le) m);
          } in
          subst (TailSoFar o text start tail next) (append-nil given)
          (tail_row (s ++ e) [] st
          (sym whole ∙ ap (λ y. s ++ y) (sym q) ∙ sym (append_assoc s e next)) turned.0 row refl)

  -- a line that begins with a blank: after its text stands `left`, and after its note `end`
  module _ {tail rest cs following left end u given : List ℕ} {c : ℕ}
      (on : o.enabled_indented_mutiline_value ≡ true) (st : TailSoFar o text start tail rest given)
      (is : rest ≡ c ∷ cs) (b : is_blank c ≡ true) (no_comment : comment_end o c cs ≡ None)
      (from : following ≡ skipped is_inline_white rest) (read : line_text o false following ≡ found u left)
      (cut : end ≡ past_note o left) where
    here : LineAt o rest left end u
    here = line_at o is b no_comment from cut read

    own_line : list_all is_line_feed u ≡ false → OwnLines o (st.before ++ (here.w ++ here.l)) left
    own_line some =
        st.grows (here.w ++ here.l) left here.whole (LastLine.last here.goes here.ln some)

    own_whole : start ≡ (st.before ++ (here.w ++ here.l)) ++ left
    own_whole =
        st.start_is ∙ ap (λ x. st.before ++ x) (sym here.whole)
        ∙ sym (append_assoc st.before (here.w ++ here.l) left)

    feed_first : prepend (line_feed ∷ []) (line o false following) ≡ found (line_feed ∷ u) end
    feed_first = ap (prepend (line_feed ∷ [])) (line_read o _ _ cut read)

    module _ (none : after_end end ≡ None) where
      ended : end ≡ []
      ended = no_end end (LineTail-closes here.at.is_note) none

      -- it is the last, and gives nothing
      pub last_line-empty : list_all is_line_feed u ≡ true
          → HasTail o text start tail (without_outer_line_feeds (given ++ (line_feed ∷ u))) end
      last_line-empty all =
          let l = row_line o here in
          let goes : GoesOn o here.w l =
          subst (GoesOn o here.w) (ap (λ x. l ++ x) ended ∙ append-nil l) (row_goes o here) in
          let whole : (here.w ++ l) ++ [] ≡ rest =
          ap (λ x. (here.w ++ l) ++ x) (sym ended) ∙ append_assoc here.w l end ∙ text_whole o here in
          subst (HasTail o text start tail (without_outer_line_feeds (given ++ (line_feed ∷ u)))) (sym ended)
          (tail_done on st (here.w ++ l) [] (line_feed ∷ u) whole
          (MoreLines.last goes (subst (λ x. Line o false l x u) ended (row_ln o here))) all)

      pub last_line-own : list_all is_line_feed u ≡ false
          → HasTail o text start left (without_outer_line_feeds (given ++ (line_feed ∷ u))) end
      last_line-own some = record {
        own = st.before ++ (here.w ++ here.l);
        note = here.at.note;
        following = [];
        skips = skips;
        own_is = own_whole;
        tail_is = sym here.at.whole;
        past_note = sym cut;
        reads = st.reads ∙ ap (λ a. altered_answer without_outer_line_feeds (prepend given a))
            (sym (prepend-nil (more_lines o rest))
            ∙ line_ends o [] (line_feed ∷ []) is b from no_comment refl feed_first none);
        own_lines = own_line some;
        is_note = here.at.is_note;
        is_tail = subst (TrailingLines o []) (sym ended) (TrailingLines.end on);
      }

    module _ {next : List ℕ} (some : after_end end ≡ Some next) where
      goes : (prepend [] (more_lines o rest) ≡ prepend (line_feed ∷ u) (more_lines o next))
          × (length next < length rest)
      goes = line_goes_on o [] (line_feed ∷ []) is b from no_comment refl feed_first some

      turn : more_lines o rest ≡ prepend (line_feed ∷ u) (more_lines o next)
      turn = sym (prepend-nil (more_lines o rest)) ∙ goes.0

      pub line_shorter : length next < length rest
      line_shorter = goes.1

      end_said : (e : List ℕ) × LineEnd e next × (e ++ next ≡ end)
      end_said = subst (EndSays end) some (after_end-sound end)

      pub line-empty : list_all is_line_feed u ≡ true
          → TailSoFar o text start tail next (given ++ (line_feed ∷ u))
      line-empty all =
          let (e, le, q) = end_said in
          tail_row (row_source o here e le q) (line_feed ∷ u) st (row_whole o here e le q) turn
          (line_row o here e le q) all

      pub line-own : list_all is_line_feed u ≡ false
          → TailSoFar o text start left next (given ++ (line_feed ∷ u))
      line-own gives =
          let (e, le, q) = end_said in
          let p = row_source o here e le q in
          let row = line_row o here e le q in
          let moved = tail_row_moved p (row_whole o here e le q) in
          record {
            before = st.before ++ p;
            own = st.before ++ (here.w ++ here.l);
            note = here.at.note;
            end = e;
            lines = [];
            start_is = moved;
            own_is = own_whole;
            tail_is = sym here.at.whole ∙ ap (λ x. here.at.note ++ x) (sym q);
            past_note = sym cut ∙ sym q;
            is_note = subst (LineTail here.at.note) (sym q) here.at.is_note;
            own_lines = own_line gives;
            ends = le;
            reads = st.reads ∙ ap (λ a. altered_answer without_outer_line_feeds (prepend given a)) turn
                ∙ ap (altered_answer without_outer_line_feeds)
                (prepend-prepend given (line_feed ∷ u) (more_lines o next));
            closes = λ s r v h m all. (v, m, all);
            grows = λ s r h last.
                subst (λ y. OwnLines o y r) (sym (append_assoc st.before p s))
                (st.grows (p ++ s) r (append_assoc p s r ∙ ap (λ y. p ++ y) h
                ∙ sym (row_whole o here e le q)) (row.last s r h last));
          }
        where
          tail_row_moved : (p : List ℕ) → rest ≡ p ++ next → start ≡ (st.before ++ p) ++ next
          tail_row_moved p h = st.start_is ∙ ap (λ x. st.before ++ x) h ∙ sym (append_assoc st.before p next)
