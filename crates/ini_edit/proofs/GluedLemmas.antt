-- Lines of a value with what closes them, before a line end or the text's end.
use Rattle.std.proofs.Common.{◌≡◌, ◌≢◌, ℕ, Bool, true, false, ◌&&◌, eqb, cond, not, List, [], ◌∷◌, ◌++◌}
use Rattle.std.proofs.Common.{length, refl, sym, ap, ◌∙◌, subst, append_assoc, append-nil, inl, inr}
use Rattle.std.specs.Prelude.{◌⊎◌}
use Rattle.std.proofs.lemmas.Bool.{cases_Bool, cond-true, cond-false, eqb-false, both_ways}
use Rattle.std.proofs.lemmas.Bool.{and_parts, and_from}
use Rattle.std.specs.List.{list_all}
use Rattle.ini_text.specs.Options.Backslashes.{Backslash, begins_escape, is_special, reads_escapes}
use Rattle.ini_text.specs.Options.ReadOptions.{backslash_of}
use Rattle.ini_text.specs.declared.option.ParseOption.{ParseOption}
use Rattle.ini_text.specs.Grammar.CharacterKinds.{backslash, begins, is_blank, letter_x, line_feed, space}
use Rattle.ini_text.specs.Grammar.CharacterKinds.{is_inline_white, is_line_feed, is_quote_mark}
use Rattle.ini_text.specs.Grammar.CharacterKinds.{is_comment_mark, is_line_end, BeginsWithNo}
use Rattle.ini_text.specs.Grammar.WhiteSpace.{Lead, drop_line_feeds, without_outer_line_feeds}
use Rattle.ini_text.specs.Grammar.EscapeSequences.{EscapeSequence}
use Rattle.ini_text.specs.Grammar.Strings.{Closes, Ends, Row, Str, is_before_note, is_endpoint, noted}
use Rattle.ini_text.specs.Grammar.Strings.{plain_ends}
use Rattle.ini_text.specs.Grammar.Lines.{BeginsPlain, Line, LineTail, LineText, Note, Quoted, plain_value}
use Rattle.ini_text.specs.Grammar.Values.{GoesOn, LineEnd, Value}
use Rattle.ini_text.proofs.GrammarLemmas.KindLemmas.{blank_inline}
use Rattle.ini_text.proofs.LawLemmas.OneAheadLemmas.{Alike, LineText-alike}
use Rattle.ini_text.proofs.ReaderLemmas.StringReaderLemmas.{note_parts}
use Rattle.ini_edit.specs.Endings.{Ending, Closing, ending_from}
use Rattle.ini_edit.proofs.CommentedLineLemmas.{both_within, closes_no_comment}
use Rattle.ini_edit.proofs.EndingLemmas.{ending-quoted, ending-row, ending-white}
use Rattle.ini_edit.proofs.EndingLemmas.{ending_from-append, off_reads, on_reads}
use Rattle.ini_edit.proofs.PadLemmas.{no_note_follows, value_with_space, white_no_note}
use Rattle.ini_edit.proofs.ValueLemmas.{closes_no_inline, closes_no_mark}

apart_more : (ends : Ends) (c : ℕ) (s t : List ℕ) → begins is_comment_mark t ≡ false
    → is_before_note ends c s ≡ false → is_before_note ends c (s ++ t) ≡ false
apart_more ends c [] t none apart = no_note_follows ends c t none
apart_more ends c (d ∷ s) t none apart = apart

blank_no_mark : (c : ℕ) → is_blank c ≡ true → is_comment_mark c ≡ false
blank_no_mark c h = white_no_note (c ∷ []) (and_from (is_inline_white c) true (blank_inline c h) refl)

-- a row after another one, unless it begins with a mark
pub row-append : {e : Backslash} {ends : Ends} {s v t w : List ℕ} → begins is_comment_mark t ≡ false
    → Row e ends s v → Row e ends t w → Row e ends (s ++ t) (v ++ w)
row-append none Row.none other = other
row-append {ends = ends} {t = t} none (Row.raw {c} {s} n inside apart rest) other =
    Row.raw n inside (apart_more ends c s t none apart) (row-append none rest other)
row-append {e} {ends} {t = t} {w = w} none
    (Row.escape {p = p} {w = q} {s = s} {v = v} special k rest) other =
    subst (λ y. Row e ends y ((q ++ v) ++ w)) (sym (append_assoc p s t))
    (subst (λ y. Row e ends (p ++ (s ++ t)) y) (sym (append_assoc q v w))
    (Row.escape special k (row-append none rest other)))

-- what stands before a note is a row
pub note_row : {e : Backslash} (ends : Ends) {s v : List ℕ} (c : ℕ) (r : List ℕ) → Row e ends s v
    → begins_escape e c ≡ false → is_endpoint ends c ≡ false → is_before_note ends c r ≡ true
    → Row e ends (s ++ c ∷ []) (v ++ c ∷ [])
note_row ends c r row n inside note =
    row-append (blank_no_mark c (note_parts ends c r note).1) row
    (Row.raw n inside (no_note_follows ends c [] refl) Row.none)

-- a string that something follows is a row
pub str_row : {e : Backslash} {ends : Ends} {s v r : List ℕ} → r ≢ [] → Str e ends s r v → Row e ends s v
str_row some (Str.closed row h) = row
str_row {ends = ends} {r = r} some (Str.before_note c row n inside note) =
    note_row ends c r row n inside note
str_row some (Str.lone special row h) = absurd (some refl)

module _ {o : ParseOption} where
  pub closing_inside : {c : List ℕ} → Closing o Ending.inside c → c ≡ []
  closing_inside Closing.within = refl

  pub closing_line : {c : List ℕ} → Closing o Ending.line c → c ≡ []
  closing_line Closing.after_line = refl

  closing_escape : {c : List ℕ} → Closing o Ending.escape c
      → ((o.enabled_escape ≡ true) × (c ≡ backslash ∷ [])) ⊎ ((o.enabled_escape ≡ false) × (c ≡ space ∷ []))
  closing_escape (Closing.by_backslash on) = inl (on, refl)
  closing_escape (Closing.by_space off) = inr (off, refl)

  -- after a line end, and after its CR
  pub closing_after : {c : List ℕ} (t : List ℕ) → Closing o (ending_from o Ending.inside t) c
      → Closing o (ending_from o Ending.line t) c
  closing_after [] k = subst (Closing o Ending.line) (sym (closing_inside k)) Closing.after_line
  closing_after (x ∷ t) k = k

  -- after a line end, however the line s before it ends
  pub closing_past : {c e y : List ℕ} (b : Ending) (s t : List ℕ) → LineEnd e y
      → Closing o (ending_from o b (s ++ (e ++ t))) c
      → Closing o (ending_from o Ending.inside (e ++ t)) c
  closing_past {c} {e} b s t end k =
      at (ending_from o b s) end
      (subst (λ z. Closing o z c) (ending_from-append o b s (e ++ t)) k)
    where
      at : {e y : List ℕ} (f : Ending) → LineEnd e y → Closing o (ending_from o f (e ++ t)) c
          → Closing o (ending_from o Ending.inside (e ++ t)) c
      at Ending.inside end k = k
      at Ending.line LineEnd.lf k = k
      at Ending.line LineEnd.cr_lf k = k
      at Ending.line (LineEnd.cr n) k = k
      at Ending.escape LineEnd.lf k = closing_after t k
      at Ending.escape LineEnd.cr_lf k = k
      at Ending.escape (LineEnd.cr n) k = k

  pub closing_end : {c e y : List ℕ} (s t : List ℕ) → LineEnd e y
      → Closing o (ending_from o Ending.line (s ++ (e ++ t))) c
      → Closing o (ending_from o Ending.inside (e ++ t)) c
  closing_end s t end k = closing_past Ending.line s t end k

  -- nothing goes before a line end after another one
  pub closing_alone : {c e y : List ℕ} (t : List ℕ) → LineEnd e y
      → Closing o (ending_from o Ending.inside (e ++ t)) c → t ≡ [] → c ≡ []
  closing_alone {c} {e} t end k none =
      at end (subst (λ t. Closing o (ending_from o Ending.inside (e ++ t)) c) none k)
    where
      at : {e y : List ℕ} → LineEnd e y → Closing o (ending_from o Ending.inside (e ++ [])) c → c ≡ []
      at LineEnd.lf k = closing_line k
      at LineEnd.cr_lf k = closing_line k
      at (LineEnd.cr n) k = closing_inside k

  -- what closes a text ends no line
  pub closing_within : {e : Ending} {c : List ℕ} → Closing o e c
      → list_all (λ c. not (is_line_end c)) c ≡ true
  closing_within Closing.within = refl
  closing_within Closing.after_line = refl
  closing_within (Closing.by_backslash on) = refl
  closing_within (Closing.by_space off) = refl

-- line feeds after a value's lines go
drop_feeds : (w : List ℕ) → list_all is_line_feed w ≡ true → drop_line_feeds w ≡ []
drop_feeds [] h = refl
drop_feeds (c ∷ w) h =
    let parts = and_parts (is_line_feed c) (list_all is_line_feed w) h in
    cond-true (is_line_feed c && eqb (length (drop_line_feeds w)) 0) _ _
    (and_from (is_line_feed c) _ parts.0 (ap (λ l. eqb (length l) 0) (drop_feeds w parts.1)))

drop_feeds-after : (cs w : List ℕ) → list_all is_line_feed w ≡ true
    → drop_line_feeds (cs ++ w) ≡ drop_line_feeds cs
drop_feeds-after [] w h = drop_feeds w h
drop_feeds-after (c ∷ cs) w h =
    ap (λ l. cond (is_line_feed c && eqb (length l) 0) [] (c ∷ l)) (drop_feeds-after cs w h)

pub feeds_after : (cs w : List ℕ) → list_all is_line_feed w ≡ true
    → without_outer_line_feeds (cs ++ w) ≡ without_outer_line_feeds cs
feeds_after [] [] h = refl
feeds_after [] (c ∷ w) h =
    let parts = and_parts (is_line_feed c) (list_all is_line_feed w) h in
    ap drop_line_feeds (cond-true (is_line_feed c) _ _ parts.0) ∙ feeds_after [] w parts.1
feeds_after (c ∷ cs) w h = elim (cases_Bool (is_line_feed c)) [
  | inl feed ↦
      ap drop_line_feeds (cond-true (is_line_feed c) _ _ feed) ∙ feeds_after cs w h
      ∙ ap drop_line_feeds (sym (cond-true (is_line_feed c) _ _ feed))
  | inr other ↦
      ap drop_line_feeds (cond-false (is_line_feed c) _ _ other) ∙ drop_feeds-after (c ∷ cs) w h
      ∙ ap drop_line_feeds (sym (cond-false (is_line_feed c) _ _ other))
]

-- a line that is closed, before another text that closes lines
no_mark_before : (p r y : List ℕ) → BeginsWithNo is_quote_mark (p ++ r) → Closes plain_ends y
    → BeginsWithNo is_quote_mark (p ++ y)
no_mark_before [] r y h closes = closes_no_mark y closes
no_mark_before (c ∷ p) r y h closes = h

no_mark_after : (s y z : List ℕ) → BeginsWithNo is_quote_mark ((s ++ backslash ∷ []) ++ [])
    → BeginsWithNo is_quote_mark ((s ++ backslash ∷ y) ++ z)
no_mark_after [] y z h = refl
no_mark_after (c ∷ s) y z h = h

module _ {o : ParseOption} {c : List ℕ} (y : List ℕ) (closes : Closes plain_ends y) where
  row_glued : {first some : Bool} {q w p v : List ℕ} (r : List ℕ) → Quoted o q w some
      → BeginsPlain o (p ++ r)
      → Row (backslash_of o) (noted o plain_ends) p v → Closing o (ending_from o Ending.inside (q ++ p)) c
      → LineText o first ((q ++ p) ++ c) y (w ++ plain_value first some v)
  row_glued {first} {some} {q} {w} {p} {v} r quoted plain row k =
      let is : ending_from o Ending.inside (q ++ p) ≡ Ending.inside =
      ending-quoted p quoted ∙ ap (ending_from o Ending.inside) (sym (append-nil p))
      ∙ ending-row o [] refl row in
      let none : c ≡ [] = closing_inside (subst (λ e. Closing o e c) is k) in
      subst (λ z. LineText o first z y (w ++ plain_value first some v))
      (sym (append-nil (q ++ p)) ∙ ap (λ z. (q ++ p) ++ z) (sym none))
      (LineText.text quoted (λ on. no_mark_before p r y (plain on) closes) (Str.closed row closes))

  pub text_glued : {first : Bool} {l r v : List ℕ} → LineText o first l r v
      → Closing o (ending_from o Ending.inside l) c
      → LineText o first (l ++ c) y v
  text_glued (LineText.text {r = r} quoted plain (Str.closed row h)) k = row_glued r quoted plain row k
  text_glued (LineText.text {r = r} quoted plain (Str.before_note b row n inside note)) k =
      row_glued r quoted plain (note_row (noted o plain_ends) b r row n inside note) k
  text_glued {first} (LineText.text {q = q} {w = w} {quoted = some} quoted plain
      (Str.lone {s = s} {v = v} special row h)) k =
      let p = s ++ backslash ∷ [] in
      let is : ending_from o Ending.inside (q ++ p) ≡ Ending.escape =
      ending-quoted p quoted ∙ ending-row o (backslash ∷ []) refl row
      ∙ cond-true (is_special (backslash_of o)) Ending.escape _ special in
      let source : (x : ℕ) → q ++ (s ++ backslash ∷ (x ∷ [])) ≡ (q ++ p) ++ x ∷ [] = λ x.
      ap (λ z. q ++ z) (sym (append_assoc s (backslash ∷ []) (x ∷ []))) ∙ sym (append_assoc q p (x ∷ [])) in
      let given = w ++ plain_value first some (v ++ backslash ∷ []) in
      elim (closing_escape (subst (λ e. Closing o e c) is k)) [
        | inl (on, same) ↦
            let slash : EscapeSequence (reads_escapes (backslash_of o)) (backslash ∷ (backslash ∷ []))
            (backslash ∷ []) =
            EscapeSequence.itself (on_reads o on) (eqb-false backslash line_feed refl)
            (eqb-false backslash letter_x refl) refl in
            subst (λ z. LineText o first ((q ++ p) ++ z) y given) (sym same)
            (subst (λ z. LineText o first z y given) (source backslash)
            (LineText.text quoted (λ q. no_mark_after s (backslash ∷ []) y (plain q))
            (Str.closed (row-append refl row (Row.escape special slash Row.none)) closes)))
        | inr (off, same) ↦
            let kept : EscapeSequence (reads_escapes (backslash_of o)) (backslash ∷ (space ∷ []))
            (backslash ∷ (space ∷ [])) =
            EscapeSequence.kept (off_reads o off) (eqb-false space line_feed refl) in
            subst (λ z. LineText o first ((q ++ p) ++ z) y given) (sym same)
            (subst (λ z. LineText o first z y given) (source space)
            (subst (λ z. LineText o first (q ++ (s ++ backslash ∷ (space ∷ []))) y (w ++ z))
            (value_with_space first some v)
            (LineText.text quoted (λ q. no_mark_after s (space ∷ []) y (plain q))
            (Str.closed (row-append refl row (Row.escape special kept Row.none)) closes))))
      ]

  -- what closes a line may go into its note
  pub line_glued : {first : Bool} {l r v : List ℕ} → Line o first l r v
      → Closing o (ending_from o Ending.inside l) c
      → Line o first (l ++ c) y v
  line_glued {first} {v = v} (Line.line {t} front (LineTail.none h)) k =
      subst (λ z. Line o first z y v)
      (append-nil (t ++ c) ∙ ap (λ z. z ++ c) (sym (append-nil t)))
      (Line.line (text_glued front
      (subst (λ z. Closing o (ending_from o Ending.inside z) c) (append-nil t) k))
      (LineTail.none closes))
  line_glued {first} {v = v}
      (Line.line {t} {r = r} front (LineTail.note (Note.note {m} {s} mark within h))) k =
      subst (λ z. Line o first z y v) (sym (append_assoc t (m ∷ s) c))
      (Line.line (LineText-alike Alike.same front)
      (LineTail.note (Note.note mark (both_within s c within (closing_within k)) closes)))

  pub lead_glued : {w : List ℕ} (l r : List ℕ) → Lead w (l ++ r)
      → Closing o (ending_from o Ending.inside l) c
      → Lead w ((l ++ c) ++ y)
  lead_glued [] r lead k = record {
    white = lead.white;
    ends = subst (λ z. BeginsWithNo is_inline_white (z ++ y)) (sym (closing_inside k))
        (closes_no_inline y closes);
  }
  lead_glued (x ∷ l) r lead k = record { white = lead.white; ends = lead.ends }

  pub goes_on_glued : {w : List ℕ} (l r : List ℕ) → GoesOn o w (l ++ r)
      → Closing o (ending_from o Ending.inside l) c → GoesOn o w ((l ++ c) ++ y)
  goes_on_glued l r goes k =
      record {
        begins = goes.begins;
        lead = lead_glued l r goes.lead k;
        text = λ on. text l (goes.text on) k;
      }
    where
      text : (l : List ℕ) → BeginsWithNo is_comment_mark (l ++ r)
          → Closing o (ending_from o Ending.inside l) c → BeginsWithNo is_comment_mark ((l ++ c) ++ y)
      text [] n k = subst (λ z. BeginsWithNo is_comment_mark (z ++ y)) (sym (closing_inside k))
          (closes_no_comment y closes)
      text (x ∷ l) n k = n

-- a value in one line
pub line_value_glued : {o : ParseOption} {s r v c : List ℕ} (y : List ℕ) → Closes plain_ends y
    → o.enabled_indented_mutiline_value ≡ false → Value o s r v → Closing o (ending_from o Ending.inside s) c
    → Value o (s ++ c) y v
line_value_glued {o} {c = c} y h off (Value.one_line {w} {l} {r} {v} _ lead ln) k =
    let following : Closing o (ending_from o Ending.inside l) c =
    subst (λ z. Closing o z c) (ending-white o w l lead.white) k in
    subst (λ z. Value o z y v) (sym (append_assoc w l c))
    (Value.one_line off (lead_glued y h l r lead following) (line_glued y h ln following))
line_value_glued {o} y h off (Value.to_end on lead ln) k =
    absurd (both_ways o.enabled_indented_mutiline_value off on)
line_value_glued {o} y h off (Value.lines on lead ln le m) k =
    absurd (both_ways o.enabled_indented_mutiline_value off on)
