-- A value's own lines before another text, and with white space after them.
use Rattle.std.proofs.Common.{◌≡◌, ◌≢◌, ◌∙◌, ◌≤◌, ℕ, Bool, true, false, eqb, [], ◌∷◌, ◌++◌, ap}
use Rattle.std.proofs.Common.{append-nil, append_assoc, arith, eqb-true, inl, inr, length, length-append}
use Rattle.std.proofs.Common.{refl, subst, subst₂, sym}
use Rattle.std.proofs.lemmas.Bool.{and_from, and_parts, both_ways, cases_Bool, cond-false, cond-true}
use Rattle.std.proofs.lemmas.Bool.{false≢true, or_cases}
use Rattle.std.specs.Char.{is_whitespace}
use Rattle.std.specs.List.{list_all}
use Rattle.std.specs.Str.{drop_trailing_whitespace}
use Rattle.ini_text.specs.Grammar.CharacterKinds.{BeginsWith, BeginsWithNo, backslash, begins, hash}
use Rattle.ini_text.specs.Grammar.CharacterKinds.{is_blank, is_comment_mark, is_inline_white, is_line_feed}
use Rattle.ini_text.specs.Grammar.CharacterKinds.{is_quote_mark, line_feed, semicolon}
use Rattle.ini_text.specs.Grammar.Lines.{BeginsPlain, LineTail, LineText, Quoted, plain_value}
use Rattle.ini_text.specs.Grammar.Places.{LastLine, OwnLines, TrailingLines}
use Rattle.ini_text.specs.Grammar.Positions.{last_or}
use Rattle.ini_text.specs.Grammar.Strings.{Closes, Ends, Str, noted, plain_ends}
use Rattle.ini_text.specs.Grammar.Values.{GoesOn}
use Rattle.ini_text.specs.Grammar.WhiteSpace.{Lead, trimmed}
use Rattle.ini_text.specs.Laws.PieceLaws.{BeginAlike}
use Rattle.ini_text.specs.Options.Backslashes.{Backslash}
use Rattle.ini_text.specs.Options.ReadOptions.{backslash_of}
use Rattle.ini_text.specs.declared.option.ParseOption.{ParseOption}
use Rattle.ini_text.proofs.GrammarLemmas.KindLemmas.{blank_inline}
use Rattle.ini_text.proofs.LawLemmas.OneAheadLemmas.{Alike, Alike-after, Alike-some, BeginsWithNo-alike}
use Rattle.ini_text.proofs.LawLemmas.OneAheadLemmas.{CommentLine-before, EndedLine-before, GoesOn-alike}
use Rattle.ini_text.proofs.LawLemmas.OneAheadLemmas.{GoesOn-before, Line-alike, LineEnd-alike}
use Rattle.ini_text.proofs.LawLemmas.OneAheadLemmas.{LineTail-alike, LineText-alike}
use Rattle.ini_text.proofs.ReaderLemmas.RunReaderLemmas.{BeginsWith-some}
use Rattle.ini_text.proofs.ReaderLemmas.StringReaderLemmas.{empty_row}
use Rattle.ini_text.proofs.ReaderLemmas.ValueReaderLemmas.{line_end-some}
use Rattle.ini.specs.Texts.{Text}
use Rattle.ini_edit.proofs.AheadLemmas.{FollowsFront, closes_no_line}
use Rattle.ini_edit.proofs.CommentedLineLemmas.{blanks_more, closes_no_comment, comment_some}
use Rattle.ini_edit.proofs.GluedLemmas.{row-append, str_row}
use Rattle.ini_edit.proofs.PadLemmas.{EndsInBlank, blank_at_end, end_trimmed-white, white_both}
use Rattle.ini_edit.proofs.PadLemmas.{white_inside, white_no_note, white_row}
use Rattle.ini_edit.proofs.QuoteLemmas.{white_no_mark}
use Rattle.ini_edit.proofs.ValueLemmas.{closes_no_inline, closes_no_mark}

module _ {o : ParseOption} where
  last_alike : {t r x : Text} → Alike r x → LastLine o t r → LastLine o t x
  last_alike a (LastLine.last {l = l} goes ln some) =
      LastLine.last (GoesOn-alike (Alike-after l a) goes) (LineText-alike a ln) some
  last_alike a (LastLine.empty_lf m) = LastLine.empty_lf (last_alike a m)
  last_alike a (LastLine.empty_cr_lf m) = LastLine.empty_cr_lf (last_alike a m)
  last_alike {x = x} a (LastLine.continued {l = l} {t = t} goes ln end m) =
      let n = EndedLine-before (LineEnd-alike (Alike-after t a) end)
      (record { lead = goes.lead; line = ln; end = end }) in
      LastLine.continued (GoesOn-before l (t ++ x) end goes) n.line n.end (last_alike a m)
  last_alike {x = x} a (LastLine.comment {t = t} line end m) =
      LastLine.comment (CommentLine-before (t ++ x) end line) (LineEnd-alike (Alike-after t a) end)
      (last_alike a m)

  -- before a text that begins alike
  pub own_alike : {l r x : Text} → Alike r x → OwnLines o l r → OwnLines o l x
  own_alike a (OwnLines.first ln) = OwnLines.first (LineText-alike a ln)
  own_alike a (OwnLines.more {e = e} {t} {r} ln end m) =
      let b = Alike-after t a in
      OwnLines.more (Line-alike (Alike-after e b) ln) (LineEnd-alike b end) (last_alike a m)

  pub own_before : {l r x : Text} → BeginAlike r x → OwnLines o l r → OwnLines o l x
  own_before BeginAlike.empty own = own
  own_before BeginAlike.character own = own_alike Alike.same own

abbrev pub IsWhite : Text → Type 0
IsWhite w = list_all is_inline_white w ≡ true

-- white space after a plain value goes with it
trimmed_alone : (w : Text) → IsWhite w → trimmed w ≡ []
trimmed_alone [] h = refl
trimmed_alone (c ∷ w) h =
    let parts = and_parts (is_inline_white c) (list_all is_inline_white w) h in
    ap drop_trailing_whitespace (cond-true (is_whitespace c) _ _ (and_parts (is_whitespace c) _ parts.0).0)
    ∙ trimmed_alone w parts.1

trimmed_padded : (v w : Text) → IsWhite w → trimmed (v ++ w) ≡ trimmed v
trimmed_padded [] w h = trimmed_alone w h
trimmed_padded (c ∷ v) w h = elim (cases_Bool (is_whitespace c)) [
  | inl white ↦
      ap drop_trailing_whitespace (cond-true (is_whitespace c) _ _ white) ∙ trimmed_padded v w h
      ∙ ap drop_trailing_whitespace (sym (cond-true (is_whitespace c) _ _ white))
  | inr other ↦
      ap drop_trailing_whitespace (cond-false (is_whitespace c) _ _ other) ∙ end_trimmed-white (c ∷ v) w h
      ∙ ap drop_trailing_whitespace (sym (cond-false (is_whitespace c) _ _ other))
]

value_padded : (first quoted : Bool) (v w : Text) → IsWhite w
    → plain_value first quoted (v ++ w) ≡ plain_value first quoted v
value_padded true true v w h = end_trimmed-white v w h
value_padded true false v w h = trimmed_padded v w h
value_padded false quoted v w h = end_trimmed-white v w h

-- What may stand behind a line's text, before which x stood, and this white space after it: what closes the
-- line; a note, behind a blank; and where there is no white space, what begins as x does.
pub data Stands (o : ParseOption) (x pad y : Text) : Type 0 where
  at_end : Closes plain_ends y → Stands o x pad y
  at_note : o.enabled_inline_comment ≡ true → is_blank (last_or line_feed pad) ≡ true
      → begins is_comment_mark y ≡ true → Stands o x pad y
  as_before : pad ≡ [] → Alike x y → Stands o x pad y

-- no quote mark begins it
comment_no_quote : (c : ℕ) → is_comment_mark c ≡ true → is_quote_mark c ≡ false
comment_no_quote c h = elim (or_cases (eqb c semicolon) (eqb c hash) h)
    [ inl q ↦ rw (eqb-true c semicolon q) refl | inr q ↦ rw (eqb-true c hash q) refl ]

note_no_quote : (y : Text) → begins is_comment_mark y ≡ true → BeginsWithNo is_quote_mark y
note_no_quote [] h = tt
note_no_quote (c ∷ y) h = comment_no_quote c h

no_mark_padded : (p pad x y : Text) → IsWhite pad → BeginsWithNo is_quote_mark y
    → BeginsWithNo is_quote_mark (p ++ x) → BeginsWithNo is_quote_mark ((p ++ pad) ++ y)
no_mark_padded [] [] x y white other n = other
no_mark_padded [] (c ∷ pad) x y white other n =
    white_no_mark c (and_parts (is_inline_white c) (list_all is_inline_white pad) white).0
no_mark_padded (c ∷ p) pad x y white other n = n

-- white space after the text of a line that something follows
module _ (o : ParseOption) (pad y : Text) (white : IsWhite pad) where
  str_closed : {p v x : Text} {c : ℕ} → Closes plain_ends y
      → Str (backslash_of o) (noted o plain_ends) p (c ∷ x) v
      → Str (backslash_of o) (noted o plain_ends) (p ++ pad) y (v ++ pad)
  str_closed closes str =
      Str.closed (row-append (white_no_note pad white) (str_row (λ none. cc) str) (white_row o pad white))
      closes

  str_noted : {p v x : Text} {c : ℕ} → o.enabled_inline_comment ≡ true → EndsInBlank pad
      → begins is_comment_mark y ≡ true → Str (backslash_of o) (noted o plain_ends) p (c ∷ x) v
      → Str (backslash_of o) (noted o plain_ends) (p ++ pad) y (v ++ pad)
  str_noted {p} {v} on at note str =
      let b = backslash_of o in
      let inside = white_inside b at.blank (blank_inline at.blank at.is_blank) in
      let row = row-append (white_no_note at.front at.white) (str_row (λ none. cc) str)
      (white_row o at.front at.white) in
      let seam : (z : Text) → (z ++ at.front) ++ at.blank ∷ [] ≡ z ++ pad = λ z.
      append_assoc z at.front (at.blank ∷ []) ∙ ap (λ t. z ++ t) (sym at.whole) in
      subst₂ (λ s u. Str b (noted o plain_ends) s y u) (seam p) (seam v)
      (Str.before_note at.blank row inside.0 inside.1
      (and_from o.enabled_inline_comment _ on (and_from (is_blank at.blank) _ at.is_blank note)))

  text_by : {first quoted : Bool} {q w : Text} (p v x : Text) → Quoted o q w quoted
      → BeginsPlain o (p ++ x) → BeginsWithNo is_quote_mark y
      → Str (backslash_of o) (noted o plain_ends) (p ++ pad) y (v ++ pad)
      → LineText o first ((q ++ p) ++ pad) y (w ++ plain_value first quoted v)
  text_by {first} {quoted} {q} {w} p v x parts plain other str =
      subst₂ (λ l u. LineText o first l y u) (sym (append_assoc q p pad))
      (ap (λ z. w ++ z) (value_padded first quoted v pad white))
      (LineText.text parts (λ on. no_mark_padded p pad x y white other (plain on)) str)

module _ {o : ParseOption} (pad y : Text) (white : IsWhite pad) where
  pub text_padded : {first : Bool} {c : ℕ} {l x u : Text} → Stands o (c ∷ x) pad y
      → LineText o first l (c ∷ x) u → LineText o first (l ++ pad) y u
  text_padded {c = c} {x = x} (Stands.at_end closes) (LineText.text {p = p} {v = v} parts plain str) =
      text_by o pad y white p v (c ∷ x) parts plain (closes_no_mark y closes)
      (str_closed o pad y white closes str)
  text_padded {c = c} {x = x} (Stands.at_note on blank note)
      (LineText.text {p = p} {v = v} parts plain str) =
      text_by o pad y white p v (c ∷ x) parts plain (note_no_quote y note)
      (str_noted o pad y white on (blank_at_end pad white blank) note str)
  text_padded {first} {l = l} {u = u} (Stands.as_before none a) front =
      subst (λ z. LineText o first z y u) (sym (append-nil l) ∙ ap (λ z. l ++ z) (sym none))
      (LineText-alike a front)

-- white space, the text of a line and white space: a text, before which all white space stands that begins
-- it
pub record Padded (o : ParseOption) (first : Bool) (w l x pad y u : Text) : Type 0 where
  pub lead : Text
  pub text : Text
  pub whole : lead ++ text ≡ w ++ (l ++ pad)
  pub begins : BeginsWith is_blank w → BeginsWith is_blank lead
  pub other : BeginsWithNo is_comment_mark (l ++ x) → BeginsWithNo is_comment_mark (text ++ y)
  pub is_lead : Lead lead (text ++ y)
  pub is_text : LineText o first text y u

module _ {o : ParseOption} {first : Bool} (w : Text) (white : IsWhite w) where
  pub padded : (l pad y : Text) {c : ℕ} {x u : Text} → IsWhite pad → Stands o (c ∷ x) pad y
      → (l ≡ [] → begins is_comment_mark y ≡ false) → BeginsWithNo is_inline_white (l ++ c ∷ x)
      → LineText o first l (c ∷ x) u → Padded o first w l (c ∷ x) pad y u
  padded [] pad y white_pad (Stands.at_end closes) some n front = record {
    lead = w ++ pad;
    text = [];
    whole = append-nil (w ++ pad);
    begins = blanks_more w pad;
    other = λ n. closes_no_comment y closes;
    is_lead = record { white = white_both w pad white white_pad; ends = closes_no_inline y closes };
    is_text = text_padded [] y refl (Stands.at_end closes) front;
  }
  padded [] pad y white_pad (Stands.at_note on blank note) some n front =
      absurd (both_ways (begins is_comment_mark y) (some refl) note)
  padded [] pad y white_pad (Stands.as_before none a) some n front = record {
    lead = w;
    text = [];
    whole = ap (λ z. w ++ z) (sym none);
    begins = λ b. b;
    other = λ n. BeginsWithNo-alike is_comment_mark a n;
    is_lead = record { white = white; ends = BeginsWithNo-alike is_inline_white a n };
    is_text = LineText-alike a front;
  }
  padded (d ∷ l) pad y white_pad stands some n front = record {
    lead = w;
    text = (d ∷ l) ++ pad;
    whole = refl;
    begins = λ b. b;
    other = λ n. n;
    is_lead = record { white = white; ends = n };
    is_text = text_padded pad y white_pad stands front;
  }

-- with which a value goes on too
pub goes_padded : {o : ParseOption} {w l x pad y u : Text} (p : Padded o false w l x pad y u)
    → GoesOn o w (l ++ x) → GoesOn o p.lead (p.text ++ y)
goes_padded p goes =
    record { begins = p.begins goes.begins; lead = p.is_lead; text = λ on. p.other (goes.text on) }

-- an empty text gives nothing
no_parts : (x y : Text) → x ++ y ≡ [] → (x ≡ []) × (y ≡ [])
no_parts [] y none = (refl, none)
no_parts (c ∷ x) y none = cc

no_str : {b : Backslash} {ends : Ends} {s r v : Text} → Str b ends s r v → s ≡ [] → v ≡ []
no_str (Str.closed row h) none = empty_row row none
no_str (Str.before_note {s} c row n inside note) none =
    let no : c ∷ [] ≡ [] = (no_parts s (c ∷ []) none).1 in cc
no_str (Str.lone {s} special row h) none =
    let no : backslash ∷ [] ≡ [] = (no_parts s (backslash ∷ []) none).1 in cc

later_none : {o : ParseOption} {l r u : Text} → LineText o false l r u → l ≡ [] → u ≡ []
later_none (LineText.text {p = p} Quoted.none plain str) none =
    ap (λ z. plain_value false false z) (no_str str none)
later_none (LineText.text {p = p} (Quoted.part {m} {s} {q = q} on mark str parts) plain _) none =
    let no : m ∷ (s ++ m ∷ q) ≡ [] = (no_parts (m ∷ (s ++ m ∷ q)) p none).0 in cc

pub last_some : {o : ParseOption} {l r u : Text} → LineText o false l r u → list_all is_line_feed u ≡ false
    → l ≢ []
last_some {u = u} front some none =
    both_ways (list_all is_line_feed u) some (ap (list_all is_line_feed) (later_none front none))

pub last_length : {o : ParseOption} {t r : Text} → LastLine o t r → 1 ≤ length t
last_length (LastLine.last {w} {l} goes ln some) =
    let n = BeginsWith-some is_blank w goes.begins in omega (arith, length-append w l)
last_length (LastLine.empty_lf m) = omega arith
last_length (LastLine.empty_cr_lf m) = omega arith
last_length (LastLine.continued {w} {l} {e} {t} goes ln end m) =
    let n = BeginsWith-some is_blank w goes.begins in omega (arith, length-append w (l ++ (e ++ t)))
last_length (LastLine.comment {s} {e} {t} line end m) = comment_some (e ++ t) line

pub alike_padded : (pad y t z : Text) → 1 ≤ length t → Alike (t ++ z) ((t ++ pad) ++ y)
alike_padded pad y t z some =
    subst (Alike (t ++ z)) (sym (append_assoc t pad y)) (Alike-some t z (pad ++ y) some)

-- white space after lines that something follows
module _ {o : ParseOption} (pad y : Text) (white : IsWhite pad) where
  last_padded : {c : ℕ} {t x : Text} → Stands o (c ∷ x) pad y → LastLine o t (c ∷ x)
      → LastLine o (t ++ pad) y
  last_padded stands (LastLine.last {w} {l} goes ln some) =
      let p = padded w goes.lead.white l pad y white stands (λ none. absurd (last_some ln some none))
      goes.lead.ends ln in
      subst (λ s. LastLine o s y) (p.whole ∙ sym (append_assoc w l pad))
      (LastLine.last (goes_padded p goes) p.is_text some)
  last_padded stands (LastLine.empty_lf m) = LastLine.empty_lf (last_padded stands m)
  last_padded stands (LastLine.empty_cr_lf m) = LastLine.empty_cr_lf (last_padded stands m)
  last_padded {c} {x = x} stands (LastLine.continued {w} {l} {e} {t} goes ln end m) =
      let n = EndedLine-before (LineEnd-alike (alike_padded pad y t (c ∷ x) (last_length m)) end)
      (record { lead = goes.lead; line = ln; end = end }) in
      let seam : w ++ (l ++ (e ++ (t ++ pad))) ≡ (w ++ (l ++ (e ++ t))) ++ pad = simp append_assoc in
      subst (λ s. LastLine o s y) seam
      (LastLine.continued (GoesOn-before l ((t ++ pad) ++ y) end goes) n.line n.end (last_padded stands m))
  last_padded {c} {x = x} stands (LastLine.comment {s} {e} {t} line end m) =
      let seam : s ++ (e ++ (t ++ pad)) ≡ (s ++ (e ++ t)) ++ pad = simp append_assoc in
      subst (λ s. LastLine o s y) seam
      (LastLine.comment (CommentLine-before ((t ++ pad) ++ y) end line)
      (LineEnd-alike (alike_padded pad y t (c ∷ x) (last_length m)) end) (last_padded stands m))

  pub own_padded : {c : ℕ} {s x : Text} → Stands o (c ∷ x) pad y → OwnLines o s (c ∷ x)
      → OwnLines o (s ++ pad) y
  own_padded stands (OwnLines.first ln) = OwnLines.first (text_padded pad y white stands ln)
  own_padded {c} {x = x} stands (OwnLines.more {l} {e} {t} ln end m) =
      let seam : l ++ (e ++ (t ++ pad)) ≡ (l ++ (e ++ t)) ++ pad = simp append_assoc in
      subst (λ s. OwnLines o s y) seam
      (OwnLines.more
      (Line-alike (Alike-some e (t ++ c ∷ x) ((t ++ pad) ++ y) (line_end-some end)) ln)
      (LineEnd-alike (alike_padded pad y t (c ∷ x) (last_length m)) end) (last_padded stands m))

-- the lines after a value before another text in a key's place, with what stands before them
pub trailing_alike : {o : ParseOption} {c t y : Text} (x : Text) → FollowsFront c y → TrailingLines o t y
    → Alike (t ++ y) (t ++ x)
trailing_alike {y = y} x f (TrailingLines.line off closes) = closes_no_line y f.some closes
trailing_alike x f (TrailingLines.end on) = absurd (false≢true (sym f.some))
trailing_alike {y = y} x f (TrailingLines.lines {e} {t} on end more all) =
    Alike-some (e ++ t) y x (omega (arith, length-append e t, line_end-some end))

pub own_ahead : {o : ParseOption} {c l t y : Text} (n x : Text) → FollowsFront c y → TrailingLines o t y
    → OwnLines o l (n ++ (t ++ y)) → OwnLines o l (n ++ (t ++ x))
own_ahead n x f lines own = own_alike (Alike-after n (trailing_alike x f lines)) own

pub note_stays : {o : ParseOption} {c n t y : Text} (x : Text) → FollowsFront c y → TrailingLines o t y
    → LineTail n (t ++ y) → LineTail n (t ++ x)
note_stays x f lines tail = LineTail-alike (trailing_alike x f lines) tail
