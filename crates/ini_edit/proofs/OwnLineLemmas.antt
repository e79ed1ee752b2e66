-- A value's own lines end at one place: before the line end after which only lines stand that add nothing.
use Rattle.std.proofs.Common.{◌≡◌, ◌∙◌, ◌≤◌, ℕ, Bool, true, false, not, [], ◌∷◌, ◌++◌, append_assoc}
use Rattle.std.proofs.Common.{Some, ap, append-nil, arith, length, length-append, refl, subst, sym}
use Rattle.std.proofs.lemmas.Bool.{and_parts, both_ways, false_from_ne_true, false≢true}
use Rattle.std.proofs.lemmas.List.{append_cancel_right}
use Rattle.std.proofs.lemmas.List.Folds.{list_all-append}
use Rattle.std.specs.List.{list_all}
use Rattle.ini_text.specs.Options.Backslashes.{Backslash}
use Rattle.ini_text.specs.declared.option.ParseOption.{ParseOption}
use Rattle.ini_text.specs.Grammar.CharacterKinds.{BeginsWith, BeginsWithNo, is_blank, is_inline_white}
use Rattle.ini_text.specs.Grammar.CharacterKinds.{carriage_return, is_comment_mark, is_line_end}
use Rattle.ini_text.specs.Grammar.CharacterKinds.{is_line_feed, line_feed}
use Rattle.ini_text.specs.Grammar.Lines.{Line, LineTail, LineText, Note}
use Rattle.ini_text.specs.Grammar.Places.{LastLine, OwnLines, TrailingLines}
use Rattle.ini_text.specs.Grammar.Positions.{last_or}
use Rattle.ini_text.specs.Grammar.Strings.{Str, noted, plain_ends}
use Rattle.ini_text.specs.Grammar.Values.{CommentLine, GoesOn, LineEnd, MoreLines}
use Rattle.ini_text.specs.Inside.LineReader.{line, line_text, past_note}
use Rattle.ini_text.specs.Inside.Reading.{found}
use Rattle.ini_text.specs.Inside.Scans.{skipped}
use Rattle.ini_text.specs.Inside.ValueReader.{after_end}
use Rattle.ini_text.proofs.GrammarLemmas.KindLemmas.{line_end_no_blank}
use Rattle.ini_text.proofs.LawLemmas.MovedLemmas.{last_or-after}
use Rattle.ini_text.proofs.ReaderLemmas.LineReaderLemmas.{TextEnds, line-reads, line_text-reads, tail_read}
use Rattle.ini_text.proofs.ReaderLemmas.LineReaderLemmas.{tail_at, text_ends}
use Rattle.ini_text.proofs.ReaderLemmas.RunReaderLemmas.{run-finds}
use Rattle.ini_text.proofs.ReaderLemmas.StringReaderLemmas.{note_parts}
use Rattle.ini_text.proofs.ReaderLemmas.ValueReaderLemmas.{line_end-some}
use Rattle.ini.specs.Texts.{Text}
use Rattle.ini_edit.proofs.CommentedLineLemmas.{closes_end, closes_no_comment, comment_begins}
use Rattle.ini_edit.proofs.CommentedLineLemmas.{comment_closes, comment_within}

-- a line end is one
after_end_is : {e n : Text} → LineEnd e n → after_end (e ++ n) ≡ Some n
after_end_is LineEnd.lf = refl
after_end_is LineEnd.cr_lf = refl
after_end_is {n = []} (LineEnd.cr other) = refl
after_end_is {n = c ∷ n} (LineEnd.cr other) = rw other

line_end_one : {e n d m : Text} → LineEnd e n → LineEnd d m → e ++ n ≡ d ++ m → n ≡ m
line_end_one {n = n} {m = m} one other same =
    let both : Some n ≡ Some m = sym (after_end_is one) ∙ ap after_end same ∙ after_end_is other in
    cc

line_end_some : {X : Type 0} {e n : Text} → LineEnd e n → [] ≡ e ++ n → X
line_end_some LineEnd.lf same = cc
line_end_some LineEnd.cr_lf same = cc
line_end_some (LineEnd.cr other) same = cc

-- what a line begins with that goes on
blank_no_end : (c : ℕ) → is_blank c ≡ true → is_line_end c ≡ false
blank_no_end c b =
    false_from_ne_true (is_line_end c) (λ e. both_ways (is_blank c) (line_end_no_blank c e) b)

begins_both : {X : Type 0} (w y : Text) → BeginsWith is_blank w → BeginsWith is_line_end (w ++ y) → X
begins_both [] y b e = absurd (false≢true (sym b))
begins_both (c ∷ w) y b e = absurd (both_ways (is_line_end c) (blank_no_end c b) e)

begins_none : {X : Type 0} (w y : Text) → BeginsWith is_blank w → BeginsWithNo is_blank (w ++ y) → X
begins_none [] y b n = absurd (false≢true (sym b))
begins_none (c ∷ w) y b n = absurd (both_ways (is_blank c) n b)

ends_none : {X : Type 0} (t : Text) → BeginsWith is_line_end t → BeginsWithNo is_line_end t → X
ends_none [] e n = absurd (false≢true (sym e))
ends_none (c ∷ t) e n = absurd (both_ways (is_line_end c) n e)

all_parts : (u v : Text) → list_all is_line_feed (u ++ v) ≡ true
    → (list_all is_line_feed u ≡ true) × (list_all is_line_feed v ≡ true)
all_parts u v h =
    and_parts (list_all is_line_feed u) (list_all is_line_feed v) (sym (list_all-append is_line_feed u v) ∙ h)

apart : {X : Type 0} {u v : Text} → u ≡ v → list_all is_line_feed u ≡ true → list_all is_line_feed v ≡ false
    → X
apart {v = v} same all some =
    absurd (both_ways (list_all is_line_feed v) some (ap (list_all is_line_feed) (sym same) ∙ all))

module _ (o : ParseOption) where
  -- a value goes on with a line at the front of a text, up to x, which adds u
  data NextLine (t x u : Text) : Type 0 where
    empty : t ≡ x → u ≡ [] → BeginsWith is_line_end t → NextLine t x u
    blank : {w l : Text} → t ≡ w ++ (l ++ x) → GoesOn o w (l ++ x) → Line o false l x u → NextLine t x u
    comment : {s : Text} → t ≡ s ++ x → u ≡ [] → CommentLine o s x → NextLine t x u

  -- the same up to its note
  record NextText (t x u : Text) : Type 0 where
    lead : Text
    text : Text
    is : t ≡ lead ++ (text ++ x)
    goes : GoesOn o lead (text ++ x)
    is_text : LineText o false text x u

  -- lines up to x, of which the last adds more than line feeds
  data OwnRest (x : Text) : Text → Type 0 where
    stop : {t u : Text} → NextText t x u → list_all is_line_feed u ≡ false → OwnRest x t
    on : {t u e n : Text} → NextLine t (e ++ n) u → LineEnd e n → OwnRest x n → OwnRest x t

  -- no such lines
  data AddsNone : Text → Type 0 where
    done : {t : Text} → BeginsWithNo is_blank t → BeginsWithNo is_line_end t → AddsNone t
    last : {t u : Text} → NextLine t [] u → list_all is_line_feed u ≡ true → AddsNone t
    on : {t u e n : Text} → NextLine t (e ++ n) u → list_all is_line_feed u ≡ true → LineEnd e n → AddsNone n
        → AddsNone t

  -- after a note and a line end, nothing of a text is a value's own, up to one no shorter than r
  abbrev EndsOwn : (r x : Text) → Type 0
  EndsOwn r x = (e n y : Text) → past_note o x ≡ e ++ n → LineEnd e n → OwnRest y n → length r ≤ length y → ⊥

-- before a note a string ends in a blank, whatever stands before it
str_blank : (o : ParseOption) {b : Backslash} {s v y : Text} {m : ℕ} → is_comment_mark m ≡ true
    → Str b (noted o plain_ends) s (m ∷ y) v → (f : Text) → is_blank (last_or line_feed (f ++ s)) ≡ true
str_blank o {y = y} {m} mark (Str.closed row closes) f =
    absurd (both_ways (is_comment_mark m) (closes_no_comment (m ∷ y) closes) mark)
str_blank o {y = y} {m} mark (Str.before_note {s} c row n inside note) f =
    subst (λ z. is_blank (last_or line_feed z) ≡ true) (append_assoc f s (c ∷ []))
    (subst (λ d. is_blank d ≡ true) (sym (last_or-after line_feed c (f ++ s) []))
    (note_parts (noted o plain_ends) c (m ∷ y) note).1)

module _ {o : ParseOption} where
  line_one : {first : Bool} {l x u m y v : Text} → Line o first l x u → Line o first m y v
      → l ++ x ≡ m ++ y → (x ≡ y) × (u ≡ v)
  line_one {first} {x = x} {u} {y = y} {v} one other same =
      let both : found u x ≡ found v y =
      sym ((line-reads o first).finds one) ∙ ap (line o first) same ∙ (line-reads o first).finds other in
      (cc, cc)

  text_one : {first : Bool} {l x u m y v : Text} → LineText o first l x u → LineText o first m y v
      → l ++ x ≡ m ++ y → x ≡ y
  text_one {first} {x = x} {u} {y = y} {v} one other same =
      let both : found u x ≡ found v y =
      sym ((line_text-reads o first).finds one) ∙ ap (line_text o first) same
      ∙ (line_text-reads o first).finds other in
      cc

  -- a line's text, and the line that it is of
  text_line : {first : Bool} {l x u m y v : Text} → LineText o first l x u → Line o first m y v
      → l ++ x ≡ m ++ y → (past_note o x ≡ y) × (u ≡ v)
  text_line {first} {l} {x} {u} one other same =
      let (n, tail, whole) = tail_at o x (text_ends one) in
      line_one (Line.line (subst (λ z. LineText o first l z u) (sym whole) one) tail) other
      (append_assoc l n (past_note o x) ∙ ap (λ z. l ++ z) whole ∙ same)

  as_line : {t x u : Text} → NextText o t x u → NextLine o t (past_note o x) u
  as_line {x = x} {u} h =
      let (n, tail, whole) = tail_at o x (text_ends h.is_text) in
      let seam : h.text ++ x ≡ (h.text ++ n) ++ past_note o x =
      ap (λ z. h.text ++ z) (sym whole) ∙ sym (append_assoc h.text n (past_note o x)) in
      NextLine.blank (h.is ∙ ap (λ z. h.lead ++ z) seam) (subst (GoesOn o h.lead) seam h.goes)
      (Line.line (subst (λ z. LineText o false h.text z u) (sym whole) h.is_text) tail)

  lead_one : {w x z y : Text} → w ++ x ≡ z ++ y → GoesOn o w x → GoesOn o z y → x ≡ y
  lead_one {w} {x} {z} {y} same goes other =
      sym (run-finds is_inline_white w x goes.lead.white goes.lead.ends).1
      ∙ ap (skipped is_inline_white) same
      ∙ (run-finds is_inline_white z y other.lead.white other.lead.ends).1

  next_text : {t x u y v : Text} → NextText o t x u → NextText o t y v → x ≡ y
  next_text h k = text_one h.is_text k.is_text (lead_one (sym h.is ∙ k.is) h.goes k.goes)

  next_none : {X : Type 0} {t x u : Text} → NextLine o t x u → BeginsWithNo is_blank t
      → BeginsWithNo is_line_end t → X
  next_none {t = t} (NextLine.empty is none e) n m = ends_none t e m
  next_none {x = x} (NextLine.blank {w} {l} is goes ln) n m =
      begins_none w (l ++ x) goes.begins (subst (BeginsWithNo is_blank) is n)
  next_none {x = x} (NextLine.comment {s} is none noted) n m =
      begins_none s x (comment_begins noted) (subst (BeginsWithNo is_blank) is n)

  -- a comment goes up to its line's end, and no line with which a value goes on is one
  comment_one : {s r k z : Text} → CommentLine o s r → CommentLine o k z → s ++ r ≡ k ++ z → r ≡ z
  comment_one {s} {r} {k} {z} one other same =
      sym (run-finds (λ c. not (is_line_end c)) s r (comment_within one)
      (closes_end r (comment_closes one))).1
      ∙ ap (skipped (λ c. not (is_line_end c))) same
      ∙ (run-finds (λ c. not (is_line_end c)) k z (comment_within other)
      (closes_end z (comment_closes other))).1

  comment_apart : {X : Type 0} {s r w x : Text} → CommentLine o s r → GoesOn o w x → s ++ r ≡ w ++ x → X
  comment_apart {r = r} {w} {x} (CommentLine.comment {w = v} {n} may begins lead noted) goes same =
      let text : n ++ r ≡ x =
      sym (run-finds is_inline_white v (n ++ r) lead.white lead.ends).1
      ∙ ap (skipped is_inline_white) (sym (append_assoc v n r) ∙ same)
      ∙ (run-finds is_inline_white w x goes.lead.white goes.lead.ends).1 in
      at noted (subst (BeginsWithNo is_comment_mark) (sym text) (goes.text may))
    where
      at : {X : Type 0} {n r : Text} → Note n r → BeginsWithNo is_comment_mark (n ++ r) → X
      at (Note.note {m} mark within closes) none = absurd (both_ways (is_comment_mark m) none mark)

  next_one : {t x u y v : Text} → NextLine o t x u → NextLine o t y v → (x ≡ y) × (u ≡ v)
  next_one (NextLine.empty is none e) (NextLine.empty at nothing d) = (sym is ∙ at, none ∙ sym nothing)
  next_one {y = y} (NextLine.empty is none e) (NextLine.blank {w} {l} at goes ln) =
      begins_both w (l ++ y) goes.begins (subst (BeginsWith is_line_end) at e)
  next_one {y = y} (NextLine.empty is none e) (NextLine.comment {s} at nothing noted) =
      begins_both s y (comment_begins noted) (subst (BeginsWith is_line_end) at e)
  next_one {x = x} (NextLine.blank {w} {l} at goes ln) (NextLine.empty is none e) =
      begins_both w (l ++ x) goes.begins (subst (BeginsWith is_line_end) at e)
  next_one {x = x} (NextLine.comment {s} at nothing noted) (NextLine.empty is none e) =
      begins_both s x (comment_begins noted) (subst (BeginsWith is_line_end) at e)
  next_one {x = x} {y = y} (NextLine.blank {w} {l} is goes ln)
      (NextLine.blank {w = z} {l = m} at other mn) =
      line_one ln mn (lead_one (sym is ∙ at) goes other)
  next_one (NextLine.comment is none noted) (NextLine.comment at nothing other) =
      (comment_one noted other (sym is ∙ at), none ∙ sym nothing)
  next_one (NextLine.comment is none noted) (NextLine.blank at goes ln) =
      comment_apart noted goes (sym is ∙ at)
  next_one (NextLine.blank at goes ln) (NextLine.comment is none noted) =
      comment_apart noted goes (sym is ∙ at)

  own_rest : {t r : Text} → LastLine o t r → OwnRest o r (t ++ r)
  own_rest {r = r} (LastLine.last {w} {l} goes ln some) =
      OwnRest.stop
      (record { lead = w; text = l; is = append_assoc w l r; goes = goes; is_text = ln }) some
  own_rest (LastLine.empty_lf m) =
      OwnRest.on {e = line_feed ∷ []} (NextLine.empty refl refl refl) LineEnd.lf (own_rest m)
  own_rest (LastLine.empty_cr_lf m) =
      OwnRest.on {e = carriage_return ∷ line_feed ∷ []} (NextLine.empty refl refl refl) LineEnd.cr_lf
      (own_rest m)
  own_rest {r = r} (LastLine.continued {w} {l} {e} {t} goes ln end m) =
      let whole : (w ++ (l ++ (e ++ t))) ++ r ≡ w ++ (l ++ (e ++ (t ++ r))) = simp append_assoc in
      OwnRest.on (NextLine.blank whole goes ln) end (own_rest m)
  own_rest {r = r} (LastLine.comment {s} {e} {t} noted end m) =
      let whole : (s ++ (e ++ t)) ++ r ≡ s ++ (e ++ (t ++ r)) = simp append_assoc in
      OwnRest.on (NextLine.comment whole refl noted) end (own_rest m)

  adds_none : {t r u : Text} → MoreLines o t r u → list_all is_line_feed u ≡ true → AddsNone o (t ++ r)
  adds_none (MoreLines.done n m) all = AddsNone.done n m
  adds_none (MoreLines.empty_lf m) all =
      AddsNone.on {e = line_feed ∷ []} (NextLine.empty refl refl refl) refl LineEnd.lf (adds_none m all)
  adds_none (MoreLines.empty_cr_lf m) all =
      AddsNone.on {e = carriage_return ∷ line_feed ∷ []} (NextLine.empty refl refl refl) refl LineEnd.cr_lf
      (adds_none m all)
  adds_none {r = r} (MoreLines.continued {w} {l} {e} {t} {u = u} {v = v} goes ln end m) all =
      let whole : (w ++ (l ++ (e ++ t))) ++ r ≡ w ++ (l ++ (e ++ (t ++ r))) = simp append_assoc in
      let parts = all_parts u v all in
      AddsNone.on (NextLine.blank whole goes ln) parts.0 end (adds_none m parts.1)
  adds_none (MoreLines.last {w} {l} goes ln) all =
      AddsNone.last
      (NextLine.blank (append_assoc w l []) (subst (GoesOn o w) (sym (append-nil l)) goes) ln) all
  adds_none {r = r} (MoreLines.comment {s} {e} {t} noted end m) all =
      let whole : (s ++ (e ++ t)) ++ r ≡ s ++ (e ++ (t ++ r)) = simp append_assoc in
      AddsNone.on (NextLine.comment whole refl noted) refl end (adds_none m all)
  adds_none (MoreLines.last_comment noted) all = AddsNone.last (NextLine.comment refl refl noted) refl

  none_own : {X : Type 0} {t x : Text} → AddsNone o t → OwnRest o x t → X
  none_own (AddsNone.done n m) (OwnRest.stop next some) = next_none (as_line next) n m
  none_own (AddsNone.done n m) (OwnRest.on next end own) = next_none next n m
  none_own (AddsNone.last here all) (OwnRest.stop next some) = apart (next_one here (as_line next)).1 all some
  none_own (AddsNone.last here all) (OwnRest.on next end own) = line_end_some end (next_one here next).0
  none_own (AddsNone.on here all le none) (OwnRest.stop next some) =
      apart (next_one here (as_line next)).1 all some
  none_own {x = x} (AddsNone.on here all le none) (OwnRest.on next end own) =
      none_own none (subst (OwnRest o x) (sym (line_end_one le end (next_one here next).0)) own)

  -- such lines are no shorter than what follows them
  next_length : {t x u : Text} → NextLine o t x u → length x ≤ length t
  next_length (NextLine.empty is none e) = omega (arith, ap length is)
  next_length {x = x} (NextLine.blank {w} {l} is goes ln) =
      omega (arith, ap length is, length-append w (l ++ x), length-append l x)
  next_length {x = x} (NextLine.comment {s} is none noted) = omega (arith, ap length is, length-append s x)

  rest_length : {x t : Text} → OwnRest o x t → length x ≤ length t
  rest_length {x} (OwnRest.stop next some) =
      omega (arith, ap length next.is, length-append next.lead (next.text ++ x), length-append next.text x)
  rest_length (OwnRest.on {e = e} {n} next end own) =
      let here = next_length next in let more = rest_length own in omega (arith, length-append e n)

  rest_one : (r : Text) {x y t : Text} → EndsOwn o r x → EndsOwn o r y → length r ≤ length x → length r ≤ length y
      → OwnRest o x t → OwnRest o y t → x ≡ y
  rest_one r no_x no_y long_x long_y (OwnRest.stop here some) (OwnRest.stop next other) = next_text here next
  rest_one r no_x no_y long_x long_y (OwnRest.stop here some) (OwnRest.on next end own) =
      absurd (no_x _ _ _ (next_one (as_line here) next).0 end own long_y)
  rest_one r no_x no_y long_x long_y (OwnRest.on here end own) (OwnRest.stop next some) =
      absurd (no_y _ _ _ (next_one (as_line next) here).0 end own long_x)
  rest_one r {y = y} no_x no_y long_x long_y (OwnRest.on here end own) (OwnRest.on next le other) =
      rest_one r no_x no_y long_x long_y own
      (subst (OwnRest o y) (sym (line_end_one end le (next_one here next).0)) other)

  -- lines that add nothing, behind a note
  trailing_ends : {t r : Text} (x : Text) → past_note o x ≡ t ++ r → TrailingLines o t r → EndsOwn o r x
  trailing_ends {r = r} x past (TrailingLines.line off h) e n y is end own long =
      let some = line_end-some end in
      let more = rest_length own in
      omega (arith, ap length (sym past ∙ is), length-append e n)
  trailing_ends x past (TrailingLines.end _) e n y is end own long = line_end_some end (sym past ∙ is)
  trailing_ends {r = r} x past (TrailingLines.lines {e = d} {t} _ le more all) e n y is end own long =
      none_own (adds_none more all)
      (subst (OwnRest o y) (line_end_one end le (sym is ∙ past ∙ append_assoc d t r)) own)

  ends_one : (r : Text) {a x b y : Text} → OwnLines o a x → OwnLines o b y → a ++ x ≡ b ++ y → EndsOwn o r x
      → EndsOwn o r y → length r ≤ length x → length r ≤ length y → x ≡ y
  ends_one r (OwnLines.first one) (OwnLines.first other) same no_x no_y long_x long_y = text_one one other same
  ends_one r {y = y} (OwnLines.first one) (OwnLines.more {l} {e} {t} other end m) same no_x no_y long_x long_y =
      let whole : (l ++ (e ++ t)) ++ y ≡ l ++ (e ++ (t ++ y)) = simp append_assoc in
      absurd (no_x e (t ++ y) y (text_line one other (same ∙ whole)).0 end (own_rest m) long_y)
  ends_one r {x = x} (OwnLines.more {l} {e} {t} one end m) (OwnLines.first other) same no_x no_y long_x long_y =
      let whole : (l ++ (e ++ t)) ++ x ≡ l ++ (e ++ (t ++ x)) = simp append_assoc in
      absurd (no_y e (t ++ x) x (text_line other one (sym same ∙ whole)).0 end (own_rest m) long_x)
  ends_one r {x = x} {y = y} (OwnLines.more {l} {e} {t} one end m)
      (OwnLines.more {l = k} {e = d} {t = s} other le n) same no_x no_y long_x long_y =
      let here : (l ++ (e ++ t)) ++ x ≡ l ++ (e ++ (t ++ x)) = simp append_assoc in
      let there : (k ++ (d ++ s)) ++ y ≡ k ++ (d ++ (s ++ y)) = simp append_assoc in
      let seam = line_end_one end le (line_one one other (sym here ∙ same ∙ there)).0 in
      rest_one r no_x no_y long_x long_y (own_rest m) (subst (OwnRest o y) (sym seam) (own_rest n))

  -- what follows a value's own lines closes them, or begins a note
  last_follows : {t r : Text} → LastLine o t r → TextEnds o r
  last_follows (LastLine.last goes ln some) = text_ends ln
  last_follows (LastLine.empty_lf m) = last_follows m
  last_follows (LastLine.empty_cr_lf m) = last_follows m
  last_follows (LastLine.continued goes ln end m) = last_follows m
  last_follows (LastLine.comment noted end m) = last_follows m

  pub own_follows : {a x : Text} → OwnLines o a x → TextEnds o x
  own_follows (OwnLines.first ln) = text_ends ln
  own_follows (OwnLines.more ln end m) = last_follows m

  -- and so do a value's own lines
  text_blank : {first : Bool} {l v y : Text} {m : ℕ} → is_comment_mark m ≡ true
      → LineText o first l (m ∷ y) v → (f : Text) → is_blank (last_or line_feed (f ++ l)) ≡ true
  text_blank mark (LineText.text {q = q} {p = p} quoted plain str) f =
      subst (λ z. is_blank (last_or line_feed z) ≡ true) (append_assoc f q p) (str_blank o mark str (f ++ q))

  last_blank : {t y : Text} {m : ℕ} → is_comment_mark m ≡ true → LastLine o t (m ∷ y) → (f : Text)
      → is_blank (last_or line_feed (f ++ t)) ≡ true
  last_blank mark (LastLine.last {w} {l} goes ln some) f =
      subst (λ z. is_blank (last_or line_feed z) ≡ true) (append_assoc f w l) (text_blank mark ln (f ++ w))
  last_blank mark (LastLine.empty_lf {t} m) f =
      subst (λ z. is_blank (last_or line_feed z) ≡ true) (append_assoc f (line_feed ∷ []) t)
      (last_blank mark m (f ++ line_feed ∷ []))
  last_blank mark (LastLine.empty_cr_lf {t} m) f =
      subst (λ z. is_blank (last_or line_feed z) ≡ true) (append_assoc f (carriage_return ∷ line_feed ∷ []) t)
      (last_blank mark m (f ++ carriage_return ∷ line_feed ∷ []))
  last_blank mark (LastLine.continued {w} {l} {e} {t} goes ln end m) f =
      let whole : (f ++ (w ++ (l ++ e))) ++ t ≡ f ++ (w ++ (l ++ (e ++ t))) = simp append_assoc in
      subst (λ z. is_blank (last_or line_feed z) ≡ true) whole (last_blank mark m (f ++ (w ++ (l ++ e))))
  last_blank mark (LastLine.comment {s} {e} {t} noted end m) f =
      let whole : (f ++ (s ++ e)) ++ t ≡ f ++ (s ++ (e ++ t)) = simp append_assoc in
      subst (λ z. is_blank (last_or line_feed z) ≡ true) whole (last_blank mark m (f ++ (s ++ e)))

  pub own_blank : {a y : Text} {m : ℕ} → is_comment_mark m ≡ true → OwnLines o a (m ∷ y)
      → is_blank (last_or line_feed a) ≡ true
  own_blank mark (OwnLines.first ln) = text_blank mark ln []
  own_blank mark (OwnLines.more {l} {e} {t} ln end m) =
      subst (λ z. is_blank (last_or line_feed z) ≡ true) (append_assoc l e t) (last_blank mark m (l ++ e))

  -- the lines that are a value's own, before a note and those that add nothing
  pub own_one : {a m t b n s r : Text} → OwnLines o a (m ++ (t ++ r)) → LineTail m (t ++ r)
      → TrailingLines o t r → OwnLines o b (n ++ (s ++ r)) → LineTail n (s ++ r) → TrailingLines o s r
      → a ++ (m ++ (t ++ r)) ≡ b ++ (n ++ (s ++ r)) → a ≡ b
  own_one {a} {m} {t} {b} {n} {s} {r} one first tail other next after same =
      let long_x : length r ≤ length (m ++ (t ++ r)) =
      omega (arith, length-append m (t ++ r), length-append t r) in
      let long_y : length r ≤ length (n ++ (s ++ r)) =
      omega (arith, length-append n (s ++ r), length-append s r) in
      let ends : m ++ (t ++ r) ≡ n ++ (s ++ r) =
      ends_one r one other same
      (trailing_ends (m ++ (t ++ r)) (tail_read o m (t ++ r) first (own_follows one)) tail)
      (trailing_ends (n ++ (s ++ r)) (tail_read o n (s ++ r) next (own_follows other)) after) long_x long_y in
      append_cancel_right a b (m ++ (t ++ r)) (same ∙ ap (λ x. b ++ x) (sym ends))
