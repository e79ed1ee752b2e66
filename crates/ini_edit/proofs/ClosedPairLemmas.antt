-- A pair that is closed: the last backslash of its value, or of a key alone, where that would take what is
-- put in after it, stands for itself.
use Rattle.std.proofs.Common.{◌≡◌, ◌≢◌, ◌∙◌, ℕ, Bool, true, false, ◌&&◌, if◌then◌else◌}
use Rattle.std.proofs.Common.{[], ◌∷◌, ◌++◌, ap, ap₂, append_assoc, append-nil, refl, subst, sym}
use Rattle.std.proofs.lemmas.Bool.{and_parts, and_right, cond-false}
use Rattle.std.specs.List.{list_all}
use Rattle.std.specs.Prelude.{None, Some, is_some}
use Rattle.ini_text.specs.Grammar.CharacterKinds.{backslash, is_inline_white, space, BeginsWithNo}
use Rattle.ini_text.specs.Grammar.Lines.{LineTail}
use Rattle.ini_text.specs.Grammar.Places.{LastLine, OwnLines, Stretches, TrailingLines}
use Rattle.ini_text.specs.Grammar.Strings.{Closes, plain_ends}
use Rattle.ini_text.specs.Grammar.Values.{LineEnd, MoreLines, Value}
use Rattle.ini_text.specs.Options.WriteOptions.{line_end}
use Rattle.ini_text.specs.declared.option.ParseOption.{ParseOption}
use Rattle.ini_text.specs.declared.write.option.LineSeparator.{LineSeparator}
use Rattle.ini_text.proofs.LawLemmas.OneAheadLemmas.{Alike, Alike-some, CommentLine-before, EndedLine-before}
use Rattle.ini_text.proofs.LawLemmas.OneAheadLemmas.{GoesOn-before, Line-alike, LineEnd-alike}
use Rattle.ini_text.proofs.PlainLemmas.PlainPairLemmas.{line_end-is}
use Rattle.ini_text.proofs.ReaderLemmas.ValueReaderLemmas.{line_end-some}
use Rattle.ini.specs.Texts.{Text}
use Rattle.ini_edit.specs.Endings.{Closing, Ending, ending, ending_from}
use Rattle.ini_edit.specs.Inside.Spans.{IsPair, IsValuePair}
use Rattle.ini_edit.specs.Places.{Follows}
use Rattle.ini_edit.specs.SourceEditsAdd.{closed, closed_word, is_escape}
use Rattle.ini_edit.specs.SourceLines.{is_empty}
use Rattle.ini_edit.specs.SourcePlaces.{last_word, with_last_word, with_raw_key, with_raw_value}
use Rattle.ini_edit.specs.Sources.{PairPiece}
use Rattle.ini_edit.proofs.ClosedKeyLemmas.{lone_closed}
use Rattle.ini_edit.proofs.EndingLemmas.{ending-after, ending-lead, ending-white}
use Rattle.ini_edit.proofs.EndingLemmas.{ending_from-append, inline_inner}
use Rattle.ini_edit.proofs.GluedLemmas.{closing_after, closing_end, closing_past, goes_on_glued}
use Rattle.ini_edit.proofs.GluedLemmas.{line_value_glued, text_glued}
use Rattle.ini_edit.proofs.LinesGluedLemmas.{lines_glued}
use Rattle.ini_edit.proofs.InsertedLemmas.{line_end-closes}
use Rattle.ini_edit.proofs.OwnBeforeLemmas.{last_length}
use Rattle.ini_edit.proofs.PairViewLemmas.{lone_parts}
use Rattle.ini_edit.proofs.ReadAsLemmas.{pair_lined}

-- after a line end
closing_line : {o : ParseOption} {e y c : Text} (t : Text) → LineEnd e y
    → Closing o (ending_from o Ending.inside (e ++ t)) c → Closing o (ending_from o Ending.line t) c
closing_line t LineEnd.lf k = k
closing_line t LineEnd.cr_lf k = k
closing_line t (LineEnd.cr n) k = closing_after t k

-- own lines with what closes them, before what closes a line
module _ {o : ParseOption} {c : Text} (y : Text) (closes : Closes plain_ends y) where
  last_glued : {t r : Text} → LastLine o t r → Closing o (ending_from o Ending.line t) c
      → LastLine o (t ++ c) y
  last_glued (LastLine.last {w} {l} {r} goes ln some) k =
      let following : Closing o (ending_from o Ending.inside l) c =
      subst (λ z. Closing o z c) (ending-lead o Ending.line w l goes.begins goes.lead.white) k in
      subst (λ s. LastLine o s y) (sym (append_assoc w l c))
      (LastLine.last (goes_on_glued y closes l r goes following) (text_glued y closes ln following) some)
  last_glued (LastLine.empty_lf m) k = LastLine.empty_lf (last_glued m k)
  last_glued (LastLine.empty_cr_lf m) k = LastLine.empty_cr_lf (last_glued m k)
  last_glued (LastLine.continued {w} {l} {e} {t} {r} goes ln end m) k =
      let following : Closing o (ending_from o Ending.inside (e ++ t)) c =
      closing_past Ending.inside l t end
      (subst (λ z. Closing o z c) (ending-lead o Ending.line w (l ++ (e ++ t)) goes.begins goes.lead.white) k)
      in
      let alike : Alike (t ++ r) ((t ++ c) ++ y) =
      subst (Alike (t ++ r)) (sym (append_assoc t c y)) (Alike-some t r (c ++ y) (last_length m)) in
      let n =
      EndedLine-before (LineEnd-alike alike end) (record { lead = goes.lead; line = ln; end = end }) in
      let seam : w ++ (l ++ (e ++ (t ++ c))) ≡ (w ++ (l ++ (e ++ t))) ++ c = simp append_assoc in
      subst (λ s. LastLine o s y) seam
      (LastLine.continued (GoesOn-before l ((t ++ c) ++ y) end goes) n.line n.end
      (last_glued m (closing_line t end following)))
  last_glued (LastLine.comment {s} {e} {t} {r} line end m) k =
      let following : Closing o (ending_from o Ending.inside (e ++ t)) c = closing_end s t end k in
      let alike : Alike (t ++ r) ((t ++ c) ++ y) =
      subst (Alike (t ++ r)) (sym (append_assoc t c y)) (Alike-some t r (c ++ y) (last_length m)) in
      let seam : s ++ (e ++ (t ++ c)) ≡ (s ++ (e ++ t)) ++ c = simp append_assoc in
      subst (λ s. LastLine o s y) seam
      (LastLine.comment (CommentLine-before ((t ++ c) ++ y) end line) (LineEnd-alike alike end)
      (last_glued m (closing_line t end following)))

  pub own_glued : {s r : Text} → OwnLines o s r → Closing o (ending_from o Ending.inside s) c
      → OwnLines o (s ++ c) y
  own_glued (OwnLines.first ln) k = OwnLines.first (text_glued y closes ln k)
  own_glued (OwnLines.more {l} {e} {t} {r} ln end m) k =
      let following : Closing o (ending_from o Ending.inside (e ++ t)) c = closing_past Ending.inside l t end k in
      let alike : Alike (t ++ r) ((t ++ c) ++ y) =
      subst (Alike (t ++ r)) (sym (append_assoc t c y)) (Alike-some t r (c ++ y) (last_length m)) in
      let seam : l ++ (e ++ (t ++ c)) ≡ (l ++ (e ++ t)) ++ c = simp append_assoc in
      subst (λ s. OwnLines o s y) seam
      (OwnLines.more (Line-alike (Alike-some e (t ++ r) ((t ++ c) ++ y) (line_end-some end)) ln)
      (LineEnd-alike alike end) (last_glued m (closing_line t end following)))

-- what closes a value that ends so
abbrev pub closing_of : ParseOption → Ending → Text
closing_of o Ending.inside = []
closing_of o Ending.escape = (if o.enabled_escape then backslash else space) ∷ []
closing_of o Ending.line = []

pub is_closing : (o : ParseOption) (e : Ending) → Closing o e (closing_of o e)
is_closing o Ending.inside = Closing.within
is_closing o Ending.line = Closing.after_line
is_closing o Ending.escape = at o.enabled_escape refl
  where
    at : (b : Bool) → o.enabled_escape ≡ b
        → Closing o Ending.escape ((if b then backslash else space) ∷ [])
    at true on = Closing.by_backslash on
    at false off = Closing.by_space off

closes_itself : (o : ParseOption) (raw : Text) (e : Ending) → ending o raw ≡ e
    → ending o (raw ++ closing_of o e) ≢ Ending.escape
closes_itself o raw Ending.inside is h =
    absurd (let no : Ending.inside ≡ Ending.escape = sym is ∙ ap (ending o) (sym (append-nil raw)) ∙ h in cc)
closes_itself o raw Ending.line is h =
    absurd (let no : Ending.line ≡ Ending.escape = sym is ∙ ap (ending o) (sym (append-nil raw)) ∙ h in cc)
closes_itself o raw Ending.escape is h =
    let same : ending o (raw ++ closing_of o Ending.escape) ≡ Ending.inside =
    ending_from-append o Ending.line raw (closing_of o Ending.escape)
    ∙ ap (λ e. ending_from o e (closing_of o Ending.escape)) is in
    absurd (let no : Ending.inside ≡ Ending.escape = sym same ∙ h in cc)

word_ends : (o : ParseOption) (word : Text)
    → Closing o (ending_from o Ending.inside word) (closing_of o (ending o word))
word_ends o [] = Closing.within
word_ends o (c ∷ cs) = is_closing o (ending o (c ∷ cs))

-- a value's source, with white space around it, ends as that: where a backslash would take what follows no
-- white space is after it
source_ends : {o : ParseOption} (w raw pad : Text) → list_all is_inline_white w ≡ true
    → list_all is_inline_white pad ≡ true → (ending o raw ≡ Ending.escape → pad ≡ [])
    → Closing o (ending_from o Ending.inside (w ++ (raw ++ pad))) (closing_of o (ending o raw))
source_ends {o} w raw pad white white_pad closed =
    subst (λ e. Closing o e (closing_of o (ending o raw))) (sym (ending-white o w (raw ++ pad) white)) (at
    pad white_pad closed)
  where
    none : (e : Ending) → (e ≡ Ending.escape → ⊥) → closing_of o e ≡ []
    none Ending.inside apart = refl
    none Ending.line apart = refl
    none Ending.escape apart = absurd (apart refl)

    at : (pad : Text) → list_all is_inline_white pad ≡ true → (ending o raw ≡ Ending.escape → pad ≡ [])
        → Closing o (ending_from o Ending.inside (raw ++ pad)) (closing_of o (ending o raw))
    at [] white closed =
        subst (λ z. Closing o (ending_from o Ending.inside z) (closing_of o (ending o raw))) (sym
        (append-nil raw))
        (word_ends o raw)
    at (c ∷ pad) white closed =
        let parts = and_parts (is_inline_white c) (list_all is_inline_white pad) white in
        let ends : ending_from o Ending.inside (raw ++ c ∷ pad) ≡ Ending.inside =
        ending-after o Ending.inside raw c pad (inline_inner o c parts.0)
        ∙ ap (ending_from o Ending.inside) (sym (append-nil pad)) ∙ ending-white o pad [] parts.1 in
        let nothing : closing_of o (ending o raw) ≡ [] =
        none (ending o raw) (λ e. let no : c ∷ pad ≡ [] = closed e in cc) in
        subst (λ k. Closing o (ending_from o Ending.inside (raw ++ c ∷ pad)) k) (sym nothing)
        (subst (λ e. Closing o e []) (sym ends) Closing.within)

-- the stretches of a pair that is closed, unless it has a note
abbrev pub closed_stretches : ParseOption → Stretches → Stretches
closed_stretches o p =
    if is_empty p.note
    then (if is_some p.separator
    then record p { raw_value = p.raw_value ++ closing_of o (ending o p.raw_value) }
    else record p { key = p.key ++ closing_of o (ending o p.key) })
    else p

-- what its key has more
abbrev pub key_closing : ParseOption → Stretches → Text
key_closing o p =
    if is_empty p.note then (if is_some p.separator then [] else closing_of o (ending o p.key)) else []

module _ (o : ParseOption) (p : Stretches) where
  abbrev closed_by : (n b : Bool) → Stretches
  closed_by n b =
      if n
      then (if b then record p { raw_value = p.raw_value ++ closing_of o (ending o p.raw_value) }
      else record p { key = p.key ++ closing_of o (ending o p.key) })
      else p

  pub closed_key : (closed_stretches o p).key ≡ p.key ++ key_closing o p
  closed_key = at (is_empty p.note) (is_some p.separator)
    where
      at : (n b : Bool) → (closed_by n b).key
          ≡ p.key ++ (if n then (if b then [] else closing_of o (ending o p.key)) else [])
      at true true = sym (append-nil p.key)
      at true false = refl
      at false b = sym (append-nil p.key)

  -- what else it has stays
  pub closed_tail : (closed_stretches o p).trailing_lines ≡ p.trailing_lines
  closed_tail = at (is_empty p.note) (is_some p.separator)
    where
      at : (n b : Bool) → (closed_by n b).trailing_lines ≡ p.trailing_lines
      at true true = refl
      at true false = refl
      at false b = refl

  pub closed_separator : (closed_stretches o p).separator ≡ p.separator
  closed_separator = at (is_empty p.note) (is_some p.separator)
    where
      at : (n b : Bool) → (closed_by n b).separator ≡ p.separator
      at true true = refl
      at true false = refl
      at false b = refl

pub closed_same : (o : ParseOption) (p : PairPiece)
    → ((closed o p).key ≡ p.key) × ((closed o p).value ≡ p.value)
closed_same o p = at (is_some p.stretches.separator)
  where
    at : (b : Bool)
        → ((if b then with_raw_value (closed_word o p) p else with_raw_key (closed_word o p) p).key ≡ p.key)
        × ((if b then with_raw_value (closed_word o p) p else with_raw_key (closed_word o p) p).value
        ≡ p.value)
    at true = (refl, refl)
    at false = (refl, refl)

-- a pair with its own last word is the same
pub same_word : (p : PairPiece) → with_last_word (last_word p) p ≡ p
same_word p = at (is_some p.stretches.separator)
  where
    at : (b : Bool) → (let word = if b then p.stretches.raw_value else p.stretches.key in
        if b then with_raw_value word p else with_raw_key word p) ≡ p
    at true = refl
    at false = refl

word_is : (o : ParseOption) (p : PairPiece) → p.stretches.trailing_lines ≡ [] → p.after ≡ []
    → (if is_empty p.stretches.trailing_lines && (is_empty p.after && is_escape (ending o (last_word p)))
    then last_word p ++ (if o.enabled_escape then backslash else space) ∷ [] else last_word p)
    ≡ last_word p ++ closing_of o (ending o (last_word p))
word_is o p none nothing =
    let word = last_word p in
    let slash = word ++ (if o.enabled_escape then backslash else space) ∷ [] in
    ap (λ t. if is_empty t && (is_empty p.after && is_escape (ending o word)) then slash else word) none
    ∙ ap (λ t. if is_empty t && is_escape (ending o word) then slash else word) nothing
    ∙ at word (ending o word)
  where
    at : (word : Text) (e : Ending)
        → (if is_escape e then word ++ (if o.enabled_escape then backslash else space) ∷ [] else word)
        ≡ word ++ closing_of o e
    at word Ending.inside = sym (append-nil word)
    at word Ending.escape = refl
    at word Ending.line = sym (append-nil word)

pub closed_is : (o : ParseOption) (p : PairPiece) → p.stretches.trailing_lines ≡ [] → p.after ≡ []
    → closed o p ≡ record p { stretches = closed_stretches o p.stretches }
closed_is o p none nothing = by (is_empty p.stretches.note)
  where
    at : (b : Bool) → (let word = if b then p.stretches.raw_value else p.stretches.key in
        let shut = word ++ closing_of o (ending o word) in
        if b then with_raw_value shut p else with_raw_key shut p)
        ≡ record p { stretches = closed_by o p.stretches true b }
    at true = refl
    at false = refl

    by : (n : Bool) → with_last_word
        (if n && (is_empty p.stretches.trailing_lines && (is_empty p.after
        && is_escape (ending o (last_word p))))
        then last_word p ++ (if o.enabled_escape then backslash else space) ∷ [] else last_word p) p
        ≡ record p { stretches = closed_by o p.stretches n (is_some p.stretches.separator) }
    by true = ap (λ w. with_last_word w p) (word_is o p none nothing) ∙ at (is_some p.stretches.separator)
    by false = same_word p

pub stays_open : (o : ParseOption) (p : PairPiece)
    → (is_empty p.stretches.trailing_lines && is_empty p.after) ≡ false → closed o p ≡ p
stays_open o p some =
    let word = last_word p in
    let rest = is_empty p.stretches.trailing_lines && (is_empty p.after && is_escape (ending o word)) in
    ap (λ w. with_last_word w p)
    (cond-false (is_empty p.stretches.note && rest) _ _ (and_right (is_empty p.stretches.note) rest
    (at (is_empty p.stretches.trailing_lines) (is_empty p.after) (is_escape (ending o word)) some)))
    ∙ same_word p
  where
    at : (x y z : Bool) → (x && y) ≡ false → (x && (y && z)) ≡ false
    at true true z h = absurd (let no : true ≡ false = h in cc)
    at true false z h = refl
    at false y z h = refl

starts_closed : (o : ParseOption) (raw : Text) → BeginsWithNo is_inline_white raw
    → BeginsWithNo is_inline_white (raw ++ closing_of o (ending o raw))
starts_closed o [] h = tt
starts_closed o (c ∷ raw) h = h

-- what closes a value stands before white space as after it
closing_moved : (o : ParseOption) (e : Ending) (pad : Text) → (e ≡ Ending.escape → pad ≡ [])
    → pad ++ closing_of o e ≡ closing_of o e ++ pad
closing_moved o Ending.inside pad closed = append-nil pad
closing_moved o Ending.line pad closed = append-nil pad
closing_moved o Ending.escape pad closed =
    let none = closed refl in
    ap (λ z. z ++ closing_of o Ending.escape) none
    ∙ sym (append-nil (closing_of o Ending.escape))
    ∙ ap (λ z. closing_of o Ending.escape ++ z) (sym none)

-- a value without a note
module _ {o : ParseOption} {c : ℕ} {p : Stretches} {key value r : Text}
    (is : IsValuePair o c p key value r) (none : p.trailing_lines ≡ []) (bare : p.note ≡ []) where
  abbrev k : Text
  k = closing_of o (ending o p.raw_value)

  -- the value up to where it is closed
  shut : (w : Text) → w ++ ((p.raw_value ++ p.space_after) ++ k) ≡ w ++ ((p.raw_value ++ k) ++
      p.space_after)
  shut w = ap (λ z. w ++ z)
      (append_assoc p.raw_value p.space_after k
      ∙ ap (λ z. p.raw_value ++ z) (closing_moved o (ending o p.raw_value) p.space_after is.closed)
      ∙ sym (append_assoc p.raw_value k p.space_after))

  given : Value o (p.space_before ++ (p.raw_value ++ p.space_after)) r value
  given = subst (λ s. Value o s r value)
      (ap₂ (λ n t. p.space_before ++ (p.raw_value ++ (p.space_after ++ (n ++ t)))) bare none
      ∙ ap (λ t. p.space_before ++ (p.raw_value ++ t)) (append-nil p.space_after)) is.gives

  ends : Closing o (ending_from o Ending.inside (p.space_before ++ (p.raw_value ++ p.space_after))) k
  ends = source_ends p.space_before p.raw_value p.space_after is.white_before is.white_after is.closed

  shut_lines : (y : Text) → Closes plain_ends y → OwnLines o ((p.raw_value ++ k) ++ p.space_after) (p.note ++ y)
  shut_lines y closes =
      subst (λ n. OwnLines o ((p.raw_value ++ k) ++ p.space_after) (n ++ y)) (sym bare)
      (subst (λ s. OwnLines o s y) (shut [])
      (own_glued y closes is.own_lines
      (source_ends [] p.raw_value p.space_after refl is.white_after is.closed)))

  no_tail : (y : Text) → Closes plain_ends y → LineTail p.note y
  no_tail y closes = subst (λ n. LineTail n y) (sym bare) (LineTail.none closes)

  never : ending o (p.raw_value ++ k) ≡ Ending.escape → p.space_after ≡ []
  never e = absurd (closes_itself o p.raw_value (ending o p.raw_value) refl e)

  value_ended : (sep : LineSeparator) (x : Text) → o.enabled_indented_mutiline_value ≡ true → Follows o x
      → IsValuePair o c (record p { raw_value = p.raw_value ++ k; trailing_lines = line_end sep }) key value x
  value_ended sep x on follows = record {
    separator = is.separator;
    separator_is = is.separator_is;
    key_front = is.key_front;
    some = is.some;
    separates = is.separates;
    gives = subst (λ s. Value o s x value)
        (sym (append_assoc (p.space_before ++ (p.raw_value ++ p.space_after)) k (line_end sep))
        ∙ ap (λ z. z ++ line_end sep)
        (append_assoc p.space_before (p.raw_value ++ p.space_after) k ∙ shut p.space_before)
        ∙ append_assoc p.space_before ((p.raw_value ++ k) ++ p.space_after) (line_end sep)
        ∙ ap (λ z. p.space_before ++ z) (append_assoc (p.raw_value ++ k) p.space_after (line_end sep))
        ∙ ap (λ n. p.space_before ++ ((p.raw_value ++ k) ++ (p.space_after ++ (n ++ line_end sep)))) (sym bare))
        (lines_glued sep follows on k given ends);
    white_before = is.white_before;
    starts = starts_closed o p.raw_value is.starts;
    white_after = is.white_after;
    are_trailing = subst (λ t. TrailingLines o t x) (append-nil (line_end sep))
        (TrailingLines.lines on (line_end-is sep x)
        (MoreLines.done (follows.no_blank on) (follows.no_line_end on)) refl);
    own_lines = shut_lines (line_end sep ++ x) (line_end-closes sep x);
    note = no_tail (line_end sep ++ x) (line_end-closes sep x);
    unnoted = λ _. bare;
    closed = never;
  }

  -- where values are in one line it may be closed by any line end
  value_closed : (y : Text) → o.enabled_indented_mutiline_value ≡ false → Closes plain_ends y
      → IsValuePair o c (record p { raw_value = p.raw_value ++ k }) key value y
  value_closed y off closes = record {
    separator = is.separator;
    separator_is = is.separator_is;
    key_front = is.key_front;
    some = is.some;
    separates = is.separates;
    gives = subst (λ s. Value o s y value)
        (append_assoc p.space_before (p.raw_value ++ p.space_after) k ∙ shut p.space_before
        ∙ ap (λ t. p.space_before ++ ((p.raw_value ++ k) ++ t)) (sym (append-nil p.space_after))
        ∙ ap₂ (λ n t. p.space_before ++ ((p.raw_value ++ k) ++ (p.space_after ++ (n ++ t)))) (sym bare) (sym none))
        (line_value_glued y closes off given ends);
    white_before = is.white_before;
    starts = starts_closed o p.raw_value is.starts;
    white_after = is.white_after;
    are_trailing = subst (λ t. TrailingLines o t y) (sym none) (TrailingLines.line off closes);
    own_lines = subst (λ t. OwnLines o ((p.raw_value ++ k) ++ p.space_after) (p.note ++ (t ++ y))) (sym none)
        (shut_lines y closes);
    note = subst (λ t. LineTail p.note (t ++ y)) (sym none) (no_tail y closes);
    unnoted = λ _. bare;
    closed = never;
  }

-- the stretches are those of a value that is closed, or has a note
module _ (o : ParseOption) (p : Stretches) where
  bare_closed : p.note ≡ [] → is_some p.separator ≡ true
      → closed_stretches o p ≡ record p { raw_value = p.raw_value ++ closing_of o (ending o p.raw_value) }
  bare_closed bare has = ap₂ (closed_by o p) (ap is_empty bare) has

  noted_closed : (m : ℕ) (n : Text) → p.note ≡ m ∷ n → closed_stretches o p ≡ p
  noted_closed m n some = ap (λ b. closed_by o p b (is_some p.separator)) (ap is_empty some)

  key_shut : p.note ≡ [] → is_some p.separator ≡ false
      → closed_stretches o p ≡ record p { key = p.key ++ closing_of o (ending o p.key) }
  key_shut bare lacks = ap₂ (closed_by o p) (ap is_empty bare) lacks

module _ {o : ParseOption} {c : ℕ} {p : Stretches} {key value r : Text}
    (is : IsValuePair o c p key value r) (none : p.trailing_lines ≡ []) where
  noted_so : {m : ℕ} {n t x : Text} → p.note ≡ m ∷ n → TrailingLines o t x
      → IsPair o c (record (closed_stretches o p) { trailing_lines = t }) key value x
  noted_so {m} {n} {t} {x} some tail =
      subst (λ q. IsPair o c (record q { trailing_lines = t }) key value x) (sym (noted_closed o p m n some))
      (IsPair.has_value (pair_lined is (ap (λ z. z ++ (p.trailing_lines ++ r)) some) tail))

  -- a multiline value that ends the text is closed by a line end, and what may follow it follows
  pub pair_ended : (sep : LineSeparator) (x : Text) → o.enabled_indented_mutiline_value ≡ true → Follows o x
      → IsPair o c (record (closed_stretches o p) { trailing_lines = line_end sep }) key value x
  pair_ended sep x on follows = at p.note refl
    where
      at : (n : Text) → p.note ≡ n
          → IsPair o c (record (closed_stretches o p) { trailing_lines = line_end sep }) key value x
      at [] bare =
          subst (λ q. IsPair o c (record q { trailing_lines = line_end sep }) key value x)
          (sym (bare_closed o p bare (ap is_some is.separator_is)))
          (IsPair.has_value (value_ended is none bare sep x on follows))
      at (m ∷ n) some =
          noted_so some (subst (λ t. TrailingLines o t x) (append-nil (line_end sep))
          (TrailingLines.lines on (line_end-is sep x)
          (MoreLines.done (follows.no_blank on) (follows.no_line_end on)) refl))

  line_shut : (y : Text) → o.enabled_indented_mutiline_value ≡ false → Closes plain_ends y
      → IsPair o c (closed_stretches o p) key value y
  line_shut y off closes = at p.note refl
    where
      trailing : TrailingLines o p.trailing_lines y
      trailing = subst (λ t. TrailingLines o t y) (sym none) (TrailingLines.line off closes)

      at : (n : Text) → p.note ≡ n → IsPair o c (closed_stretches o p) key value y
      at [] bare =
          subst (λ q. IsPair o c q key value y) (sym (bare_closed o p bare (ap is_some is.separator_is)))
          (IsPair.has_value (value_closed is none bare y off closes))
      at (m ∷ n) some =
          subst (λ q. IsPair o c q key value y) (sym (noted_closed o p m n some))
          (IsPair.has_value (pair_lined is (ap (λ z. z ++ (p.trailing_lines ++ r)) some) trailing))

-- and so may a key alone, where values are multiline too
pub pair_closed : {o : ParseOption} {c : ℕ} {p : Stretches} {key value r : Text} → IsPair o c p key value r
    → p.trailing_lines ≡ [] → (y : Text)
    → (o.enabled_indented_mutiline_value && is_some p.separator) ≡ false → Closes plain_ends y
    → IsPair o c (closed_stretches o p) key value y
pair_closed {o} (IsPair.has_value is) none y off closes =
    line_shut is none y
    (single o.enabled_indented_mutiline_value
    (ap (λ s. o.enabled_indented_mutiline_value && is_some s) (sym is.separator_is) ∙ off)) closes
  where
    single : (b : Bool) → (b && true) ≡ false → b ≡ false
    single true h = h
    single false h = refl
pair_closed {o} {c} {p} {key} {value} (IsPair.is_lone is) none y off closes =
    subst (λ q. IsPair o c q key value y)
    (sym (key_shut o p (lone_parts is.lone).note (ap is_some is.lone.no_separator)))
    (IsPair.is_lone (lone_closed y closes is (word_ends o p.key)))
