-- A value that is read back from a line of its own is read so in a pair's place too: between white space,
-- before what is kept after it.
use Rattle.std.proofs.Common.{◌≡◌, ◌≢◌, ◌∙◌, ℕ, true, false, [], ◌∷◌, ◌++◌, append-nil, append_assoc, None}
use Rattle.std.proofs.Common.{Some, ap, arith, inl, inr, length, length-append, refl, subst, subst₂, sym}
use Rattle.std.proofs.lemmas.Bool.{and_parts, both_ways, cases_Bool}
use Rattle.std.specs.List.{list_all}
use Rattle.ini_text.specs.declared.option.ParseOption.{ParseOption}
use Rattle.ini_text.specs.Grammar.CharacterKinds.{BeginsWithNo, begins, equals, is_comment_mark}
use Rattle.ini_text.specs.Grammar.CharacterKinds.{is_inline_white, is_line_feed, line_feed}
use Rattle.ini_text.specs.Grammar.Lines.{Line, LineTail, LineText, Note, Quoted}
use Rattle.ini_text.specs.Grammar.Places.{FollowsKey, HasValue, LastLine, OwnLines, Stretches, TrailingLines}
use Rattle.ini_text.specs.Grammar.Strings.{Closes, Row, Str, plain_ends}
use Rattle.ini_text.specs.Grammar.Values.{GoesOn, LineEnd, MoreLines, Value}
use Rattle.ini_text.specs.Grammar.WhiteSpace.{Lead, without_outer_line_feeds}
use Rattle.ini_text.specs.Inside.Reading.{found}
use Rattle.ini_text.specs.Inside.ValueReader.{value as read}
use Rattle.ini_text.proofs.LawLemmas.OneAheadLemmas.{Alike, Alike-after, Alike-some, BeginsWithNo-alike}
use Rattle.ini_text.proofs.LawLemmas.OneAheadLemmas.{CommentLine-before, EndedLine-before}
use Rattle.ini_text.proofs.LawLemmas.OneAheadLemmas.{GoesOn-before, Line-alike, LineEnd-alike}
use Rattle.ini_text.proofs.ReaderLemmas.ValueReaderLemmas.{line_end-some, value-reads}
use Rattle.ini.specs.Texts.{Text}
use Rattle.ini_edit.specs.Endings.{Ending, ending}
use Rattle.ini_edit.specs.Inside.Quotes.{IsOwnSource}
use Rattle.ini_edit.specs.Inside.Spans.{IsValuePair}
use Rattle.ini_edit.specs.SourceWritten.{IsReadAs, tried_line}
use Rattle.ini_edit.proofs.ClosedLemmas.{escape_inside, own_ends}
use Rattle.ini_edit.proofs.CommentedLineLemmas.{closes_no_comment}
use Rattle.ini_edit.proofs.GluedLemmas.{feeds_after}
use Rattle.ini_edit.proofs.OwnBeforeLemmas.{IsWhite, Stands, alike_padded, goes_padded, last_length}
use Rattle.ini_edit.proofs.OwnBeforeLemmas.{last_some, own_alike, own_padded, padded}
use Rattle.ini_edit.proofs.PadLemmas.{starts_front}
use Rattle.ini_edit.proofs.ValueLemmas.{closes_no_inline, closes_no_mark, tail_closes}

-- white space, a note and lines after a value's own ones, before which x stood, and before r
pub record Tail (o : ParseOption) (x pad n t r : Text) : Type 0 where
  pub white : IsWhite pad
  pub note : LineTail n (t ++ r)
  pub trailing : TrailingLines o t r
  pub stands : Stands o x pad (n ++ (t ++ r))

-- no note
pub bare_tail : {o : ParseOption} (x pad : Text) {t r : Text} → IsWhite pad → TrailingLines o t r
    → Tail o x pad [] t r
bare_tail x pad white trailing = record {
  white = white;
  note = LineTail.none (tail_closes trailing);
  trailing = trailing;
  stands = Stands.at_end (tail_closes trailing);
}

-- before other lines that stand so
ended : {o : ParseOption} {x pad n r : Text} (e t : Text) → Tail o x pad n (e ++ t) r
    → LineTail n (e ++ (t ++ r)) × Stands o x pad (n ++ (e ++ (t ++ r)))
ended {o} {x} {pad} {n} {r} e t tail = (
  subst (LineTail n) (append_assoc e t r) tail.note,
  subst (λ z. Stands o x pad (n ++ z)) (append_assoc e t r) tail.stands,
)

-- an empty text has no note
no_note : {o : ParseOption} {x pad n t r : Text} (l : Text) → Tail o x pad n t r → (l ≡ [] → n ≡ [])
    → l ≡ [] → begins is_comment_mark (n ++ (t ++ r)) ≡ false
no_note {t = t} {r} l tail some none =
    subst (λ z. begins is_comment_mark (z ++ (t ++ r)) ≡ false) (sym (some none))
    (begins_none (t ++ r) (tail_closes tail.trailing))
  where
    begins_none : (z : Text) → Closes plain_ends z → begins is_comment_mark z ≡ false
    begins_none [] h = refl
    begins_none (c ∷ z) h = closes_no_comment (c ∷ z) h

regroup : (w l pad n t : Text) → (w ++ (l ++ pad)) ++ (n ++ t) ≡ w ++ (l ++ (pad ++ (n ++ t)))
regroup w l pad n t = simp append_assoc

-- the lines after the first of a value's own ones, before x: with white space, a note and lines that are kept
-- after them they give line feeds alone beyond this
record Later (o : ParseOption) (x s : Text) : Type 0 where
  given : Text
  goes : (n t r pad : Text) → Tail o x pad n t r
      → (v : Text) × (list_all is_line_feed v ≡ true)
      × MoreLines o (s ++ (pad ++ (n ++ t))) r (given ++ v)

-- the same of all of them
record Own (o : ParseOption) (x s : Text) : Type 0 where
  given : Text
  value : (w n t r pad : Text) → IsWhite w → Tail o x pad n t r → (s ≡ [] → n ≡ [])
      → Value o (w ++ (s ++ (pad ++ (n ++ t)))) r (without_outer_line_feeds given)

module _ {o : ParseOption} (on : o.enabled_indented_mutiline_value ≡ true) where
  module _ {w l x u : Text} {c : ℕ} (goes : GoesOn o w (l ++ c ∷ x)) (ln : LineText o false l (c ∷ x) u)
      (some : list_all is_line_feed u ≡ false) where
    last_goes : (n t r pad : Text) → Tail o (c ∷ x) pad n t r
        → (v : Text) × (list_all is_line_feed v ≡ true)
        × MoreLines o ((w ++ l) ++ (pad ++ (n ++ t))) r ((line_feed ∷ u) ++ v)
    last_goes n t r pad tail = at tail tail.trailing
      where
        at : {t r : Text} → Tail o (c ∷ x) pad n t r → TrailingLines o t r
            → (v : Text) × (list_all is_line_feed v ≡ true)
            × MoreLines o ((w ++ l) ++ (pad ++ (n ++ t))) r ((line_feed ∷ u) ++ v)
        at tail (TrailingLines.line off h) = absurd (both_ways o.enabled_indented_mutiline_value off on)
        at tail (TrailingLines.end _) =
            let p = padded w goes.lead.white l pad (n ++ []) tail.white tail.stands
            (λ none. absurd (last_some ln some none)) goes.lead.ends ln in
            let whole : p.lead ++ (p.text ++ n) ≡ (w ++ l) ++ (pad ++ (n ++ [])) =
            ap (λ z. p.lead ++ (p.text ++ z)) (sym (append-nil n)) ∙ sym (append_assoc p.lead p.text (n ++ []))
            ∙ ap (λ z. z ++ (n ++ [])) p.whole ∙ regroup w l pad n []
            ∙ sym (append_assoc w l (pad ++ (n ++ []))) in (
              [],
              refl,
              subst₂ (λ s v. MoreLines o s [] v) whole (ap (λ z. line_feed ∷ z) (sym (append-nil u)))
                  (MoreLines.last (subst (λ z. GoesOn o p.lead (p.text ++ z)) (append-nil n)
                  (goes_padded p goes)) (Line.line p.is_text tail.note)),
            )
        at {r = r} tail (TrailingLines.lines {e} {t = lines} {u = v} _ end more all) =
            let two = ended e lines tail in
            let p = padded w goes.lead.white l pad (n ++ (e ++ (lines ++ r))) tail.white two.1
            (λ none. absurd (last_some ln some none)) goes.lead.ends ln in
            let whole : p.lead ++ ((p.text ++ n) ++ (e ++ lines)) ≡ (w ++ l) ++ (pad ++ (n ++ (e ++ lines))) =
            ap (λ z. p.lead ++ z) (append_assoc p.text n (e ++ lines))
            ∙ sym (append_assoc p.lead p.text (n ++ (e ++ lines)))
            ∙ ap (λ z. z ++ (n ++ (e ++ lines))) p.whole ∙ regroup w l pad n (e ++ lines)
            ∙ sym (append_assoc w l (pad ++ (n ++ (e ++ lines)))) in (
              v,
              all,
              subst (λ s. MoreLines o s r (line_feed ∷ (u ++ v))) whole
                  (MoreLines.continued (subst (GoesOn o p.lead) (sym (append_assoc p.text n (e ++ (lines ++ r))))
                  (goes_padded p goes)) (Line.line p.is_text two.0) end more),
            )

  later : {s x : Text} {c : ℕ} → LastLine o s (c ∷ x) → Later o (c ∷ x) s
  later (LastLine.last {u = u} goes ln some) =
      record { given = line_feed ∷ u; goes = last_goes goes ln some }
  later (LastLine.empty_lf m) =
      let more = later m in
      record {
        given = line_feed ∷ more.given;
        goes = λ n t r pad tail. let z = more.goes n t r pad tail in (z.0, z.1, MoreLines.empty_lf z.2);
      }
  later (LastLine.empty_cr_lf m) =
      let more = later m in
      record {
        given = line_feed ∷ more.given;
        goes = λ n t r pad tail. let z = more.goes n t r pad tail in (z.0, z.1, MoreLines.empty_cr_lf z.2);
      }
  later {x = x} {c} (LastLine.continued {w} {l} {e} {t = s} {u = u} begins ln end m) =
      let more = later m in
      record {
        given = line_feed ∷ (u ++ more.given);
        goes = λ n t r pad tail.
            let z = more.goes n t r pad tail in
            let k = pad ++ (n ++ t) in
            let alike = alike_padded k r s (c ∷ x) (last_length m) in
            let next = EndedLine-before (LineEnd-alike alike end)
            (record { lead = begins.lead; line = ln; end = end }) in
            let whole : w ++ (l ++ (e ++ (s ++ k))) ≡ (w ++ (l ++ (e ++ s))) ++ k = simp append_assoc in (
              z.0,
              z.1,
              subst₂ (λ s v. MoreLines o s r v) whole
                  (ap (λ z. line_feed ∷ z) (sym (append_assoc u more.given z.0)))
                  (MoreLines.continued (GoesOn-before l ((s ++ k) ++ r) end begins) next.line next.end z.2),
            );
      }
  later {x = x} {c} (LastLine.comment {s = h} {e} {t = s} noted end m) =
      let more = later m in
      record {
        given = more.given;
        goes = λ n t r pad tail.
            let z = more.goes n t r pad tail in
            let k = pad ++ (n ++ t) in
            let alike = alike_padded k r s (c ∷ x) (last_length m) in
            let whole : h ++ (e ++ (s ++ k)) ≡ (h ++ (e ++ s)) ++ k = simp append_assoc in (
              z.0,
              z.1,
              subst (λ s. MoreLines o s r (more.given ++ z.0)) whole
                  (MoreLines.comment (CommentLine-before ((s ++ k) ++ r) end noted) (LineEnd-alike alike end)
                  z.2),
            );
      }

  module _ {s x u : Text} {c : ℕ} (starts : BeginsWithNo is_inline_white (s ++ c ∷ x))
      (ln : LineText o true s (c ∷ x) u) where
    first_value : (w n t r pad : Text) → IsWhite w → Tail o (c ∷ x) pad n t r → (s ≡ [] → n ≡ [])
        → Value o (w ++ (s ++ (pad ++ (n ++ t)))) r (without_outer_line_feeds u)
    first_value w n t r pad white tail some = at tail tail.trailing
      where
        at : {t r : Text} → Tail o (c ∷ x) pad n t r → TrailingLines o t r
            → Value o (w ++ (s ++ (pad ++ (n ++ t)))) r (without_outer_line_feeds u)
        at tail (TrailingLines.line off h) = absurd (both_ways o.enabled_indented_mutiline_value off on)
        at tail (TrailingLines.end _) =
            let p = padded w white s pad (n ++ []) tail.white tail.stands (no_note s tail some) starts ln in
            let whole : p.lead ++ (p.text ++ n) ≡ w ++ (s ++ (pad ++ (n ++ []))) =
            ap (λ z. p.lead ++ (p.text ++ z)) (sym (append-nil n)) ∙ sym (append_assoc p.lead p.text (n ++ []))
            ∙ ap (λ z. z ++ (n ++ [])) p.whole ∙ regroup w s pad n [] in
            subst (λ z. Value o z [] (without_outer_line_feeds u)) whole
            (Value.to_end on (subst (λ z. Lead p.lead (p.text ++ z)) (append-nil n) p.is_lead)
            (Line.line p.is_text tail.note))
        at {r = r} tail (TrailingLines.lines {e} {t = lines} {u = v} _ end more all) =
            let two = ended e lines tail in
            let none = λ (h : s ≡ []). subst (λ z. begins is_comment_mark (n ++ z) ≡ false)
            (append_assoc e lines r) (no_note s tail some h) in
            let p = padded w white s pad (n ++ (e ++ (lines ++ r))) tail.white two.1 none starts ln in
            let whole : p.lead ++ ((p.text ++ n) ++ (e ++ lines)) ≡ w ++ (s ++ (pad ++ (n ++ (e ++ lines)))) =
            ap (λ z. p.lead ++ z) (append_assoc p.text n (e ++ lines))
            ∙ sym (append_assoc p.lead p.text (n ++ (e ++ lines)))
            ∙ ap (λ z. z ++ (n ++ (e ++ lines))) p.whole ∙ regroup w s pad n (e ++ lines) in
            subst₂ (λ z v. Value o z r v) whole (feeds_after u v all)
            (Value.lines on (subst (Lead p.lead) (sym (append_assoc p.text n (e ++ (lines ++ r)))) p.is_lead)
            (Line.line p.is_text two.0) end more)

  own : {s x : Text} {c : ℕ} → OwnLines o s (c ∷ x) → BeginsWithNo is_inline_white (s ++ c ∷ x)
      → Own o (c ∷ x) s
  own (OwnLines.first {u = u} ln) starts = record { given = u; value = first_value starts ln }
  own {x = x} {c} (OwnLines.more {l} {e} {t = s} {u = u} ln end m) starts =
      let more = later m in
      record {
        given = u ++ more.given;
        value = λ w n t r pad white tail some.
            let z = more.goes n t r pad tail in
            let k = pad ++ (n ++ t) in
            let alike = alike_padded k r s (c ∷ x) (last_length m) in
            let seam : (l ++ (e ++ s)) ++ c ∷ x ≡ l ++ (e ++ (s ++ c ∷ x)) = simp append_assoc in
            let lead : Lead w (l ++ (e ++ (s ++ c ∷ x))) =
            record { white = white; ends = subst (BeginsWithNo is_inline_white) seam starts } in
            let next = EndedLine-before (LineEnd-alike alike end)
            (record { lead = lead; line = ln; end = end }) in
            let whole : w ++ (l ++ (e ++ (s ++ k))) ≡ w ++ ((l ++ (e ++ s)) ++ k) = simp append_assoc in
            subst₂ (λ s v. Value o s r v) whole
            (ap without_outer_line_feeds (sym (append_assoc u more.given z.0))
            ∙ feeds_after (u ++ more.given) z.0 z.1)
            (Value.lines on next.lead next.line next.end z.2);
      }

-- a value in one line
module _ {o : ParseOption} (off : o.enabled_indented_mutiline_value ≡ false) where
  first_line : {s x r value : Text} {c : ℕ} (w k : Text) → OwnLines o s (c ∷ x)
      → BeginsWithNo is_inline_white (s ++ c ∷ x) → IsWhite w
      → Value o (w ++ (s ++ k)) r value → (u : Text) × LineText o true s (c ∷ x) u
  first_line w k (OwnLines.first {u = u} front) starts white gives = (u, front)
  first_line {x = x} {r} {value} {c} w k (OwnLines.more {l} {e} {t = lines} {u = u} ln end m) starts white
      gives =
      let alike = Alike-some e (lines ++ c ∷ x) (lines ++ (k ++ r)) (line_end-some end) in
      let seam : (l ++ (e ++ lines)) ++ c ∷ x ≡ l ++ (e ++ (lines ++ c ∷ x)) = simp append_assoc in
      let one : Value o (w ++ l) (e ++ (lines ++ (k ++ r))) u =
      Value.one_line off (record {
        white = white;
        ends = BeginsWithNo-alike is_inline_white (Alike-after l alike)
            (subst (BeginsWithNo is_inline_white) seam starts);
      }) (Line-alike alike ln) in
      let text : (w ++ ((l ++ (e ++ lines)) ++ k)) ++ r ≡ (w ++ l) ++ (e ++ (lines ++ (k ++ r))) =
      simp append_assoc in
      let both : found value r ≡ found u (e ++ (lines ++ (k ++ r))) =
      sym ((value-reads o).finds gives) ∙ ap (read o) text ∙ (value-reads o).finds one in
      let rest : r ≡ e ++ (lines ++ (k ++ r)) = cc in
      let some = last_length m in
      absurd (omega (
        arith,
        ap length rest,
        length-append e (lines ++ (k ++ r)),
        length-append lines (k ++ r),
        length-append k r,
      ))

  one_line : {s x pad n t r u : Text} {c : ℕ} (w : Text) → BeginsWithNo is_inline_white (s ++ c ∷ x)
      → IsWhite w → LineText o true s (c ∷ x) u → Tail o (c ∷ x) pad n t r → (s ≡ [] → n ≡ [])
      → Value o (w ++ (s ++ (pad ++ (n ++ t)))) r u
  one_line {s} {x} {pad} {n} {u = u} {c} w starts white front tail some = at tail tail.trailing
    where
      at : {t r : Text} → Tail o (c ∷ x) pad n t r → TrailingLines o t r
          → Value o (w ++ (s ++ (pad ++ (n ++ t)))) r u
      at tail (TrailingLines.end on) = absurd (both_ways o.enabled_indented_mutiline_value off on)
      at tail (TrailingLines.lines on end more all) =
          absurd (both_ways o.enabled_indented_mutiline_value off on)
      at {r = r} tail (TrailingLines.line _ closes) =
          let p = padded w white s pad (n ++ r) tail.white tail.stands (no_note s tail some) starts front in
          let whole : p.lead ++ (p.text ++ n) ≡ w ++ (s ++ (pad ++ (n ++ []))) =
          ap (λ z. p.lead ++ (p.text ++ z)) (sym (append-nil n)) ∙ sym (append_assoc p.lead p.text (n ++ []))
          ∙ ap (λ z. z ++ (n ++ [])) p.whole ∙ regroup w s pad n [] in
          subst (λ z. Value o z r u) whole
          (Value.one_line off (subst (Lead p.lead) (sym (append_assoc p.text n r)) p.is_lead)
          (Line.line p.is_text tail.note))

-- a value with other white space around its own lines, and another note and other lines after these, gives
-- what it gave
pub value_retailed : {o : ParseOption} {s y value n t r m u x pad gap : Text} {c : ℕ} (w v : Text)
    → OwnLines o s (c ∷ y)
    → BeginsWithNo is_inline_white (s ++ c ∷ y) → IsWhite w → Tail o (c ∷ y) pad n t r → (s ≡ [] → n ≡ [])
    → Value o (w ++ (s ++ (pad ++ (n ++ t)))) r value → IsWhite v → Tail o (c ∷ y) gap m u x
    → (s ≡ [] → m ≡ []) → Value o (v ++ (s ++ (gap ++ (m ++ u)))) x value
value_retailed {o} {s} {y} {value} {n} {t} {r} {m} {u} {x} {pad} {gap} {c} w v lines starts white tail some
    gives before other more = elim (cases_Bool o.enabled_indented_mutiline_value) [
      | inl on ↦
          let is = own on lines starts in
          by (without_outer_line_feeds is.given) (is.value w n t r pad white tail some)
          (is.value v m u x gap before other more)
      | inr off ↦
          let is = first_line off w (pad ++ (n ++ t)) lines starts white gives in
          by is.0 (one_line off w starts white is.1 tail some) (one_line off v starts before is.1 other more)
    ]
  where
    by : (given : Text) → Value o (w ++ (s ++ (pad ++ (n ++ t)))) r given
        → Value o (v ++ (s ++ (gap ++ (m ++ u)))) x given → Value o (v ++ (s ++ (gap ++ (m ++ u)))) x value
    by given tried new =
        let both : found value r ≡ found given r =
        sym ((value-reads o).finds gives) ∙ (value-reads o).finds tried in
        let same : given ≡ value = cc in
        subst (Value o (v ++ (s ++ (gap ++ (m ++ u)))) x) same new

-- the same note, and directly before it what stood there
tail_closed : {n y z : Text} → LineTail n y → Closes plain_ends z → LineTail n z
tail_closed (LineTail.none h) closes = LineTail.none closes
tail_closed (LineTail.note (Note.note mark within h)) closes = LineTail.note (Note.note mark within closes)

kept_tail : {o : ParseOption} {u x : Text} (n y : Text) → LineTail n y → TrailingLines o u x
    → Tail o (n ++ y) [] n u x
kept_tail [] y left trailing = bare_tail y [] refl trailing
kept_tail (m ∷ n) y left trailing = record {
  white = refl;
  note = tail_closed left (tail_closes trailing);
  trailing = trailing;
  stands = Stands.as_before refl Alike.same;
}

-- a pair that something follows with other lines after its value
module _ {o : ParseOption} {c d : ℕ} {p : Stretches} {key value r y t x : Text}
    (h : IsValuePair o c p key value r) (is : p.note ++ (p.trailing_lines ++ r) ≡ d ∷ y)
    (tail : TrailingLines o t x) where
  own_here : OwnLines o (p.raw_value ++ p.space_after) (d ∷ y)
  own_here = subst (OwnLines o (p.raw_value ++ p.space_after)) is h.own_lines

  abbrev lined : Text → Text → Text
  lined raw lines = p.space_before ++ (raw ++ (p.space_after ++ (p.note ++ lines)))

  empty_given : p.raw_value ≡ [] → Value o (lined [] t) x value
  empty_given none =
      let no_note = h.unnoted none in
      let closes : Closes plain_ends (d ∷ y) =
      subst (Closes plain_ends) (ap (λ z. z ++ (p.trailing_lines ++ r)) (sym no_note) ∙ is)
      (tail_closes h.are_trailing) in
      let nothing : OwnLines o [] (d ∷ y) =
      OwnLines.first
      (LineText.text Quoted.none (λ q. closes_no_mark (d ∷ y) closes) (Str.closed Row.none closes)) in
      let gives : Value o (p.space_before ++ (p.space_after ++ p.trailing_lines)) r value =
      subst (λ n. Value o (p.space_before ++ (p.space_after ++ (n ++ p.trailing_lines))) r value) no_note
      (subst (λ z. Value o (lined z p.trailing_lines) r value) none h.gives) in
      subst (λ n. Value o (p.space_before ++ (p.space_after ++ (n ++ t))) x value) (sym no_note)
      (value_retailed p.space_before p.space_before nothing (closes_no_inline (d ∷ y) closes) h.white_before
      (bare_tail (d ∷ y) p.space_after h.white_after h.are_trailing) (λ _. refl) gives h.white_before
      (bare_tail (d ∷ y) p.space_after h.white_after tail) (λ _. refl))

  some_given : (a : ℕ) (raw : Text) → p.raw_value ≡ a ∷ raw → Value o (lined (a ∷ raw) t) x value
  some_given a raw some =
      let s = (a ∷ raw) ++ p.space_after in
      let seam : (z : Text) → lined (a ∷ raw) z ≡ p.space_before ++ (s ++ ([] ++ (p.note ++ z))) = λ z.
      ap (λ v. p.space_before ++ v) (sym (append_assoc (a ∷ raw) p.space_after (p.note ++ z))) in
      let has : s ≡ [] → p.note ≡ [] = λ none. absurd (let no : a ∷ (raw ++ p.space_after) ≡ [] = none in cc) in
      subst (λ v. Value o v x value) (sym (seam t))
      (value_retailed p.space_before p.space_before
      (subst (λ v. OwnLines o (v ++ p.space_after) (d ∷ y)) some own_here)
      (subst (BeginsWithNo is_inline_white) some h.starts) h.white_before
      (subst (λ z. Tail o z [] p.note p.trailing_lines r) is (kept_tail p.note (p.trailing_lines ++ r) h.note h.are_trailing)) has
      (subst (λ v. Value o v r value) (seam p.trailing_lines)
      (subst (λ z. Value o (lined z p.trailing_lines) r value) some h.gives)) h.white_before
      (subst (λ z. Tail o z [] p.note t x) is (kept_tail p.note (p.trailing_lines ++ r) h.note tail)) has)

  pub pair_lined : IsValuePair o c (record p { trailing_lines = t }) key value x
  pair_lined = record {
    separator = h.separator;
    separator_is = h.separator_is;
    key_front = h.key_front;
    some = h.some;
    separates = h.separates;
    gives = given p.raw_value refl;
    white_before = h.white_before;
    starts = h.starts;
    white_after = h.white_after;
    are_trailing = tail;
    own_lines = own_so p.note h.own_lines;
    note = tail_closed h.note (tail_closes tail);
    unnoted = h.unnoted;
    closed = h.closed;
  }
    where
      given : (raw : Text) → p.raw_value ≡ raw → Value o (lined p.raw_value t) x value
      given [] none = subst (λ z. Value o (lined z t) x value) (sym none) (empty_given none)
      given (a ∷ raw) some = subst (λ z. Value o (lined z t) x value) (sym some) (some_given a raw some)

      own_so : (n : Text) → OwnLines o (p.raw_value ++ p.space_after) (n ++ (p.trailing_lines ++ r))
          → OwnLines o (p.raw_value ++ p.space_after) (n ++ (t ++ x))
      own_so [] own =
          subst (λ s. OwnLines o s (t ++ x)) (append-nil (p.raw_value ++ p.space_after))
          (own_padded [] (t ++ x) refl (Stands.at_end (tail_closes tail)) own_here)
      own_so (m ∷ n) own = own_alike Alike.same own

-- no white space stands before what doesn't begin with it
pub no_lead : (w l x : Text) → IsWhite w → BeginsWithNo is_inline_white ((w ++ l) ++ x) → w ≡ []
no_lead [] l x white n = refl
no_lead (c ∷ w) l x white n =
    absurd (both_ways (is_inline_white c) n
    (and_parts (is_inline_white c) (list_all is_inline_white w) white).0)

abbrev pub feed : Text
feed = line_feed ∷ []

module _ {o : ParseOption} {source value : Text} where
  -- the tried line has a value
  pub read_value : (h : IsReadAs o source value) → HasValue o (tried_line source h.trailing_lines) h.rest value
  read_value h = at h.placed.after_key
    where
      at : FollowsKey o (tried_line source h.trailing_lines) h.rest value
          → HasValue o (tried_line source h.trailing_lines) h.rest value
      at (FollowsKey.has_value f) = f
      at (FollowsKey.is_lone f) = absurd (let no : Some equals ≡ None = f.no_separator in cc)

  pub read_source : IsReadAs o source value → OwnLines o source feed
  read_source h = subst₂ (OwnLines o) (append-nil source) h.line_end (read_value h).raw_value

  pub read_own : IsReadAs o source value → IsOwnSource o source
  read_own h = record {
    space_after = [];
    rest = feed;
    lines = subst (λ s. OwnLines o s feed)
        (sym (append-nil source)) (read_source h);
  }

  -- no backslash at its end takes what follows
  pub read_closed : IsReadAs o source value → ending o source ≢ Ending.escape
  read_closed h e =
      let some : feed ≢ [] = λ same. cc in
      let no : Ending.inside ≡ Ending.escape = sym (own_ends some (read_source h))
      ∙ escape_inside o source e in
      cc

  pub read_starts : IsReadAs o source value → BeginsWithNo is_inline_white (source ++ feed)
  read_starts h =
      subst (λ t. BeginsWithNo is_inline_white (source ++ t)) h.line_end (read_value h).space_before.ends

  pub source_starts : IsReadAs o source value → BeginsWithNo is_inline_white source
  source_starts h = starts_front source feed (read_starts h)

  -- between white space, before a note and lines that are kept, unless an empty source has a note
  pub value_read : {n t r pad : Text} → IsReadAs o source value → (w : Text) → IsWhite w
      → Tail o feed pad n t r → (source ≡ [] → n ≡ []) → Value o (w ++ (source ++ (pad ++ (n ++ t)))) r value
  value_read h w white tail some =
      value_retailed [] w (read_source h) (read_starts h) refl
      (bare_tail feed [] refl (read_value h).trailing_lines) (λ none. refl) (read_value h).gives white tail some

  -- and its lines are the value's own there
  pub lines_read : {n t r pad : Text} → IsReadAs o source value → Tail o feed pad n t r
      → OwnLines o (source ++ pad) (n ++ (t ++ r))
  lines_read {n} {t} {r} {pad} h tail =
      own_padded pad (n ++ (t ++ r)) tail.white tail.stands (read_source h)

-- an empty source is read as nothing
empty_line : {o : ParseOption} → Line o true [] feed []
empty_line = Line.line (LineText.text Quoted.none (λ q. refl) (Str.closed Row.none refl)) (LineTail.none refl)

pub read_nothing : {o : ParseOption} {value : Text} → IsReadAs o [] value → value ≡ []
read_nothing {o} {value} h = elim (cases_Bool o.enabled_indented_mutiline_value) [
  | inl on ↦
      let given : Value o feed [] [] =
      Value.lines {w = []} {l = []} on (record { white = refl; ends = refl }) empty_line LineEnd.lf
      (MoreLines.done tt tt) in
      by feed [] refl given
  | inr off ↦
      let given : Value o [] feed [] =
      Value.one_line {w = []} {l = []} off (record { white = refl; ends = refl }) empty_line in
      by [] feed refl given
]
  where
    by : (s r : Text) → s ++ r ≡ feed → Value o s r [] → value ≡ []
    by s r whole given =
        let both : found value h.rest ≡ found [] r =
        sym ((value-reads o).finds (read_value h).gives) ∙ ap (read o) (h.line_end ∙ sym whole)
        ∙ (value-reads o).finds given in
        cc
