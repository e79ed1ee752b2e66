-- The last pair of a text before a new section: its value closed, its line ended, and an empty line after.
use Rattle.std.proofs.Common.{◌≡◌, ◌≢◌, ◌∙◌, ◌&&◌, ℕ, Bool, true, false, cond, not, [], ◌∷◌, ◌++◌, ap}
use Rattle.std.proofs.Common.{append_assoc, append-nil, inl, inr, refl, subst, sym}
use Rattle.std.proofs.lemmas.Bool.{both_ways, false≢true}
use Rattle.std.specs.Prelude.{◌⊎◌, is_some}
use Rattle.ini_text.specs.Grammar.CharacterKinds.{BeginsWithNo, is_line_end}
use Rattle.ini_text.specs.Grammar.Places.{Stretches, TrailingLines}
use Rattle.ini_text.specs.Grammar.Positions.{is_column_one}
use Rattle.ini_text.specs.Grammar.Strings.{Closes, plain_ends}
use Rattle.ini_text.specs.Inside.LineReader.{past_note}
use Rattle.ini_text.specs.Options.WriteOptions.{line_end}
use Rattle.ini_text.specs.Parsing.Fronts.{front_of}
use Rattle.ini_text.specs.declared.option.ParseOption.{ParseOption}
use Rattle.ini_text.specs.declared.write.option.LineSeparator.{LineSeparator}
use Rattle.ini.specs.Texts.{Text}
use Rattle.ini_edit.specs.Inside.Spans.{IsPair}
use Rattle.ini_edit.specs.Places.{Follows}
use Rattle.ini_edit.specs.SourceEditsAdd.{closed}
use Rattle.ini_edit.specs.SourceEditsDelete.{after_own, gap_after, line_end_after, lines_after, own_lines}
use Rattle.ini_edit.specs.SourceLines.{after_line_end, quiet_lines_at_end, is_empty}
use Rattle.ini_edit.specs.Sources.{PairPiece, is_multiline}
use Rattle.ini_edit.proofs.AddedSpanLemmas.{feed_of}
use Rattle.ini_edit.proofs.AheadLemmas.{FollowsFront}
use Rattle.ini_edit.proofs.EndedLemmas.{line_end-some-after}
use Rattle.ini_edit.proofs.InsertedLemmas.{line_end-closes}
use Rattle.ini_edit.proofs.LineEndedLemmas.{lines_ended, trailing_stays}
use Rattle.ini_edit.proofs.ClosedPairLemmas.{closed_is, closed_separator, closed_stretches, pair_closed}
use Rattle.ini_edit.proofs.ClosedPairLemmas.{pair_ended, stays_open}
use Rattle.ini_edit.proofs.LineCutLemmas.{past_nothing}
use Rattle.ini_edit.proofs.PairEndLemmas.{line_end_off, lines_on, no_line_end_on, own_off, own_on, rest_off}
use Rattle.ini_edit.proofs.PairMoreLemmas.{trailing_more}
use Rattle.ini_edit.proofs.PairTailLemmas.{pair_retailed}
use Rattle.ini_edit.proofs.PairViewLemmas.{goes_on, one_line}
use Rattle.ini_edit.proofs.SectionTakenLemmas.{pair_longer, value_pair_before, with_trailing}
use Rattle.ini_edit.proofs.ValueLemmas.{closes_line_end}

-- a multiline value without lines after it ends the text
tail_ends : {o : ParseOption} {t r : Text} → o.enabled_indented_mutiline_value ≡ true → TrailingLines o t r
    → t ≡ [] → r ≡ []
tail_ends {o} on (TrailingLines.line off h) none =
    absurd (both_ways o.enabled_indented_mutiline_value off on)
tail_ends on (TrailingLines.end _) none = refl
tail_ends on (TrailingLines.lines {e} {t} {r} _ end more all) none =
    absurd (line_end-some-after t (t ++ r) end none)

pub closes_nothing : (g : Text) → Closes plain_ends g → BeginsWithNo is_line_end g → g ≡ []
closes_nothing [] closes no_end = refl
closes_nothing (c ∷ g) closes no_end =
    absurd (both_ways (is_line_end c) no_end (closes_line_end c closes))

front_there : (g : Text) → g ≢ [] → BeginsWithNo is_line_end g → FollowsFront [] g
front_there [] some no_end = absurd (some refl)
front_there (c ∷ g) some no_end = record { some = ap not no_end; bracket = inr refl; note = inr refl }

-- whether a last pair's line is ended
abbrev pub ended_pair : ParseOption → PairPiece → Bool
ended_pair o p =
    not (is_empty (line_end_after o p) && is_empty (lines_after o p))
    && is_column_one p.stretches.trailing_lines

front_nothing : (x y : Text) → x ++ y ≡ [] → x ≡ []
front_nothing [] y h = refl
front_nothing (c ∷ x) y h = absurd (let no : c ∷ (x ++ y) ≡ [] = h in cc)

without_end : (o : ParseOption) (p : PairPiece) → line_end_after o p ≡ [] → lines_after o p ≡ []
    → ended_pair o p ≡ false
without_end o p line lines =
    let column = is_column_one p.stretches.trailing_lines in
    ap (λ l. not (is_empty l && is_empty (lines_after o p)) && column) line
    ∙ ap (λ l. not (is_empty [] && is_empty l) && column) lines

-- a pair in one line that ends the text has no line end
pub off_not_ended : (o : ParseOption) (p : PairPiece) → is_multiline o p ≡ false → p.after ≡ []
    → ended_pair o p ≡ false
off_not_ended o p off nothing =
    let after : after_own o p ≡ [] =
    ap (λ t. after_line_end (past_note o t)) nothing ∙ ap after_line_end (past_nothing o) in
    let own : own_lines o p ≡ [] = own_off o p off ∙ ap (front_of p.after) after
    ∙ ap (λ t. front_of t []) nothing in
    without_end o p (line_end_off o p off [] (sym own))
    (front_nothing (lines_after o p) (gap_after o p) (rest_off o p off ∙ after))

nothing_or : (x : Text) → (x ≡ []) ⊎ (x ≢ [])
nothing_or [] = inl refl
nothing_or (c ∷ x) = inr (λ none. cc)

abbrev tail : PairPiece → Text
tail p = p.stretches.trailing_lines

module _ {o : ParseOption} (sep : LineSeparator) (p : PairPiece) where
  -- where the pair is in one line
  pub closed_there : {c : ℕ} {r : Text} (z : Text) → is_multiline o p ≡ false
      → IsPair o c p.stretches p.key p.value r
      → IsPair o c (closed_stretches o p.stretches) p.key p.value (line_end sep ++ z)
  closed_there z off h = pair_closed h (one_line h off).0 (line_end sep ++ z) off (line_end-closes sep z)

  module _ (on : o.enabled_indented_mutiline_value ≡ true) (has : is_multiline o p ≡ true) {x : Text}
      (follows : Follows o x) (some : x ≢ []) where
    -- with an empty line more, or none
    one_more : {c : ℕ} {q : Stretches} (f : Bool) → q.separator ≡ p.stretches.separator
        → IsPair o c q p.key p.value x
        → IsPair o c (with_trailing (q.trailing_lines ++ cond f [] (line_end sep)) q) p.key p.value x
    one_more {c} {q} true same h =
        subst (λ t. IsPair o c (with_trailing t q) p.key p.value x) (sym (append-nil q.trailing_lines)) h
    one_more false same h = pair_longer on (feed_of sep) follows some
        (goes_on h (ap (λ s. o.enabled_indented_mutiline_value && is_some s) same ∙ has))

    -- with a line end more
    ended_there : {c : ℕ} → (tail p) ≢ [] → IsPair o c p.stretches p.key p.value p.after
        → IsPair o c (with_trailing ((tail p) ++ line_end sep) p.stretches) p.key p.value x
    ended_there more h = pair_retailed on more h (trailing_more sep follows on (goes_on h has).are_trailing)

    -- the pair as it is, before another text
    stays_there : {c : ℕ} → BeginsWithNo is_line_end p.after → (tail p) ≢ []
        → ended_pair o p ≡ true
        → IsPair o c p.stretches p.key p.value p.after → IsPair o c p.stretches p.key p.value x
    stays_there {c} no_end more ended h = elim (nothing_or p.after) [
      | inl nothing ↦
          let at_end = subst (IsPair o c p.stretches p.key p.value) nothing h in
          pair_retailed on more at_end
          (trailing_stays on follows (goes_on at_end has).are_trailing (lines_ended o p has more ended))
      | inr there ↦ value_pair_before (front_there p.after there no_end) follows (goes_on h has)
    ]

    regrouped : {c : ℕ} (q : Stretches) (a b : Text)
        → IsPair o c (with_trailing (((tail p) ++ a) ++ b) q) p.key p.value x
        → IsPair o c (with_trailing ((tail p) ++ (a ++ b)) q) p.key p.value x
    regrouped {c} q a b h =
        subst (λ t. IsPair o c (with_trailing t q) p.key p.value x) (append_assoc (tail p) a b) h

    -- as the word for it says whether its line is ended, and whether an empty line stands last
    pub added_there : {c : ℕ} (e f : Bool) → BeginsWithNo is_line_end p.after
        → ended_pair o p ≡ e
        → IsPair o c p.stretches p.key p.value p.after
        → IsPair o c (with_trailing ((tail p) ++ (cond e [] (line_end sep) ++ cond f [] (line_end sep)))
        (cond e p (closed o p)).stretches) p.key p.value x
    added_there {c} e f no_end is h = elim (nothing_or (tail p)) [
      | inl none ↦ at_end e is none
      | inr more ↦ with_tail e is more
    ]
      where
        closed_same : (e : Bool) → (tail p) ≢ [] → cond e p (closed o p) ≡ p
        closed_same true more = refl
        closed_same false more = stays_open o p (both (tail p) more)
          where
            both : (t : Text) → t ≢ [] → (is_empty t && is_empty p.after) ≡ false
            both [] more = absurd (more refl)
            both (c ∷ t) more = refl

        with_tail : (e : Bool) → ended_pair o p ≡ e → (tail p) ≢ []
            → IsPair o c (with_trailing ((tail p) ++ (cond e [] (line_end sep) ++ cond f [] (line_end sep)))
            (cond e p (closed o p)).stretches) p.key p.value x
        with_tail true is more = one_more f refl (stays_there no_end more is h)
        with_tail false is more =
            subst (λ (q : PairPiece). IsPair o c
            (with_trailing ((tail p) ++ (line_end sep ++ cond f [] (line_end sep))) q.stretches)
            p.key p.value x)
            (sym (closed_same false more))
            (regrouped p.stretches (line_end sep) (cond f [] (line_end sep))
            (one_more f refl (ended_there more h)))

        nothing_ended : (tail p) ≡ [] → ended_pair o p ≡ false
        nothing_ended none =
            let lines : lines_after o p ≡ [] = lines_on o p has ∙ ap (quiet_lines_at_end o) none in
            let own : own_lines o p ≡ [] =
            own_on o p has ∙ ap (λ t. front_of t (quiet_lines_at_end o t)) none in
            without_end o p (no_line_end_on o p has [] (sym own) refl) lines

        at_end : (e : Bool) → ended_pair o p ≡ e → (tail p) ≡ []
            → IsPair o c (with_trailing ((tail p) ++ (cond e [] (line_end sep) ++ cond f [] (line_end sep)))
            (cond e p (closed o p)).stretches) p.key p.value x
        at_end true is none = absurd (false≢true (sym (nothing_ended none) ∙ is))
        at_end false is none =
            let value = goes_on h has in
            let nothing = tail_ends on value.are_trailing none in
            subst (λ (q : PairPiece). IsPair o c
            (with_trailing ((tail p) ++ (line_end sep ++ cond f [] (line_end sep))) q.stretches)
            p.key p.value x)
            (sym (closed_is o p none nothing))
            (subst (λ t. IsPair o c
            (with_trailing (t ++ (line_end sep ++ cond f [] (line_end sep)))
            (closed_stretches o p.stretches)) p.key p.value x) (sym none)
            (one_more f (closed_separator o p.stretches) (pair_ended value none sep x on follows)))
