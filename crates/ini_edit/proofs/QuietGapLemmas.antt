-- Quiet lines, where a line starts, are a gap: line ends, blanks, and indented comments.
use Rattle.std.proofs.Common.{◌≡◌, ◌∙◌, ◌==◌, ◌&&◌, ◌||◌, ℕ, Bool, true, false, not, [], ◌∷◌, ◌++◌, ap}
use Rattle.std.proofs.Common.{append_assoc, eqb-true, if◌then◌else◌, inl, inr, refl, subst, sym}
use Rattle.std.specs.Prelude.{◌⊎◌}
use Rattle.std.proofs.lemmas.Bool.{and_parts, and_right, both_ways, cases_Bool, cond-false, cond-true}
use Rattle.std.proofs.lemmas.Bool.{false≢true, or_cases, or_parts}
use Rattle.std.proofs.lemmas.List.Folds.{list_all-append}
use Rattle.std.specs.List.{list_all}
use Rattle.ini_text.specs.Grammar.CharacterKinds.{carriage_return, is_blank, is_comment_mark, is_inline_white}
use Rattle.ini_text.specs.Grammar.CharacterKinds.{is_line_end, is_line_feed, line_feed, space}
use Rattle.ini_text.specs.Grammar.Elements.{Element, Gap}
use Rattle.ini_text.specs.Grammar.Keys.{Indentation, begins_note}
use Rattle.ini_text.specs.Grammar.Lines.{Note}
use Rattle.ini_text.specs.Grammar.Positions.{last_or, starts_line}
use Rattle.ini_text.specs.Grammar.Strings.{Closes, plain_ends}
use Rattle.ini_text.specs.declared.option.ParseOption.{ParseOption}
use Rattle.ini_text.proofs.GrammarLemmas.KindLemmas.{blank_inline, line_end_no_blank}
use Rattle.ini_text.proofs.LawLemmas.PieceLemmas.{last_or-append}
use Rattle.ini_text.proofs.PlainLemmas.PlainTrimLemmas.{line_end_is_white}
use Rattle.ini.specs.Texts.{Text}
use Rattle.ini_edit.specs.Inside.Spans.{IsGap}
use Rattle.ini_edit.specs.SourceLines.{LinePlace, are_quiet, ends_line, is_blank_or_line_end, next_within}
use Rattle.ini_edit.specs.SourceLines.{next_place}
use Rattle.ini_edit.proofs.DroppedKeyLemmas.{blank_no_end}
use Rattle.ini_edit.proofs.GapLemmas.{EndsThere, after_blank, after_line, ends_later, gap_more, no_gap}
use Rattle.ini_edit.proofs.GapLemmas.{one_more}
use Rattle.ini_edit.proofs.QuietWalkLemmas.{first_lead, first_note, next_lead, next_note, no_note}

-- what waits for the next character, after the character c, and a character that ends as it does: nothing
-- where a line starts, or after a CR; blanks with which a line begins; or these and a note
data Waits (o : ParseOption) (c : ℕ) : Text → LinePlace → ℕ → Type 0 where
  start : starts_line (c ∷ []) ≡ true → Waits o c [] LinePlace.line line_feed
  feed : Waits o c [] LinePlace.within line_feed
  blanks : {w : Text} → Indentation (c ∷ []) w → Waits o c w LinePlace.lead space
  note : {w : Text} (m : ℕ) (s : Text) → o.enabled_indented_comment ≡ true → Indentation (c ∷ []) w
      → is_comment_mark m ≡ true → list_all (λ c. not (is_line_end c)) s ≡ true
      → Waits o c (w ++ m ∷ s) LinePlace.note space

end_closes : (e : ℕ) (x : Text) → is_line_end e ≡ true → Closes plain_ends (e ∷ x)
end_closes e x h = at (e == line_feed) (e == carriage_return) h
  where
    at : (x y : Bool) → (x || y) ≡ true → (x || (y || false)) ≡ true
    at true y h = h
    at false true h = h
    at false false h = h

-- after a line end a line starts, or its LF is next
return_of : (e : ℕ) (t : Text) → is_line_end e ≡ true → ends_line e t ≡ false
    → (e == carriage_return) ≡ true
return_of e t end apart = at (is_line_feed e) (e == carriage_return) end
    (or_parts (is_line_feed e) _ apart).0
  where
    at : (x y : Bool) → (x || y) ≡ true → x ≡ false → y ≡ true
    at true y h other = absurd (false≢true (sym other))
    at false y h other = h

lead_return : (o : ParseOption) → (if is_inline_white carriage_return then LinePlace.lead
    else (if begins_note o carriage_return then LinePlace.note else next_within o carriage_return))
    ≡ LinePlace.within
lead_return o = cond-false (begins_note o carriage_return) _ _ (no_note o carriage_return (λ on. refl))

space_return : (o : ParseOption) → (if o.enabled_inline_comment && is_comment_mark carriage_return
    then LinePlace.note else next_within o carriage_return) ≡ LinePlace.within
space_return o = cond-false (o.enabled_inline_comment && false) LinePlace.note LinePlace.within
    (and_right o.enabled_inline_comment false refl)

end_next : (o : ParseOption) (p : LinePlace) (e : ℕ) (t : Text) → is_line_end e ≡ true
    → (next_place o p e t ≡ LinePlace.line) ⊎ (next_place o p e t ≡ LinePlace.within)
end_next o p e t end = at p (cases_Bool (ends_line e t))
  where
    at : (p : LinePlace) → (ends_line e t ≡ true) ⊎ (ends_line e t ≡ false)
        → (next_place o p e t ≡ LinePlace.line) ⊎ (next_place o p e t ≡ LinePlace.within)
    at LinePlace.escape either = inr refl
    at LinePlace.line (inl ends) = inl (cond-true (ends_line e t) _ _ ends)
    at LinePlace.lead (inl ends) = inl (cond-true (ends_line e t) _ _ ends)
    at LinePlace.within (inl ends) = inl (cond-true (ends_line e t) _ _ ends)
    at LinePlace.space (inl ends) = inl (cond-true (ends_line e t) _ _ ends)
    at LinePlace.note (inl ends) = inl (cond-true (ends_line e t) _ _ ends)
    at LinePlace.line (inr apart) =
        inr (cond-false (ends_line e t) _ _ apart
        ∙ ap (λ c. if is_blank c then LinePlace.lead else next_within o c)
        (eqb-true e carriage_return (return_of e t end apart)))
    at LinePlace.lead (inr apart) =
        inr (cond-false (ends_line e t) _ _ apart
        ∙ ap (λ c. if is_inline_white c then LinePlace.lead
        else (if begins_note o c then LinePlace.note else next_within o c))
        (eqb-true e carriage_return (return_of e t end apart)) ∙ lead_return o)
    at LinePlace.within (inr apart) =
        inr (cond-false (ends_line e t) _ _ apart
        ∙ ap (next_within o) (eqb-true e carriage_return (return_of e t end apart)))
    at LinePlace.space (inr apart) =
        inr (cond-false (ends_line e t) _ _ apart
        ∙ ap (λ c. if o.enabled_inline_comment && is_comment_mark c then LinePlace.note else next_within o c)
        (eqb-true e carriage_return (return_of e t end apart)) ∙ space_return o)
    at LinePlace.note (inr apart) =
        inr (cond-false (ends_line e t) _ _ apart ∙ cond-true (is_line_end e) _ _ end)

last_end : (c : ℕ) (w : Text) (e : ℕ) → is_line_end e ≡ true
    → starts_line (last_or c (w ++ e ∷ []) ∷ []) ≡ true
last_end c w e end = ap is_line_end (last_or-append c w (e ∷ [])) ∙ end

module _ {o : ParseOption} where
  pub line_end_more : {c : ℕ} {t r : Text} (e : ℕ) → is_line_end e ≡ true → IsGap o e t r
      → IsGap o c (e ∷ t) r
  line_end_more e end g =
      gap_more (Element.gap (Gap.white (line_end_is_white e end)
      (λ blank. absurd (both_ways (is_blank e) (line_end_no_blank e end) blank)))) g

  quiet_from : {c d : ℕ} {w r : Text} {p : LinePlace} → Waits o c w p d → (t : Text)
      → are_quiet o p t ≡ true → EndsThere r (last_or d t) → IsGap o c (w ++ t) r
  quiet_from (Waits.start starts) [] all ends = no_gap
  quiet_from Waits.feed [] all ends = no_gap
  quiet_from {c} {w = w} (Waits.blanks i) [] all (EndsThere.text none) =
      subst (IsGap o c (w ++ [])) (sym none) (gap_more (Element.dropped_blanks i) no_gap)
  quiet_from (Waits.blanks i) [] all (EndsThere.line end) = absurd (false≢true end)
  quiet_from {c} (Waits.note {w} m s on i mark inner) [] all (EndsThere.text none) =
      subst (IsGap o c ((w ++ m ∷ s) ++ [])) (sym none)
      (gap_more (Element.indented_comment on i (Note.note mark inner refl)) no_gap)
  quiet_from (Waits.note m s on i mark inner) [] all (EndsThere.line end) = absurd (false≢true end)
  quiet_from {c} {r = r} (Waits.start starts) (e ∷ t) all ends =
      let parts = and_parts (is_blank_or_line_end e) (are_quiet o (next_place o LinePlace.line e t) t) all in
      elim (or_cases (is_blank e) (is_line_end e) parts.0) [
        | inl blank ↦
            let next = first_lead o e t blank in
            quiet_from {c = c} {w = e ∷ []} (Waits.blanks
            (record { at_line_start = starts; some = blank; blank = rw blank refl })) t
            (subst (λ p. are_quiet o p t ≡ true) next parts.1)
            (ends_later (after_blank e t (blank_no_end e blank)) ends)
        | inr end ↦
            line_end_more e end (elim (end_next o LinePlace.line e t end) [
              | inl next ↦
                  quiet_from {c = e} (Waits.start end) t (subst (λ p. are_quiet o p t ≡ true) next parts.1)
                  (ends_later (after_line e t) ends)
              | inr next ↦
                  quiet_from {c = e} Waits.feed t (subst (λ p. are_quiet o p t ≡ true) next parts.1)
                  (ends_later (after_line e t) ends)
            ])
      ]
  quiet_from {c} {r = r} Waits.feed (e ∷ t) all ends =
      let parts = and_parts (is_line_end e) (are_quiet o (next_place o LinePlace.within e t) t) all in
      line_end_more e parts.0 (elim (end_next o LinePlace.within e t parts.0) [
        | inl next ↦
            quiet_from {c = e} (Waits.start parts.0) t (subst (λ p. are_quiet o p t ≡ true) next parts.1)
            (ends_later (after_line e t) ends)
        | inr next ↦
            quiet_from {c = e} Waits.feed t (subst (λ p. are_quiet o p t ≡ true) next parts.1)
            (ends_later (after_line e t) ends)
      ])
  quiet_from {c} {w = w} {r = r} (Waits.blanks i) (e ∷ t) all ends =
      let parts = and_parts (is_blank_or_line_end e || begins_note o e)
      (are_quiet o (next_place o LinePlace.lead e t) t) all in
      elim (cases_Bool (is_line_end e)) [
        | inl end ↦
            subst (λ z. IsGap o c z r) (append_assoc w (e ∷ []) t)
            (gap_more (Element.gap (Gap.blank_line e i end))
            (elim (end_next o LinePlace.lead e t end) [
              | inl next ↦
                  quiet_from {c = last_or c (w ++ e ∷ [])} (Waits.start (last_end c w e end)) t
                  (subst (λ p. are_quiet o p t ≡ true) next parts.1) (ends_later (after_line e t) ends)
              | inr next ↦
                  quiet_from {c = last_or c (w ++ e ∷ [])} Waits.feed t
                  (subst (λ p. are_quiet o p t ≡ true) next parts.1)
                  (ends_later (after_line e t) ends)
            ]))
        | inr other ↦ elim (cases_Bool (is_blank e)) [
          | inl blank ↦
              let next = next_lead o e t (blank_inline e blank) in
              subst (λ z. IsGap o c z r) (append_assoc w (e ∷ []) t)
              (quiet_from {c = c} (Waits.blanks (one_more e i blank)) t
              (subst (λ p. are_quiet o p t ≡ true) next parts.1) (ends_later (after_blank e t other) ends))
          | inr solid ↦
              let marks = and_parts o.enabled_indented_comment (is_comment_mark e)
              (is_last (is_blank e) (is_line_end e) (begins_note o e) solid other parts.0) in
              let next = first_note o e t marks.0 marks.1 in
              subst (λ z. IsGap o c z r) (append_assoc w (e ∷ []) t)
              (quiet_from {c = c} (Waits.note e [] marks.0 i marks.1 refl) t
              (subst (λ p. are_quiet o p t ≡ true) next parts.1) (ends_later (after_blank e t other) ends))
        ]
      ]
    where
      is_last : (x y z : Bool) → x ≡ false → y ≡ false → ((x || y) || z) ≡ true → z ≡ true
      is_last true y z first second h = absurd (false≢true (sym first))
      is_last false true z first second h = absurd (false≢true (sym second))
      is_last false false z first second h = h
  quiet_from {c} {r = r} (Waits.note {w} m s on i mark inner) (e ∷ t) all ends =
      elim (cases_Bool (is_line_end e)) [
        | inl end ↦
            gap_more (Element.indented_comment on i (Note.note mark inner (end_closes e (t ++ r) end)))
            (line_end_more e end (elim (end_next o LinePlace.note e t end) [
              | inl next ↦
                  quiet_from {c = e} (Waits.start end) t (subst (λ p. are_quiet o p t ≡ true) next all)
                  (ends_later (after_line e t) ends)
              | inr next ↦
                  quiet_from {c = e} Waits.feed t (subst (λ p. are_quiet o p t ≡ true) next all)
                  (ends_later (after_line e t) ends)
            ]))
        | inr other ↦
            let next = next_note o e t other in
            let more : list_all (λ c. not (is_line_end c)) (s ++ e ∷ []) ≡ true =
            rw (list_all-append (λ c. not (is_line_end c)) s (e ∷ []), inner, other) refl in
            subst (λ z. IsGap o c z r) (note_seam w m s e t)
            (quiet_from {c = c} (Waits.note m (s ++ e ∷ []) on i mark more) t
            (subst (λ p. are_quiet o p t ≡ true) next all) (ends_later (after_blank e t other) ends))
      ]
    where
      note_seam : (w : Text) (m : ℕ) (s : Text) (e : ℕ) (t : Text)
          → (w ++ m ∷ (s ++ e ∷ [])) ++ t ≡ (w ++ m ∷ s) ++ e ∷ t
      note_seam w m s e t = simp append_assoc

  -- quiet lines are a gap where a line starts
  pub quiet_gap : {c : ℕ} {r : Text} (t : Text) → is_line_end c ≡ true
      → are_quiet o LinePlace.line t ≡ true → EndsThere r (last_or line_feed t) → IsGap o c t r
  quiet_gap t starts all ends = quiet_from (Waits.start starts) t all ends
