-- The spans of a new section: its header, its pair where it has one, and the gap that follows.
use Rattle.std.proofs.Common.{◌≡◌, ◌∙◌, ℕ, Bool, true, [], ◌∷◌, ◌++◌, Some, ap, append_assoc}
use Rattle.std.proofs.Common.{append-nil, inl, inr, refl, subst, sym}
use Rattle.std.proofs.lemmas.Bool.{cases_Bool, cond-false, cond-true, or_left}
use Rattle.ini_text.specs.Grammar.CharacterKinds.{BeginsWithNo, is_blank, is_line_end, line_feed}
use Rattle.ini_text.specs.Grammar.Places.{TrailingLines, pair_source, separator_text}
use Rattle.ini_text.specs.Grammar.Positions.{last_or}
use Rattle.ini_text.specs.Grammar.Strings.{Closes, bracketed_name_ends}
use Rattle.ini_text.specs.Grammar.Values.{LineEnd, MoreLines}
use Rattle.ini_text.specs.Laws.Plain.{IsPlainName}
use Rattle.ini_text.specs.declared.option.ParseOption.{ParseOption}
use Rattle.ini_text.specs.declared.write.policy.EscapePolicy.{EscapePolicy}
use Rattle.ini_text.proofs.PlainLemmas.PlainLineLemmas.{header_element}
use Rattle.ini.specs.Texts.{Text}
use Rattle.ini_edit.specs.Inside.InPlace.{AreInPlace}
use Rattle.ini_edit.specs.Inside.SourceEnds.{MakesPairs}
use Rattle.ini_edit.specs.Inside.Spans.{AreSpans, IsGap, IsPair, IsSpan, Span, gap, opening, pair}
use Rattle.ini_edit.specs.Sections.{header_of}
use Rattle.ini_edit.specs.SourceEditsAdd.{Maker}
use Rattle.ini_edit.specs.Sources.{PairPiece}
use Rattle.ini_edit.proofs.EndedGapLemmas.{feed_closes_plain, feed_gap}
use Rattle.ini_edit.proofs.GapLemmas.{gap_join, gap_like}
use Rattle.ini_edit.proofs.SectionPlaceLemmas.{IsCutFor}
use Rattle.ini_edit.proofs.HeaderLemmas.{bracketed}
use Rattle.ini_edit.proofs.SectionTakenLemmas.{IsFeed, feed_last}
use Rattle.ini_edit.proofs.SourcePartLemmas.{source_last}

-- what follows a place, after LF
pub rest_after_feed : {o : ParseOption} {has : Bool} {b : ℕ} {a g : Text} → IsCutFor o has b a g
    → IsGap o line_feed g []
rest_after_feed cut = gap_like (record {
  line = λ h. cut.line h;
  column = λ h. cut.column h;
  comment = λ on h. or_left _ _ (cut.column h);
}) cut.rest

feed_closes : {l : Text} (y : Text) → IsFeed l → Closes bracketed_name_ends (l ++ y)
feed_closes y IsFeed.lf = refl
feed_closes y IsFeed.cr_lf = refl

-- trailing lines of a new pair
feed_trailing : {o : ParseOption} {l : Text} (g : Text) → o.enabled_indented_mutiline_value ≡ true → IsFeed l
    → BeginsWithNo is_blank g → BeginsWithNo is_line_end g → TrailingLines o l g
feed_trailing g on IsFeed.lf blank end =
    TrailingLines.lines {t = []} on LineEnd.lf (MoreLines.done blank end) refl
feed_trailing g on IsFeed.cr_lf blank end =
    TrailingLines.lines {t = []} on LineEnd.cr_lf (MoreLines.done blank end) refl

module _ {o : ParseOption} (policy : EscapePolicy) (name : Text) (plain : IsPlainName o policy name)
    {l : Text} (feed : IsFeed l) where
  abbrev the_opening : Span
  the_opening = opening (Some name) (header_of policy name)

  header_there : {c : ℕ} (y : Text) → IsSpan o c (opening (Some name) (header_of policy name)) (l ++ y)
  header_there y = IsSpan.header (elim (cases_Bool o.enabled_brackets_in_section_names) [
    | inl on ↦ bracketed policy name plain on (feed_closes y feed)
    | inr off ↦ header_element policy name off plain
  ])

  -- without a pair
  pub bare_section : (c : ℕ) (g : Text) → IsGap o line_feed g []
      → AreSpans o c (opening (Some name) (header_of policy name) ∷ gap (l ++ g) ∷ []) []
  bare_section c g is =
      let text : l ++ (g ++ []) ≡ ((l ++ g) ++ []) ++ [] =
      sym (append_assoc l g []) ∙ sym (append-nil ((l ++ g) ++ [])) in
      AreInPlace.more
      (subst (IsSpan o c (opening (Some name) (header_of policy name))) text (header_there (g ++ [])))
      (AreInPlace.more (IsSpan.is_gap (gap_join (feed_gap feed)
      (subst (λ d. IsGap o d g []) (sym (feed_last (last_or c (header_of policy name)) feed)) is)))
      AreInPlace.none)

  -- with one
  section_with : (c : ℕ) (p : PairPiece) → IsPair o line_feed p.stretches p.key p.value p.after
      → IsGap o (last_or line_feed (pair_source p.stretches)) p.after []
      → AreSpans o c (opening (Some name) (header_of policy name) ∷ gap l
      ∷ pair p.stretches p.key p.value ∷ gap p.after ∷ []) []
  section_with c p is after =
      let a = p.after in
      let s = pair_source p.stretches in
      let h = header_of policy name in
      let text : l ++ ((s ++ (a ++ [])) ++ []) ≡ (l ++ (s ++ (a ++ []))) ++ [] =
      sym (append_assoc l (s ++ (a ++ [])) []) in
      let end : a ≡ (a ++ []) ++ [] = sym (append-nil a) ∙ sym (append-nil (a ++ [])) in
      let later : AreSpans o line_feed (pair p.stretches p.key p.value ∷ gap a ∷ []) [] =
      AreInPlace.more (IsSpan.is_pair (subst (IsPair o line_feed p.stretches p.key p.value) end is))
      (AreInPlace.more (IsSpan.is_gap after) AreInPlace.none) in
      AreInPlace.more
      (subst (IsSpan o c (opening (Some name) h)) text (header_there ((s ++ (a ++ [])) ++ [])))
      (AreInPlace.more (IsSpan.is_gap (feed_gap feed))
      (subst (λ d. AreSpans o d (pair p.stretches p.key p.value ∷ gap a ∷ []) [])
      (sym (feed_last (last_or c h) feed)) later))

  pub pair_section : (c : ℕ) {b : ℕ} {a : Text} (g : Text) (make : Maker) → MakesPairs o make
      → IsCutFor o true b a g
      → AreSpans o c (opening (Some name) (header_of policy name) ∷ gap l
      ∷ pair (make true l g).stretches (make true l g).key (make true l g).value
      ∷ gap (make true l g).after ∷ []) []
  pair_section c g make makes cut = elim (cases_Bool o.enabled_indented_mutiline_value) [
    | inl on ↦
        let p = make true l g in
        let lines : p.stretches.trailing_lines ≡ l = makes.trailing true l g ∙ cond-true _ _ _ on in
        let after : p.after ≡ g = makes.after true l g ∙ cond-true _ _ _ on in
        let trailing : TrailingLines o p.stretches.trailing_lines p.after =
        subst (λ t. TrailingLines o t p.after) (sym lines)
        (subst (TrailingLines o l) (sym after)
        (feed_trailing g on feed (cut.no_blank refl on) cut.no_end)) in
        let key = p.stretches.key ++ separator_text p.stretches.separator in
        let e = last_or (last_or (last_or (last_or (last_or line_feed key) p.stretches.space_before)
        p.stretches.raw_value) p.stretches.space_after) p.stretches.note in
        let last : last_or line_feed (pair_source p.stretches) ≡ line_feed =
        sym (source_last line_feed p.stretches) ∙ ap (last_or e) lines ∙ feed_last e feed in
        section_with c p (makes.pair true l g refl trailing)
        (subst (λ d. IsGap o d p.after []) (sym last)
        (subst (λ t. IsGap o line_feed t []) (sym after) (rest_after_feed cut)))
    | inr off ↦
        let p = make true l g in
        let lines : p.stretches.trailing_lines ≡ [] = makes.trailing true l g ∙ cond-false _ _ _ off in
        let after : p.after ≡ l ++ g = makes.after true l g ∙ cond-false _ _ _ off in
        let trailing : TrailingLines o p.stretches.trailing_lines p.after =
        subst (λ t. TrailingLines o t p.after) (sym lines)
        (subst (TrailingLines o []) (sym after) (TrailingLines.line off (feed_closes_plain g feed))) in
        let d = last_or line_feed (pair_source p.stretches) in
        section_with c p (makes.pair true l g refl trailing)
        (subst (λ t. IsGap o d t []) (sym after)
        (gap_join (feed_gap feed)
        (subst (λ c. IsGap o c g []) (sym (feed_last d feed)) (rest_after_feed cut))))
  ]
