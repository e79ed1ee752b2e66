-- What follows a pair's value, or a key alone: its own lines, their line end, blank lines, and a gap; and
-- the pair with that line ended.
use Rattle.std.proofs.Common.{◌≡◌, ◌∙◌, ◌&&◌, Bool, true, false, not, cond, [], ◌∷◌, ◌++◌, ap, append-nil}
use Rattle.std.proofs.Common.{inl, inr, refl, sym}
use Rattle.std.proofs.lemmas.Bool.{and_right, cases_Bool, cond-false, cond-true, false≢true}
use Rattle.ini_text.specs.Grammar.CharacterKinds.{backslash, space}
use Rattle.ini_text.specs.Inside.LineReader.{past_note}
use Rattle.ini_text.specs.Parsing.Fronts.{front_of}
use Rattle.ini_text.specs.declared.option.ParseOption.{ParseOption}
use Rattle.ini.specs.Texts.{Text}
use Rattle.ini_edit.specs.Endings.{ending}
use Rattle.ini_edit.specs.SourceEditsAdd.{closed_word, ended_lines, is_escape, with_line_ended}
use Rattle.ini_edit.specs.SourceEditsDelete.{after_own, gap_after, line_end_after, lines_after, own_lines}
use Rattle.ini_edit.specs.SourceLines.{after_line_end, quiet_lines_at_end, ends_in_line, is_empty}
use Rattle.ini_edit.specs.SourceLines.{line_end_at_end}
use Rattle.ini_edit.specs.SourcePlaces.{last_word, with_end, with_last_word}
use Rattle.ini_edit.specs.Sources.{PairPiece, has_separator, is_multiline}

module _ (o : ParseOption) (p : PairPiece) where
  -- where the pair goes on over lines
  module _ (on : is_multiline o p ≡ true) where
    pub lines_on : lines_after o p ≡ quiet_lines_at_end o p.stretches.trailing_lines
    lines_on = cond-true (is_multiline o p) _ _ on

    pub own_on : own_lines o p
        ≡ front_of p.stretches.trailing_lines (quiet_lines_at_end o p.stretches.trailing_lines)
    own_on = cond-true (is_multiline o p) _ _ on ∙ ap (front_of p.stretches.trailing_lines) lines_on

    pub gap_on : gap_after o p ≡ p.after
    gap_on = cond-true (is_multiline o p) _ _ on

    pub line_end_on : (own : Text) → own ≡ own_lines o p → ends_in_line o own ≡ true
        → line_end_after o p ≡ line_end_at_end own
    line_end_on own is ends =
        ap (λ t. cond (is_multiline o p && not (ends_in_line o t)) [] (line_end_at_end t)) (sym is)
        ∙ cond-false (is_multiline o p && not (ends_in_line o own)) _ _
        (and_right (is_multiline o p) (not (ends_in_line o own)) (ap not ends))

    pub no_line_end_on : (own : Text) → own ≡ own_lines o p → ends_in_line o own ≡ false
        → line_end_after o p ≡ []
    no_line_end_on own is ends =
        ap (λ t. cond (is_multiline o p && not (ends_in_line o t)) [] (line_end_at_end t)) (sym is)
        ∙ ap (λ b. cond (b && not (ends_in_line o own)) [] (line_end_at_end own)) on
        ∙ ap (λ b. cond (not b) [] (line_end_at_end own)) ends

    pub ended_on : (line_end word : Text) {own : Text} → word ≡ closed_word o p
        → own ≡ ended_lines o line_end p
        → with_end own [] (with_last_word word p) ≡ with_line_ended o line_end p
    ended_on line_end word {own} is_word is_own =
        ap (λ t. with_end t [] (with_last_word word p)) is_own
        ∙ ap (λ t. with_end (ended_lines o line_end p) [] (with_last_word t p)) is_word
        ∙ sym (cond-true (is_multiline o p) _ _ on)

  -- where it stands in one line
  module _ (off : is_multiline o p ≡ false) where
    pub own_off : own_lines o p ≡ front_of p.after (after_own o p)
    own_off = cond-false (is_multiline o p) _ _ off

    pub line_end_off : (own : Text) → own ≡ own_lines o p → line_end_after o p ≡ line_end_at_end own
    line_end_off own is =
        ap (λ t. cond (is_multiline o p && not (ends_in_line o t)) [] (line_end_at_end t)) (sym is)
        ∙ ap (λ b. cond (b && not (ends_in_line o own)) [] (line_end_at_end own)) off

    pub ended_off : (line_end word : Text) {own : Text} → word ≡ closed_word o p
        → own ≡ ended_lines o line_end p
        → with_end [] own (with_last_word word p) ≡ with_line_ended o line_end p
    ended_off line_end word {own} is_word is_own =
        ap (λ t. with_end [] t (with_last_word word p)) is_own
        ∙ ap (λ t. with_end [] (ended_lines o line_end p) (with_last_word t p)) is_word
        ∙ sym (cond-false (is_multiline o p) _ _ off)

    -- a key alone among multiline values
    pub lines_lone : o.enabled_indented_mutiline_value ≡ true → lines_after o p ≡ []
    lines_lone on = cond-false (is_multiline o p) _ _ off
        ∙ cond-true o.enabled_indented_mutiline_value _ _ on

    pub gap_lone : o.enabled_indented_mutiline_value ≡ true → gap_after o p ≡ after_own o p
    gap_lone on = cond-false (is_multiline o p) _ _ off
        ∙ cond-true o.enabled_indented_mutiline_value _ _ on

    -- values in one line
    pub lines_off : o.enabled_indented_mutiline_value ≡ false → lines_after o p ≡ after_own o p
    lines_off single = cond-false (is_multiline o p) _ _ off
        ∙ cond-false o.enabled_indented_mutiline_value _ _ single

    pub gap_off : o.enabled_indented_mutiline_value ≡ false → gap_after o p ≡ []
    gap_off single = cond-false (is_multiline o p) _ _ off
        ∙ cond-false o.enabled_indented_mutiline_value _ _ single

    -- what stands after the line end, in either
    pub rest_off : lines_after o p ++ gap_after o p ≡ after_own o p
    rest_off = elim (cases_Bool o.enabled_indented_mutiline_value) [
      | inl on ↦ ap (λ t. t ++ gap_after o p) (lines_lone on) ∙ gap_lone on
      | inr single ↦ ap (λ t. t ++ gap_after o p) (lines_off single)
          ∙ ap (λ t. after_own o p ++ t) (gap_off single) ∙ append-nil (after_own o p)
    ]

  -- values in one line go on over no lines
  pub single_off : o.enabled_indented_mutiline_value ≡ false → is_multiline o p ≡ false
  single_off single = ap (λ b. b && has_separator p) single

  -- the own lines, with a line end or without
  pub ended_without : (line_end : Text) → is_empty (line_end_after o p) ≡ true
      → own_lines o p ++ line_end ≡ ended_lines o line_end p
  ended_without line_end none =
      ap (λ t. own_lines o p ++ t) (sym (cond-true (is_empty (line_end_after o p)) line_end [] none))

  pub ended_with : (line_end : Text) → is_empty (line_end_after o p) ≡ false
      → own_lines o p ++ [] ≡ ended_lines o line_end p
  ended_with line_end some =
      ap (λ t. own_lines o p ++ t) (sym (cond-false (is_empty (line_end_after o p)) line_end [] some))

  -- a value, or a key alone, whose last backslash takes nothing stays
  pub closed_not : (is_empty p.stretches.note && (is_empty p.stretches.trailing_lines && (is_empty p.after
      && is_escape (ending o (last_word p))))) ≡ false
      → closed_word o p ≡ last_word p
  closed_not apart = cond-false _ _ _ apart

  pub closed_by_one : (is_empty p.stretches.note && (is_empty p.stretches.trailing_lines && (is_empty p.after
      && is_escape (ending o (last_word p))))) ≡ true
      → closed_word o p ≡ last_word p ++ (cond o.enabled_escape backslash space) ∷ []
  closed_by_one all = cond-true _ _ _ all

-- the line end after a value, or a key alone, by its parts
abbrev line_end_of_parts : (o : ParseOption) (multiline on : Bool) → (lines gap : Text) → Text
line_end_of_parts o multiline on lines gap =
    let rest = after_line_end (past_note o gap) in
    let after = cond multiline (quiet_lines_at_end o lines) (cond on [] rest) in
    let own = cond multiline (front_of lines after) (front_of gap rest) in
    cond (multiline && not (ends_in_line o own)) [] (line_end_at_end own)

no_note : (o : ParseOption) → past_note o [] ≡ []
no_note o = elim o.enabled_inline_comment as (λ b. cond {A = Text} (b && false) [] [] ≡ []) [
  | true ↦ refl
  | false ↦ refl
]

some_part : (o : ParseOption) (multiline on : Bool) (lines gap : Text) (escape : Bool)
    → is_empty (line_end_of_parts o multiline on lines gap) ≡ false
    → (is_empty lines && (is_empty gap && escape)) ≡ false
some_part o true on [] [] escape some = absurd (false≢true (sym some))
some_part o false on [] [] escape some =
    absurd (false≢true (sym some ∙ ap (λ t. is_empty (line_end_at_end (front_of [] (after_line_end t))))
    (no_note o)))
some_part o multiline on [] (c ∷ gap) escape some = refl
some_part o multiline on (c ∷ lines) gap escape some = refl

pub closed_ended : (o : ParseOption) (p : PairPiece) → is_empty (line_end_after o p) ≡ false
    → closed_word o p ≡ last_word p
closed_ended o p some =
    closed_not o p (and_right (is_empty p.stretches.note) _ (some_part o (is_multiline o p)
    o.enabled_indented_mutiline_value p.stretches.trailing_lines p.after (is_escape (ending o (last_word p))) some))
