-- An empty line stands last in a text: the word for it, and the test.
use Rattle.std.proofs.Common.{◌≡◌, ◌∙◌, ◌&&◌, ◌==◌, ◌⊎◌, ℕ, Bool, true, false, cond, [], ◌∷◌, ◌++◌}
use Rattle.std.proofs.Common.{ap, eqb-true, inl, inr, refl, subst, sym}
use Rattle.std.proofs.lemmas.Bool.{and_from, and_parts, cond-true, false≢true, or_cases, or_left, or_right}
use Rattle.ini_text.specs.Grammar.CharacterKinds.{carriage_return, is_line_end, is_line_feed, line_feed}
use Rattle.ini_text.specs.Grammar.Positions.{is_column_one, last_or}
use Rattle.ini_text.specs.Options.WriteOptions.{line_end}
use Rattle.ini_text.specs.declared.write.option.LineSeparator.{LineSeparator}
use Rattle.ini.specs.Texts.{Text}
use Rattle.ini_edit.specs.NewSections.{EmptyLine, EndsEmpty}
use Rattle.ini_edit.specs.SourceEditsSections.{ends_empty, has_empty_line_at_end}
use Rattle.ini_edit.specs.SourceLines.{after_line_end, after_line_feed, is_empty, is_one_line_end}

-- LF or CR LF stands last, after an LF or a text's front
data HasEmptyLast (d : ℕ) : Text → Type 0 where
  by_lf : (V : Text) → is_line_feed (last_or d V) ≡ true → HasEmptyLast d (V ++ line_feed ∷ [])
  by_cr_lf : (V : Text) → is_line_feed (last_or d V) ≡ true
      → HasEmptyLast d (V ++ carriage_return ∷ line_feed ∷ [])

-- one line end, which is not CR alone
no_more : (cs : Text) → is_empty cs ≡ true → cs ≡ []
no_more [] h = refl
no_more (c ∷ cs) h = absurd (false≢true h)

after_return : (d c : ℕ) (cs : Text) → is_line_feed d ≡ true → c ≡ carriage_return
    → is_empty (after_line_feed cs) ≡ true → is_line_feed (last_or c cs) ≡ true → HasEmptyLast d (c ∷ cs)
after_return d c [] starts is h last =
    absurd (false≢true (sym (ap is_line_feed is) ∙ last))
after_return d c (e ∷ cs) starts is h last = by (is_line_feed e) refl h
  where
    by : (b : Bool) → is_line_feed e ≡ b → is_empty (cond b cs (e ∷ cs)) ≡ true → HasEmptyLast d (c ∷ e ∷ cs)
    by true feed h =
        let same : carriage_return ∷ line_feed ∷ [] ≡ c ∷ e ∷ cs =
        ap (λ x. x ∷ line_feed ∷ []) (sym is) ∙ ap (λ x. c ∷ x ∷ []) (sym (eqb-true e line_feed feed))
        ∙ ap (λ t. c ∷ e ∷ t) (sym (no_more cs h)) in
        subst (HasEmptyLast d) same (HasEmptyLast.by_cr_lf [] starts)
    by false feed h = absurd (false≢true h)

one_line_end : (d c : ℕ) (cs : Text) → is_line_feed d ≡ true → is_one_line_end (c ∷ cs) ≡ true
    → is_line_feed (last_or c cs) ≡ true → HasEmptyLast d (c ∷ cs)
one_line_end d c cs starts h last =
    let parts = and_parts (is_line_end c) (is_empty (after_line_end (c ∷ cs))) h in
    by (is_line_feed c) refl (or_cases (c == line_feed) (c == carriage_return) parts.0) parts.1
  where
    by : (b : Bool) → is_line_feed c ≡ b
        → ((c == line_feed) ≡ true) ⊎ ((c == carriage_return) ≡ true)
        → is_empty (cond b cs (cond (c == carriage_return) (after_line_feed cs) (c ∷ cs))) ≡ true
        → HasEmptyLast d (c ∷ cs)
    by true feed either h =
        let same : line_feed ∷ [] ≡ c ∷ cs =
        ap (λ x. x ∷ []) (sym (eqb-true c line_feed feed)) ∙ ap (λ t. c ∷ t) (sym (no_more cs h)) in
        subst (HasEmptyLast d) same (HasEmptyLast.by_lf [] starts)
    by false feed (inl q) h = absurd (false≢true (sym feed ∙ q))
    by false feed (inr q) h =
        after_return d c cs starts (eqb-true c carriage_return q)
        (ap is_empty (sym (cond-true (c == carriage_return) (after_line_feed cs) (c ∷ cs) q)) ∙ h) last

-- one character more before it
one_before : (d c : ℕ) {cs : Text} → HasEmptyLast c cs → HasEmptyLast d (c ∷ cs)
one_before d c (HasEmptyLast.by_lf V h) = HasEmptyLast.by_lf (c ∷ V) h
one_before d c (HasEmptyLast.by_cr_lf V h) = HasEmptyLast.by_cr_lf (c ∷ V) h

has_last : (d : ℕ) (t : Text) → has_empty_line_at_end d t ≡ true → HasEmptyLast d t
has_last d [] h = absurd (false≢true h)
has_last d (c ∷ cs) h =
    elim (or_cases (is_line_feed d && (is_one_line_end (c ∷ cs) && is_column_one (c ∷ cs)))
    (has_empty_line_at_end c cs) h) [
      | inl q ↦
          let first = and_parts (is_line_feed d) (is_one_line_end (c ∷ cs) && is_column_one (c ∷ cs)) q in
          let both = and_parts (is_one_line_end (c ∷ cs)) (is_column_one (c ∷ cs)) first.1 in
          one_line_end d c cs first.0 both.0 both.1
      | inr q ↦ one_before d c (has_last c cs q)
    ]

there_last : (d : ℕ) (V e : Text) → ((d : ℕ) → is_line_feed d ≡ true → has_empty_line_at_end d e ≡ true)
    → is_line_feed (last_or d V) ≡ true → has_empty_line_at_end d (V ++ e) ≡ true
there_last d [] e one h = one d h
there_last d (c ∷ V) e one h = or_right _ (has_empty_line_at_end c (V ++ e)) (there_last c V e one h)

last_is : (d : ℕ) {t : Text} → HasEmptyLast d t → has_empty_line_at_end d t ≡ true
last_is d (HasEmptyLast.by_lf V h) =
    there_last d V (line_feed ∷ []) (λ d starts. or_left (is_line_feed d && true) false
    (and_from (is_line_feed d) true starts refl)) h
last_is d (HasEmptyLast.by_cr_lf V h) =
    there_last d V (carriage_return ∷ line_feed ∷ []) (λ d starts. or_left (is_line_feed d && true) _
    (and_from (is_line_feed d) true starts refl)) h

-- the word is the test
pub ends_empty_is : {t : Text} → EndsEmpty t → ends_empty t ≡ true
ends_empty_is EndsEmpty.nothing = refl
ends_empty_is (EndsEmpty.by_lf V h) =
    or_right (is_empty (V ++ line_feed ∷ [])) _ (last_is line_feed (HasEmptyLast.by_lf V h))
ends_empty_is (EndsEmpty.by_cr_lf V h) =
    or_right (is_empty (V ++ carriage_return ∷ line_feed ∷ [])) _
    (last_is line_feed (HasEmptyLast.by_cr_lf V h))

last_ends : {t : Text} → HasEmptyLast line_feed t → EndsEmpty t
last_ends (HasEmptyLast.by_lf V h) = EndsEmpty.by_lf V h
last_ends (HasEmptyLast.by_cr_lf V h) = EndsEmpty.by_cr_lf V h

pub is_ends_empty : (t : Text) → ends_empty t ≡ true → EndsEmpty t
is_ends_empty [] h = EndsEmpty.nothing
is_ends_empty (c ∷ cs) h = last_ends (has_last line_feed (c ∷ cs) h)

pub empty_line_is : {end : LineSeparator} {W g : Text} → EmptyLine end W g
    → g ≡ cond (ends_empty W) [] (line_end end)
empty_line_is {end} {W} (EmptyLine.there ends) =
    sym (cond-true (ends_empty W) [] (line_end end) (ends_empty_is ends))
empty_line_is {end} {W} (EmptyLine.new none) = by (ends_empty W) refl
  where
    by : (b : Bool) → ends_empty W ≡ b → line_end end ≡ cond b [] (line_end end)
    by true is = absurd (none (is_ends_empty W is))
    by false is = refl
