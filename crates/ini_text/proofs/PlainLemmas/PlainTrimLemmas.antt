-- Trimming texts that are trimmed already, and what stands around them.
use Rattle.std.proofs.Common.{◌≡◌, ◌≢◌, ◌≤◌, ℕ, suc, Bool, true, false, ◌&&◌, cond, eqb, List, [], ◌∷◌, ◌++◌}
use Rattle.std.proofs.Common.{length, refl, sym, ap, ◌∙◌, subst, arith, eqb-true, ne_eqb, inl, inr}
use Rattle.std.proofs.lemmas.Bool.{cond_both, cond-true, cond-false, or_cases, and_parts, and_right, and_from}
use Rattle.std.proofs.lemmas.Bool.{both_ways, false_from_ne_true}
use Rattle.std.specs.Char.{is_whitespace}
use Rattle.std.specs.List.{list_all}
use Rattle.std.specs.Str.{skip_leading_whitespace, drop_trailing_whitespace}
use Rattle.ini_text.specs.Grammar.CharacterKinds.{is_blank, is_line_feed, is_line_end, BeginsWithNo}
use Rattle.ini_text.specs.Grammar.WhiteSpace.{trimmed, end_trimmed, drop_line_feeds, skip_line_feeds}
use Rattle.ini_text.specs.Grammar.WhiteSpace.{without_outer_line_feeds}
use Rattle.ini_text.proofs.GrammarLemmas.KindLemmas.{blank_is_white}

pub line_end_is_white : (c : ℕ) → is_line_end c ≡ true → is_whitespace c ≡ true
line_end_is_white c h = elim (or_cases (eqb c 10) (eqb c 13) h) [
  | inl q ↦ subst (λ x. is_whitespace x ≡ true) (sym (eqb-true c 10 q)) refl
  | inr q ↦ subst (λ x. is_whitespace x ≡ true) (sym (eqb-true c 13 q)) refl
]

pub line_feed_is_white : (c : ℕ) → is_line_feed c ≡ true → is_whitespace c ≡ true
line_feed_is_white c h = subst (λ x. is_whitespace x ≡ true) (sym (eqb-true c 10 h)) refl

length-skip : (cs : List ℕ) → length (skip_leading_whitespace cs) ≤ length cs
length-skip [] = omega arith
length-skip (c ∷ cs) =
    let more = length-skip cs in
    cond_both (is_whitespace c) (skip_leading_whitespace cs) (c ∷ cs) (λ l. length l ≤ length (c ∷ cs))
    (λ _. omega arith) (λ _. omega arith)

length-drop_trailing : (cs : List ℕ) → length (drop_trailing_whitespace cs) ≤ length cs
length-drop_trailing [] = omega arith
length-drop_trailing (c ∷ cs) =
    let more = length-drop_trailing cs in
    cond_both (is_whitespace c && eqb (length (drop_trailing_whitespace cs)) 0) []
    (c ∷ drop_trailing_whitespace cs) (λ l. length l ≤ length (c ∷ cs)) (λ _. omega arith) (λ _. omega arith)

-- a trimmed text begins with no white space, and its end is trimmed
pub trimmed_begins : (cs : List ℕ) → trimmed cs ≡ cs → BeginsWithNo is_whitespace cs
trimmed_begins [] h = tt
trimmed_begins (c ∷ cs) h = false_from_ne_true (is_whitespace c) (λ w.
    let skips : skip_leading_whitespace (c ∷ cs) ≡ skip_leading_whitespace cs =
    cond-true (is_whitespace c) _ _ w in
    let same : length (drop_trailing_whitespace (skip_leading_whitespace cs)) ≡ suc (length cs) =
    ap (λ l. length (drop_trailing_whitespace l)) (sym skips) ∙ ap length h in
    let one = length-drop_trailing (skip_leading_whitespace cs) in
    let two = length-skip cs in
    omega arith)

pub skip_none : (cs : List ℕ) → BeginsWithNo is_whitespace cs → skip_leading_whitespace cs ≡ cs
skip_none [] h = refl
skip_none (c ∷ cs) h = cond-false (is_whitespace c) _ _ h

pub trimmed_end : (cs : List ℕ) → trimmed cs ≡ cs → end_trimmed cs ≡ cs
trimmed_end cs h = sym (ap drop_trailing_whitespace (skip_none cs (trimmed_begins cs h))) ∙ h

-- blanks after a text go
drop_blanks : (w : List ℕ) → list_all is_blank w ≡ true → drop_trailing_whitespace w ≡ []
drop_blanks [] h = refl
drop_blanks (c ∷ w) h =
    let parts = and_parts (is_blank c) (list_all is_blank w) h in
    cond-true (is_whitespace c && eqb (length (drop_trailing_whitespace w)) 0) _ _
    (and_from (is_whitespace c) _ (blank_is_white c parts.0)
    (ap (λ l. eqb (length l) 0) (drop_blanks w parts.1)))

pub end_trimmed-blanks : (cs w : List ℕ) → list_all is_blank w ≡ true
    → end_trimmed (cs ++ w) ≡ end_trimmed cs
end_trimmed-blanks [] w h = drop_blanks w h
end_trimmed-blanks (c ∷ cs) w h =
    ap (λ l. cond (is_whitespace c && eqb (length l) 0) [] (c ∷ l)) (end_trimmed-blanks cs w h)

pub trimmed-blanks : (cs w : List ℕ) → cs ≢ [] → BeginsWithNo is_whitespace cs → list_all is_blank w ≡ true
    → trimmed (cs ++ w) ≡ end_trimmed cs
trimmed-blanks [] w some h b = absurd (some refl)
trimmed-blanks (c ∷ cs) w some h b =
    ap drop_trailing_whitespace (cond-false (is_whitespace c) _ _ h) ∙ end_trimmed-blanks (c ∷ cs) w b

-- the end of a text stays trimmed, whatever stands before it
not_zero : (cs : List ℕ) → cs ≢ [] → eqb (length cs) 0 ≡ false
not_zero [] some = absurd (some refl)
not_zero (c ∷ cs) some = ne_eqb (length (c ∷ cs)) 0 (λ e. omega arith)

pub some_after : (w cs : List ℕ) → cs ≢ [] → (w ++ cs) ≢ []
some_after [] cs some = some
some_after (c ∷ w) cs some = λ e. cc

pub end_trimmed-after : (w cs : List ℕ) → cs ≢ [] → end_trimmed cs ≡ cs → end_trimmed (w ++ cs) ≡ w ++ cs
end_trimmed-after [] cs some h = h
end_trimmed-after (c ∷ w) cs some h =
    ap (λ l. cond (is_whitespace c && eqb (length l) 0) [] (c ∷ l)) (end_trimmed-after w cs some h)
    ∙ cond-false (is_whitespace c && eqb (length (w ++ cs)) 0) [] (c ∷ (w ++ cs))
    (and_right (is_whitespace c) _ (not_zero (w ++ cs) (some_after w cs some)))

-- a text whose end is trimmed has no line feeds at its end
not_nil : (c : ℕ) (cs : List ℕ) → [] ≢ (c ∷ cs)
not_nil c cs h = cc

tail_same : (c : ℕ) (xs ys : List ℕ) → c ∷ xs ≡ c ∷ ys → xs ≡ ys
tail_same c xs ys h = cc

-- the parts of what the end of `c ∷ cs` is trimmed to, where it stays
end_parts : (c : ℕ) (cs : List ℕ) → end_trimmed (c ∷ cs) ≡ c ∷ cs
    → ((is_whitespace c && eqb (length (end_trimmed cs)) 0) ≡ false) × (end_trimmed cs ≡ cs)
end_parts c cs h = at (is_whitespace c && eqb (length (end_trimmed cs)) 0) h
  where
    at : (b : Bool) → cond b [] (c ∷ end_trimmed cs) ≡ c ∷ cs → (b ≡ false) × (end_trimmed cs ≡ cs)
    at true e = absurd (not_nil c cs e)
    at false e = (refl, tail_same c (end_trimmed cs) cs e)

drop_no_line_feeds : (cs : List ℕ) → end_trimmed cs ≡ cs → drop_line_feeds cs ≡ cs
drop_no_line_feeds [] h = refl
drop_no_line_feeds (c ∷ cs) h =
    let parts = end_parts c cs h in
    let rest : drop_line_feeds cs ≡ cs = drop_no_line_feeds cs parts.1 in
    let stays : (is_line_feed c && eqb (length cs) 0) ≡ false =
    false_from_ne_true (is_line_feed c && eqb (length cs) 0) (λ e.
    let both = and_parts (is_line_feed c) (eqb (length cs) 0) e in
    both_ways (is_whitespace c && eqb (length (end_trimmed cs)) 0) parts.0
    (and_from (is_whitespace c) (eqb (length (end_trimmed cs)) 0) (line_feed_is_white c both.0)
    (ap (λ l. eqb (length l) 0) parts.1 ∙ both.1))) in
    ap (λ l. cond (is_line_feed c && eqb (length l) 0) [] (c ∷ l)) rest ∙ cond-false
    (is_line_feed c && eqb (length cs) 0) [] (c ∷ cs) stays

-- line feeds after a text go
drop_all_line_feeds : (w : List ℕ) → list_all is_line_feed w ≡ true → drop_line_feeds w ≡ []
drop_all_line_feeds [] h = refl
drop_all_line_feeds (c ∷ w) h =
    let parts = and_parts (is_line_feed c) (list_all is_line_feed w) h in
    cond-true (is_line_feed c && eqb (length (drop_line_feeds w)) 0) _ _
    (and_from (is_line_feed c) _ parts.0 (ap (λ l. eqb (length l) 0) (drop_all_line_feeds w parts.1)))

drop_line_feeds-after : (cs w : List ℕ) → list_all is_line_feed w ≡ true
    → drop_line_feeds (cs ++ w) ≡ drop_line_feeds cs
drop_line_feeds-after [] w h = drop_all_line_feeds w h
drop_line_feeds-after (c ∷ cs) w h =
    ap (λ l. cond (is_line_feed c && eqb (length l) 0) [] (c ∷ l)) (drop_line_feeds-after cs w h)

skip_all_line_feeds : (w : List ℕ) → list_all is_line_feed w ≡ true → skip_line_feeds w ≡ []
skip_all_line_feeds [] h = refl
skip_all_line_feeds (c ∷ w) h =
    let parts = and_parts (is_line_feed c) (list_all is_line_feed w) h in cond-true
    (is_line_feed c) _ _ parts.0 ∙ skip_all_line_feeds w parts.1

-- a trimmed text stays, and line feeds after it go
pub without_line_feeds-trimmed : (cs w : List ℕ) → trimmed cs ≡ cs → list_all is_line_feed w ≡ true
    → without_outer_line_feeds (cs ++ w) ≡ cs
without_line_feeds-trimmed [] w h l = ap drop_line_feeds (skip_all_line_feeds w l)
without_line_feeds-trimmed (c ∷ cs) w h l =
    let no : is_line_feed c ≡ false =
    false_from_ne_true (is_line_feed c)
    (λ e. both_ways (is_whitespace c) (trimmed_begins (c ∷ cs) h) (line_feed_is_white c e)) in
    ap drop_line_feeds (cond-false (is_line_feed c) _ _ no) ∙ drop_line_feeds-after (c ∷ cs) w l
    ∙ drop_no_line_feeds (c ∷ cs) (trimmed_end (c ∷ cs) h)
