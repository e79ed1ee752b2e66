-- Kinds of characters: which of them are of another.
use Rattle.std.proofs.Common.{◌≡◌, ℕ, true, false, eqb-true, inl, inr, refl, ◌==◌}
use Rattle.std.proofs.lemmas.Bool.{both_ways, false_from_ne_true, or_cases}
use Rattle.std.specs.Char.{is_whitespace}
use Rattle.ini_text.specs.Grammar.CharacterKinds.{semicolon, hash, open_bracket, is_blank, is_line_end}
use Rattle.ini_text.specs.Grammar.CharacterKinds.{is_comment_mark, is_inline_white}

pub blank_is_white : (c : ℕ) → is_blank c ≡ true → is_whitespace c ≡ true
blank_is_white c h = elim (or_cases (c == 32) (c == 9) h)
    [ inl q ↦ rw (eqb-true c 32 q) refl | inr q ↦ rw (eqb-true c 9 q) refl ]

pub blank_inline : (c : ℕ) → is_blank c ≡ true → is_inline_white c ≡ true
blank_inline c h = elim (or_cases (c == 32) (c == 9) h)
    [ inl q ↦ rw (eqb-true c 32 q) refl | inr q ↦ rw (eqb-true c 9 q) refl ]

pub no_white_no_blank : (c : ℕ) → is_whitespace c ≡ false → is_blank c ≡ false
no_white_no_blank c h =
    false_from_ne_true (is_blank c) (λ q. both_ways (is_whitespace c) h (blank_is_white c q))

pub line_end_no_blank : (c : ℕ) → is_line_end c ≡ true → is_blank c ≡ false
line_end_no_blank c h = elim (or_cases (c == 10) (c == 13) h)
    [ inl q ↦ rw (eqb-true c 10 q) refl | inr q ↦ rw (eqb-true c 13 q) refl ]

pub comment_mark-apart : (c : ℕ) → is_comment_mark c ≡ true
    → (is_blank c ≡ false) × (is_whitespace c ≡ false)
comment_mark-apart c h =
    elim (or_cases (c == semicolon) (c == hash) h)
    [ inl q ↦ rw (eqb-true c 59 q) (refl, refl) | inr q ↦ rw (eqb-true c 35 q) (refl, refl) ]

pub comment_mark-in_line : (c : ℕ) → is_comment_mark c ≡ true
    → (is_line_end c ≡ false) × ((c == open_bracket) ≡ false)
comment_mark-in_line c h =
    elim (or_cases (c == semicolon) (c == hash) h)
    [ inl q ↦ rw (eqb-true c 59 q) (refl, refl) | inr q ↦ rw (eqb-true c 35 q) (refl, refl) ]
