-- A comment's mark is neither a blank nor a line end.
use Rattle.std.proofs.Common.{◌≡◌, ◌==◌, ℕ, true, false, eqb-true, inl, inr, refl}
use Rattle.std.proofs.lemmas.Bool.{or_cases}
use Rattle.ini_text.specs.Grammar.CharacterKinds.{is_comment_mark}
use Rattle.ini_edit.specs.SourceLines.{is_blank_or_line_end}

pub mark_apart : (c : ℕ) → is_comment_mark c ≡ true → is_blank_or_line_end c ≡ false
mark_apart c h =
    elim (or_cases (c == 59) (c == 35) h)
    [ inl q ↦ rw (eqb-true c 59 q) refl | inr q ↦ rw (eqb-true c 35 q) refl ]
