-- A mark at the front of a text.
use Rattle.std.proofs.Common.{◌≡◌, ◌≢◌, ◌∙◌, ◌==◌, ℕ, List, [], ◌∷◌, ◌++◌, ap, refl, sym, eqb-true}
use Rattle.std.proofs.lemmas.Bool.{cond_both}
use Rattle.std.proofs.lemmas.Str.{chars_past_char, encodes-chars}
use Rattle.std.specs.Str.{IsUtf8, chars}
use lib.Utf8.{encode, encodes}
use Rattle.ini_text.specs.Parsing.ByteOrderMarks.{unmarked}

-- one is there
pub unmarked-mark : (text rest : List ℕ) → IsUtf8 text → text ≡ encode 0xFEFF ++ rest
    → chars rest ≡ unmarked (chars text)
unmarked-mark text rest utf8 begins = sym (ap unmarked (chars_past_char text rest 0xFEFF utf8 begins))

-- none is
unmarked-other : (T : List ℕ) → ((rest : List ℕ) → encodes T ≢ encode 0xFEFF ++ rest) → T ≡ unmarked T
unmarked-other [] none = refl
unmarked-other (c ∷ T) none = cond_both (c == 0xFEFF) T (c ∷ T) (λ x. c ∷ T ≡ x)
    (λ e. absurd (none (encodes T) (ap (λ x. encode x ++ encodes T) (eqb-true c 0xFEFF e))))
    (λ _. refl)

pub unmarked-none : (text : List ℕ) → IsUtf8 text → ((rest : List ℕ) → text ≢ encode 0xFEFF ++ rest)
    → chars text ≡ unmarked (chars text)
unmarked-none text utf8 none = unmarked-other (chars text) (λ rest e. none rest (sym
    (encodes-chars text utf8) ∙ e))
