-- A text goes last in a listing.
use Rattle.std.proofs.Common.{◌≡◌, ℕ, List, [], ◌∷◌, ◌++◌, ◌∙◌, ap, ap₂, sym, length, IsUtf8, chars}
use Rattle.std.proofs.lemmas.Str.{encodes-chars}
use Rattle.ini_c.specs.Listings.{Listed, with_text}

pub text_listed : (before : Listed) (text bytes after counts : List ℕ) → IsUtf8 text
    → bytes ≡ before.bytes ++ text
    → after ≡ bytes ++ 0 ∷ [] → counts ≡ before.counts ++ length text ∷ []
    → record { bytes = after; counts = counts } ≡ with_text before (chars text)
text_listed before text bytes after counts is_text grown ended counted =
    let spelled = sym (encodes-chars text is_text) in
    ap₂ (λ (b c : List ℕ). record { bytes = b; counts = c })
    (ended ∙ ap (λ l. l ++ 0 ∷ []) (grown ∙ ap (λ t. before.bytes ++ t) spelled))
    (counted ∙ ap (λ t. before.counts ++ length t ∷ []) spelled)
