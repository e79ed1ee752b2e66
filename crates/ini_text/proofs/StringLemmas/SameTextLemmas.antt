-- Texts are equal exactly where their bytes are.
use Rattle.std.proofs.Common.{◌≡◌, ℕ, List, sym, ap, ◌∙◌}
use Rattle.std.proofs.lemmas.Bool.Decides.{same_from_decides}
use Rattle.std.proofs.lemmas.Str.{encodes-chars}
use Rattle.std.specs.Bool.{Decides}
use Rattle.std.specs.Cmp.Lexicographic.{bytes_decides}
use Rattle.std.specs.Str.{IsUtf8, chars, bytes_eq}
use lib.Utf8.{encodes}

-- what is read of two texts is equal exactly where the texts are
chars_decides : (u v : List ℕ) → IsUtf8 u → IsUtf8 v → Decides (bytes_eq (chars u) (chars v)) (u ≡ v)
chars_decides u v a b =
    let both = bytes_decides (chars u) (chars v) in
    ((λ e. sym (encodes-chars u a) ∙ ap encodes (both.0 e) ∙ encodes-chars v b), (λ e. both.1 (ap chars e)))

pub same_text : (u v : List ℕ) → IsUtf8 u → IsUtf8 v → bytes_eq u v ≡ bytes_eq (chars u) (chars v)
same_text u v a b = same_from_decides _ _ (bytes_decides u v) (chars_decides u v a b)
