-- Texts that are equal but for case, as characters and as bytes.
use Rattle.std.proofs.Common.{◌≡◌, ◌∙◌, ◌↔◌, ℕ, Bool, true, false, IsTrue, List, [], ◌∷◌, ◌++◌, map, ap}
use Rattle.std.proofs.Common.{arith, refl, sym}
use lib.Utf8.{encode, encodes, scalar, scalars}
use Rattle.std.proofs.lemmas.Bool.Decides.{nat_tests}
use Rattle.std.proofs.lemmas.Str.{chars_from_encodes, encodes-chars, encodes_same, scalars-chars}
use Rattle.std.specs.Char.{to_ascii_lowercase}
use Rattle.std.specs.Cmp.Lexicographic.{bytes_decides}
use Rattle.std.specs.Str.{IsUtf8, bytes_eq, chars}
use Rattle.ini_dialect.specs.Lookups.{small, text_fits}
use Rattle.ini_dialect.specs.declared.rule.CaseRule.TheVariants.{Kept, Ignored}

small-encode : (c : ℕ) → encode (to_ascii_lowercase c) ≡ map to_ascii_lowercase (encode c)
unfolding encode
small-encode c = grind (arith, nat_tests)

map-append : (f : ℕ → ℕ) (xs ys : List ℕ) → map f (xs ++ ys) ≡ map f xs ++ map f ys
map-append f [] ys = refl
map-append f (x ∷ xs) ys = ap (λ l. f x ∷ l) (map-append f xs ys)

small-encodes : (cs : List ℕ) → encodes (small cs) ≡ map to_ascii_lowercase (encodes cs)
small-encodes [] = refl
small-encodes (c ∷ cs) =
    ap (λ l. l ++ encodes (small cs)) (small-encode c)
    ∙ ap (λ l. map to_ascii_lowercase (encode c) ++ l) (small-encodes cs)
    ∙ sym (map-append to_ascii_lowercase (encode c) (encodes cs))

-- the bytes with small letters are those of the text with small letters
small-bytes : (u : List ℕ) → IsUtf8 u → encodes (small (chars u)) ≡ map to_ascii_lowercase u
small-bytes u text = small-encodes (chars u) ∙ ap (map to_ascii_lowercase) (encodes-chars u text)

-- and so are its characters
small-scalar : (c : ℕ) → scalar c ≡ true → scalar (to_ascii_lowercase c) ≡ true
small-scalar c is = grind (arith, nat_tests, is)

small-scalars : (cs : List ℕ) → scalars cs ≡ true → scalars (small cs) ≡ true
small-scalars [] are = refl
small-scalars (c ∷ cs) are = grind (arith, are, small-scalar c, small-scalars cs)

pub small_chars : (u : List ℕ) → IsUtf8 u → chars (map to_ascii_lowercase u) ≡ small (chars u)
small_chars u text =
    let is = small-bytes u text in
    sym (chars_from_encodes (small (chars u)) (map to_ascii_lowercase u)
    (small (chars u), (small-scalars (chars u) (scalars-chars u text), is)) is)

-- two tests that hold together
same_test : (b c : Bool) → (b ≡ true → c ≡ true) → (c ≡ true → b ≡ true) → b ≡ c
same_test true c f g = sym (f refl)
same_test false true f g = g refl
same_test false false f g = refl

module _ (u v : List ℕ) (text_u : IsUtf8 u) (text_v : IsUtf8 v) where
  pub fits_ignored : (b : Bool) → IsTrue b ↔ (map to_ascii_lowercase u ≡ map to_ascii_lowercase v)
      → b ≡ text_fits Ignored (chars u) (chars v)
  fits_ignored b means =
      let decides = bytes_decides (small (chars u)) (small (chars v)) in
      same_test b (bytes_eq (small (chars u)) (small (chars v)))
      (λ yes.
      decides.1 (encodes_same (small (chars u)) (small (chars v)) (
      small-bytes u text_u ∙ means.0 yes ∙ sym (small-bytes v text_v))))
      (λ same.
      means.1 (
      sym (small-bytes u text_u) ∙ ap encodes (decides.0 same) ∙ small-bytes v text_v))

  pub fits_kept : bytes_eq u v ≡ text_fits Kept (chars u) (chars v)
  fits_kept =
      let bytes = bytes_decides u v in
      let characters = bytes_decides (chars u) (chars v) in
      same_test (bytes_eq u v) (bytes_eq (chars u) (chars v))
      (λ same. characters.1 (ap chars (bytes.0 same)))
      (λ same.
      bytes.1 (sym (encodes-chars u text_u) ∙ ap encodes (characters.0 same) ∙ encodes-chars v text_v))

pub ruleset fits = (fits_ignored, fits_kept, small_chars)
