-- What is appended to a string, as characters.
use Rattle.std.proofs.Common.{◌≡◌, ◌≢◌, ℕ, arith, ◌<◌, get_or, List, [], ◌∷◌, ◌++◌, sym, ap, ◌∙◌, append-nil}
use Rattle.std.proofs.Common.{chars, IsUtf8, IsCharBoundary, encode_utf8, encode_utf8_all, take, drop, length}
use Rattle.std.proofs.Common.{true, refl, Result, Ok, Err, OnOk, is_ok, if◌then◌else◌}
use Rattle.std.proofs.Math.Bool.{and-true}
use Rattle.std.proofs.lemmas.Bool.{and_parts}
use Rattle.std.proofs.lemmas.Str.{chars-append, chars-encodes, chars-nil, chars_past_char, encode_ascii}
use Rattle.std.proofs.lemmas.Str.{encodes-chars, encodes-append, scalars-chars, IsCharBoundary-at_seam}
use Rattle.std.proofs.Math.Seq.{take-append_seam, drop-append_seam}
use Rattle.std.specs.Str.{all_scalars}
use lib.Utf8.{scalar}
use Rattle.std.specs.Char.{IsScalar}
use Rattle.std.specs.declared.alloc.AllocError.{AllocError}

pub appended : (r : Result (Unit {0}) AllocError) (new old t : List ℕ) → IsUtf8 old
    → new ≡ (if is_ok r then old ++ t else old) → OnOk r (chars new ≡ chars old ++ chars t)
appended (Ok x) new old t u e = ap chars e ∙ chars-append old t u
appended (Err x) new old t u e = tt

pub pushed : (r : Result (Unit {0}) AllocError) (new old : List ℕ) (c : ℕ) → IsUtf8 old → IsScalar c
    → new ≡ (if is_ok r then old ++ encode_utf8 c else old)
    → OnOk r (chars new ≡ chars old ++ c ∷ [])
pushed (Ok x) new old c u h e =
    ap chars e ∙ chars-append old (encode_utf8 c) u
    ∙ ap (λ l. chars old ++ l)
    (ap chars (sym (append-nil (encode_utf8 c))) ∙ chars-encodes (c ∷ []) (and-true _ ∙ h))
pushed (Err x) new old c u h e = tt

scalars-back : (a b : List ℕ) → all_scalars (a ++ b) ≡ true → all_scalars b ≡ true
scalars-back [] b h = h
scalars-back (c ∷ a) b h = scalars-back a b (and_parts (scalar c) (all_scalars (a ++ b)) h).1

-- where a text grew by v, it can be cut before v
pub record IsGrown (old new v : List ℕ) : Type 0 where
  pub front : chars (take (length old) new) ≡ chars old
  pub back : chars (drop (length old) new) ≡ v
  pub cut : IsCharBoundary new (length old)

pub grown : (old new v : List ℕ) → IsUtf8 old → IsUtf8 new → chars new ≡ chars old ++ v → IsGrown old new v
grown old new v u w e =
    let bytes : new ≡ old ++ encode_utf8_all v =
    sym (encodes-chars new w) ∙ ap encode_utf8_all e ∙ encodes-append (chars old) v
    ∙ ap (λ x. x ++ encode_utf8_all v) (encodes-chars old u) in
    let are_scalars : all_scalars v ≡ true =
    scalars-back (chars old) v (ap all_scalars (sym e) ∙ scalars-chars new w) in
    record {
      front = ap chars (ap (take (length old)) bytes ∙ take-append_seam old (encode_utf8_all v));
      back =
          ap chars (ap (drop (length old)) bytes ∙ drop-append_seam old (encode_utf8_all v))
          ∙ chars-encodes v are_scalars;
      cut = IsCharBoundary-at_seam new old (encode_utf8_all v) bytes (v, (are_scalars, refl));
    }

-- a string without characters has no bytes, and the other way round
pub no_characters : (bs : List ℕ) → length bs ≡ 0 → chars bs ≡ []
no_characters [] h = chars-nil
no_characters (b ∷ bs) h = absurd (omega arith)

pub some_characters : (bs : List ℕ) → IsUtf8 bs → (length bs ≡ 0 → ⊥) → chars bs ≢ []
some_characters bs u some none = some (ap length (sym (encodes-chars bs u) ∙ ap encode_utf8_all none))

-- a text of one byte below 0x80
pub one_character : (bs : List ℕ) → IsUtf8 bs → length bs ≡ 1 → get_or bs 0 0 < 128
    → chars bs ≡ get_or bs 0 0 ∷ []
one_character [] u one low = absurd (omega arith)
one_character (b ∷ []) u one low =
    chars_past_char (b ∷ []) [] b u (sym (ap (λ x. x ++ []) (encode_ascii b low)))
    ∙ ap (λ x. b ∷ x) chars-nil
one_character (b ∷ c ∷ bs) u one low = absurd (omega arith)
