-- Runs at the front of a text, and the front before a rest.
use Rattle.std.proofs.Common.{◌≡◌, ◌≤◌, ℕ, ◌-◌, Bool, true, false, ◌&&◌, List, [], ◌∷◌, ◌++◌, length, take}
use Rattle.std.proofs.Common.{refl, sym, ap, ◌∙◌, append-nil, arith, length-append, subst, chars, IsUtf8}
use Rattle.std.proofs.Common.{IsCharBoundary, encode_utf8, encode_utf8_all}
use Rattle.std.proofs.lemmas.Str.{chars-append, chars-encodes, encodes-append, encodes-chars, scalars-chars}
use Rattle.std.proofs.lemmas.Str.{IsCharBoundary-at_seam, length-le-encodes, cons_from_encodes}
use Rattle.std.proofs.Math.Seq.{take-append_seam}
use Rattle.std.specs.Str.{all_scalars}
use lib.Utf8.{scalar}
use Rattle.ini_text.specs.Grammar.Positions.{last_or}
use Rattle.ini_text.specs.Parsing.Fronts.{front_of, IsRest}

-- the front before a rest
scalars-front : (a b : List ℕ) → all_scalars (a ++ b) ≡ true → all_scalars a ≡ true
scalars-front [] b h = refl
scalars-front (c ∷ a) b h = both (scalar c) (all_scalars (a ++ b)) (all_scalars a) h (scalars-front a b)
  where
    both : (x y z : Bool) → (x && y) ≡ true → (y ≡ true → z ≡ true) → (x && z) ≡ true
    both true y z h f = f h
    both false y z h f = h

pub front_bytes : (t r : List ℕ) → IsUtf8 t → IsUtf8 r → IsRest (chars t) (chars r)
    → encode_utf8_all (front_of (chars t) (chars r)) ++ r ≡ t
front_bytes t r u v h =
    ap (λ l. encode_utf8_all (front_of (chars t) (chars r)) ++ l) (sym (encodes-chars r v))
    ∙ sym (encodes-append (front_of (chars t) (chars r)) (chars r)) ∙ ap encode_utf8_all h
    ∙ encodes-chars t u

pub front_boundary : (t r : List ℕ) → IsUtf8 t → IsUtf8 r → IsRest (chars t) (chars r)
    → IsCharBoundary t (length t - length r)
front_boundary t r u v h =
    let f = encode_utf8_all (front_of (chars t) (chars r)) in
    let e : f ++ r ≡ t = front_bytes t r u v h in
    let n : length f ≡ length t - length r = omega (arith, length-append f r, ap length e) in
    subst (IsCharBoundary t) n (IsCharBoundary-at_seam t f r (sym e) v)

pub front_le : (t r : List ℕ) → IsUtf8 t → IsUtf8 r → IsRest (chars t) (chars r) → length r ≤ length t
front_le t r u v h =
    let f = encode_utf8_all (front_of (chars t) (chars r)) in
    omega (arith, length-append f r, ap length (front_bytes t r u v h))

pub front_chars : (t r x : List ℕ) → IsUtf8 t → IsUtf8 r → IsRest (chars t) (chars r)
    → x ≡ take (length t - length r) t → chars x ≡ front_of (chars t) (chars r)
front_chars t r x u v h q =
    let f = encode_utf8_all (front_of (chars t) (chars r)) in
    let e : f ++ r ≡ t = front_bytes t r u v h in
    let n : length t - length r ≡ length f = omega (arith, length-append f r, ap length e) in
    let s : all_scalars (front_of (chars t) (chars r)) ≡ true =
    scalars-front (front_of (chars t) (chars r)) (chars r) (ap all_scalars h ∙ scalars-chars t u) in
    ap chars (q ∙ ap (λ k. take k t) n ∙ ap (take (length f)) (sym e) ∙ take-append_seam f r)
    ∙ chars-encodes (front_of (chars t) (chars r)) s

pub last_or_append : (d c : ℕ) (xs : List ℕ) → last_or d (xs ++ c ∷ []) ≡ c
last_or_append d c [] = refl
last_or_append d c (x ∷ xs) = last_or_append x c xs

cancel : (a b c : List ℕ) → a ++ b ≡ a ++ c → b ≡ c
cancel [] b c h = h
cancel (x ∷ a) b c h = cancel a b c (let z : a ++ b ≡ a ++ c = cc in z)

none_left : (c : ℕ) (es : List ℕ) → encode_utf8_all es ≡ [] → c ∷ es ≡ c ∷ []
none_left c [] h = refl
none_left c (e ∷ es) h = absurd (omega (arith, length-le-encodes (e ∷ es), ap length h))

pub last_chars : (t front : List ℕ) (c : ℕ) → IsUtf8 t → IsUtf8 front → t ≡ front ++ encode_utf8 c
    → chars t ≡ chars front ++ c ∷ []
last_chars t front c ut u h =
    let ds = chars (encode_utf8 c) in
    let split : chars t ≡ chars front ++ ds = ap chars h ∙ chars-append front (encode_utf8 c) u in
    let same : encode_utf8_all ds ≡ encode_utf8 c = cancel front (encode_utf8_all ds) (encode_utf8 c)
    (ap (λ x. x ++ encode_utf8_all ds) (sym (encodes-chars front u))
    ∙ sym (encodes-append (chars front) ds) ∙ ap encode_utf8_all (sym split) ∙ encodes-chars t ut ∙ h) in
    let e = cons_from_encodes ds [] c (same ∙ sym (append-nil (encode_utf8 c))) in
    split ∙ ap (λ x. chars front ++ x) (e.1 ∙ none_left c e.0 e.2)
