-- Trimming a text trims its characters.
use Rattle.std.proofs.Common.{◌≡◌, ℕ, Bool, true, false, ◌&&◌, ◌==◌, List, [], ◌∷◌, length, refl, sym, ap}
use Rattle.std.proofs.Common.{◌∙◌, subst, chars, IsUtf8, IsCharBoundary, ◌++◌, ◌+◌, ◌≤◌, ◌⊎◌, inl, inr, take}
use Rattle.std.proofs.Common.{drop, arith, length-append, take-append-drop, Result, Ok, Err, OnOk}
use Rattle.std.specs.declared.alloc.AllocError.{AllocError}
use Rattle.std.proofs.lemmas.Bool.{and_parts, cond_both, cond-true, cond-false}
use Rattle.std.proofs.lemmas.Str.{chars-encodes, scalars-chars, chars-append, IsUtf8-append, IsUtf8-take}
use Rattle.std.proofs.lemmas.Str.{IsCharBoundary-from_take}
use Rattle.std.specs.Char.{is_whitespace}
use Rattle.std.specs.Str.{all_scalars, skip_leading_whitespace, drop_trailing_whitespace, trim_start}
use Rattle.std.specs.Str.{trim_end, trim}
use lib.Utf8.{scalar}
use Rattle.std.proofs.lemmas.List.{length-take-le}
use Rattle.std.proofs.Math.Seq.{take-append-add, take-append_seam}
use Rattle.ini_text.specs.Inside.Scans.{trimmed_at, begins_white}
use Rattle.ini_text.specs.Grammar.WhiteSpace.{trimmed, end_trimmed}

keep : (a b c : Bool) → (a && b) ≡ true → c ≡ true → (a && c) ≡ true
keep true b c h q = q
keep false b c h q = h

scalars-skip : (cs : List ℕ) → all_scalars cs ≡ true → all_scalars (skip_leading_whitespace cs) ≡ true
scalars-skip [] h = refl
scalars-skip (c ∷ cs) h =
    cond_both (is_whitespace c) _ _ (λ l. all_scalars l ≡ true)
    (λ q. scalars-skip cs (and_parts (scalar c) (all_scalars cs) h).1) (λ q. h)

scalars-drop : (cs : List ℕ) → all_scalars cs ≡ true → all_scalars (drop_trailing_whitespace cs) ≡ true
scalars-drop [] h = refl
scalars-drop (c ∷ cs) h = cond_both (is_whitespace c && (length (drop_trailing_whitespace cs) == 0)) _ _
    (λ l. all_scalars l ≡ true) (λ q. refl)
    (λ q. keep (scalar c) (all_scalars cs) (all_scalars (drop_trailing_whitespace cs)) h
    (scalars-drop cs (and_parts (scalar c) (all_scalars cs) h).1))

pub chars_trim : (bs : List ℕ) → IsUtf8 bs → chars (trim bs) ≡ trimmed (chars bs)
unfolding trim_start trim_end
chars_trim bs u =
    let s = scalars-skip (chars bs) (scalars-chars bs u) in
    ap (λ x. chars (Rattle.std.specs.Str.encode_utf8_all (drop_trailing_whitespace x)))
    (chars-encodes (skip_leading_whitespace (chars bs)) s)
    ∙ chars-encodes (drop_trailing_whitespace (skip_leading_whitespace (chars bs)))
    (scalars-drop (skip_leading_whitespace (chars bs)) s)

pub chars_trim_end : (bs : List ℕ) → IsUtf8 bs → chars (trim_end bs) ≡ end_trimmed (chars bs)
unfolding trim_start trim_end
chars_trim_end bs u =
    chars-encodes (drop_trailing_whitespace (chars bs)) (scalars-drop (chars bs) (scalars-chars bs u))

-- a text as its first n bytes, what k takes of the rest, and what is left
cut-taken : (t k : List ℕ) (n x : ℕ) → k ≡ take x (drop n t) → t ≡ take n t ++ (k ++ drop x (drop n t))
cut-taken t k n x begins =
    sym (take-append-drop n t)
    ∙ ap (λ l. take n t ++ l) (sym (take-append-drop x (drop n t))
    ∙ ap (λ l. l ++ drop x (drop n t)) (sym begins))

take-cut : (t k : List ℕ) (n x : ℕ) → n ≤ length t → k ≡ take x (drop n t)
    → take (n + length k) t ≡ take n t ++ k
take-cut t k n x within begins =
    let z = drop x (drop n t) in
    ap (take (n + length k)) (cut-taken t k n x begins)
    ∙ ap (λ m. take (m + length k) (take n t ++ (k ++ z))) (sym (length-take-le n t within))
    ∙ take-append-add (take n t) (k ++ z) (length k) ∙ ap (λ l. take n t ++ l) (take-append_seam k z)

pub trimmed_boundary : (t part k : List ℕ) (n x : ℕ) → IsUtf8 t → IsUtf8 k → IsCharBoundary t n
    → part ≡ drop n t → k ≡ take x part → IsCharBoundary t (n + length k)
trimmed_boundary t part k n x u v cut is_part begins =
    let z = drop x (drop n t) in
    let begins' : k ≡ take x (drop n t) = begins ∙ ap (take x) is_part in
    let within : n + length k ≤ length t =
    omega (
      arith,
      length-append (take n t) (k ++ z),
      length-append k z,
      length-take-le n t cut.0,
      ap
          length (cut-taken t k n x begins'),
    ) in
    IsCharBoundary-from_take t (n + length k) u within
    (subst IsUtf8 (sym (take-cut t k n x cut.0 begins'))
    (IsUtf8-append (take n t) k (IsUtf8-take t n u cut) v))

pub begins-end_trimmed : (both : Bool) (cs : List ℕ) → (both ≡ false) ⊎ (begins_white cs ≡ false)
    → trimmed_at both cs ≡ end_trimmed cs
begins-end_trimmed true cs (inl h) = cc
begins-end_trimmed false cs h = refl
begins-end_trimmed true [] (inr h) = refl
begins-end_trimmed true (c ∷ cs) (inr h) = ap drop_trailing_whitespace (cond-false (is_whitespace c) _ _ h)

pub end_trimmed_from : (t part k new : List ℕ) (n x : ℕ) (both : Bool) → IsUtf8 t → IsUtf8 part
    → IsCharBoundary t n → part ≡ drop n t → k ≡ take x part → k ≡ trim_end part
    → new ≡ take (n + length k) t
    → (both ≡ false) ⊎ (begins_white (chars part) ≡ false)
    → chars new ≡ chars (take n t) ++ trimmed_at both (chars (drop n t))
end_trimmed_from t part k new n x both u v cut is_part begins trimmed kept ends =
    ap chars (kept ∙ take-cut t k n x cut.0 (begins ∙ ap (take x) is_part))
    ∙ chars-append (take n t) k (IsUtf8-take t n u cut)
    ∙ ap (λ l. chars (take n t) ++ l) (ap chars trimmed ∙ chars_trim_end part v
    ∙ sym (begins-end_trimmed both (chars part) ends) ∙ ap (λ l. trimmed_at both (chars l)) is_part)

pub all_trimmed_from : (r : Result (Unit {0}) AllocError) (t part cut copy new : List ℕ) (n : ℕ)
    (both : Bool) → IsUtf8 part → part ≡ drop n t → cut ≡ take n t → copy ≡ trim part → both ≡ true
    → OnOk r (chars new ≡ chars cut ++ chars copy)
    → OnOk r (chars new ≡ chars (take n t) ++ trimmed_at both (chars (drop n t)))
all_trimmed_from (Ok x) t part cut copy new n both v is_part is_cut is_copy all pushed =
    pushed ∙ ap (λ l. chars l ++ chars copy) is_cut ∙ ap (λ l. chars (take n t) ++ l)
    (ap chars is_copy ∙ chars_trim part v ∙ ap (λ l. trimmed (chars l)) is_part
    ∙ sym (cond-true both _ _ all))
all_trimmed_from (Err x) t part cut copy new n both v is_part is_cut is_copy all pushed = tt
