-- Bytes that are appended to those of a buffer.
use Rattle.std.proofs.Common.{◌≡◌, ℕ, ◌+◌, ◌≤◌, List, [], ◌++◌, length, take, drop, ap, ap₂, ◌∙◌, sym, arith}
use Rattle.std.proofs.Common.{append_assoc, append-nil}
use lib.Lanes.{chunk}
use Rattle.std.proofs.Math.Seq.{take-append_seam}
use Rattle.std.proofs.lemmas.List.{length-drop, length-take, take-append-drop, take-append-le, take-take}
use Rattle.std.proofs.lemmas.List.{take_all}
use Rattle.ini_text.specs.Buffered.{IsFront}

-- a run and a piece, appended to the first bytes
pub placed_run : (len run end : ℕ) (before bytes lanes after piece : List ℕ) → run ≤ 16
    → take (len + run) lanes ≡ take len before ++ take run (chunk 0 16 bytes)
    → take end after ≡ take (len + run) lanes ++ piece
    → take end after ≡ take len before ++ (take run bytes ++ piece)
placed_run len run end before bytes lanes after piece below first second =
    second ∙ ap (λ l. l ++ piece) (first ∙ ap (λ l. take len before ++ l) (take-take run 16 bytes below))
    ∙ append_assoc (take len before) (take run bytes) piece

-- eight to sixteen bytes, put by their first eight and their last
pub placed_few : (len back : ℕ) (before bytes mid after : List ℕ) → length bytes ≡ back + 8 → back ≤ 8
    → take (len + back) mid ≡ take len before ++ take back (chunk 0 8 bytes)
    → take (len + back + 8) after ≡ take (len + back) mid ++ take 8 (chunk 0 8 (drop back bytes))
    → take (len + length bytes) after ≡ take len before ++ bytes
placed_few len back before bytes mid after long few first second =
    let end : len + length bytes ≡ len + back + 8 = omega arith in
    let last : take 8 (take 8 (drop back bytes)) ≡ drop back bytes =
    take-take 8 8 (drop back bytes) (omega arith)
    ∙ take_all 8 (drop back bytes) (omega (arith, length-drop back bytes)) in
    ap (λ k. take k after) end ∙ second
    ∙ ap₂ (λ a b. a ++ b) (first ∙ ap (λ l. take len before ++ l) (take-take back 8 bytes few)) last
    ∙ append_assoc (take len before) (take back bytes) (drop back bytes)
    ∙ ap (λ l. take len before ++ l) (take-append-drop back bytes)

-- lanes of which none counts
pub placed_none : (len : ℕ) (before after : List ℕ) → take (len + 0) after ≡ take len before ++ []
    → take len after ≡ take len before
placed_none len before after is =
    let end : len ≡ len + 0 = omega arith in
    ap (λ k. take k after) end ∙ is ∙ append-nil (take len before)

-- a front is as long at most
front-length : (xs ys : List ℕ) → IsFront xs ys → length xs ≤ length ys
front-length xs ys front = omega (arith, ap length front, length-take (length xs) ys)

-- one of a front is one of the whole
pub front-then : (xs ys zs : List ℕ) → IsFront xs ys → IsFront ys zs → IsFront xs zs
front-then xs ys zs first second =
    sym (take-take (length xs) (length ys) zs (front-length xs ys first))
    ∙ ap (take (length xs)) second ∙ first

-- what was there is a front of what is there with more
pub front-appended : (xs ys : List ℕ) {more : List ℕ} → more ≡ xs ++ ys → IsFront xs more
front-appended xs ys is = ap (take (length xs)) is ∙ take-append_seam xs ys

-- also where some are left to come
pub front-pushed : (before after xs ys : List ℕ) → length before ≤ length after
    → after ++ xs ≡ before ++ ys → IsFront before after
front-pushed before after xs ys longer same =
    sym (take-append-le (length before) after xs longer) ∙ ap (take (length before)) same
    ∙ take-append_seam before ys
