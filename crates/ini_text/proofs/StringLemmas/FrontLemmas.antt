-- A front grows by what is read.
use Rattle.std.proofs.Common.{◌≡◌, ℕ, ◌-◌, List, ◌++◌, length, take, sym, ap, ◌∙◌, append_assoc, arith}
use Rattle.std.proofs.Common.{length-append}
use Rattle.std.proofs.Math.Seq.{take-append_seam}
use Rattle.ini_text.specs.Parsing.Fronts.{front_of, IsRest}

pub front_is : (f r t : List ℕ) → f ++ r ≡ t → front_of t r ≡ f
front_is f r t h = ap (λ x. take (length x - length r) x) (sym h)
    ∙ ap (λ n. take n (f ++ r)) (let e : length (f ++ r) - length r ≡ length f =
    omega (arith, length-append f r) in e) ∙ take-append_seam f r

pub front_grows : (t r s u : List ℕ) → IsRest t r → r ≡ s ++ u
    → (front_of t u ≡ front_of t r ++ s) × IsRest t u
front_grows t r s u h q =
    let whole : (front_of t r ++ s) ++ u ≡ t =
    append_assoc (front_of t r) s u ∙ ap (λ x. front_of t r ++ x) (sym q) ∙ h in
    let e = front_is (front_of t r ++ s) u t whole in
    (e, ap (λ x. x ++ u) e ∙ whole)
