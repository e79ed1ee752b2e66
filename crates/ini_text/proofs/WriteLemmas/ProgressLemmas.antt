-- Bytes on their way to a writer.
use Rattle.std.proofs.Common.{◌≡◌, ℕ, ◌+◌, ◌-◌, List, [], ◌++◌, Option, Some, None, refl, sym, ap, ◌∙◌, subst}
use Rattle.std.proofs.Common.{length, take, drop, arith, length-append, length-drop, append_assoc, append-nil}
use Rattle.std.proofs.Common.{take-append-drop, take_all}
use Rattle.std.proofs.Math.Seq.{take-append-add}
use Rattle.std.proofs.lemmas.List.{take-append-le}
use Rattle.std.proofs.KnownBytes.{Appends-trans}
use Rattle.std.specs.Io.KnownBytes.{Appends, Keeps}
use Rattle.ini_text.specs.Device.Watched.{AppendsFront}

-- a part of the whole was appended, and the rest is to come
pub record IsUnderWay (old new : Option (List ℕ)) (whole rest : List ℕ) : Type 0 where
  pub done : List ℕ
  pub appended : Appends old new done
  pub parts : whole ≡ done ++ rest

pub Appends-kept : (a b : Option (List ℕ)) → Keeps a b → Appends a b []
Appends-kept None b kept = tt
Appends-kept (Some xs) None kept = kept
Appends-kept (Some xs) (Some ys) kept = kept ∙ sym (append-nil xs)

-- the next part is appended
pub under_way_more : {a b c : Option (List ℕ)} {whole rest ys : List ℕ} (xs : List ℕ)
    → IsUnderWay a b whole rest → rest ≡ xs ++ ys → Appends b c xs
    → IsUnderWay a c whole ys
under_way_more {a} {b} {c} {whole} {rest} {ys} xs before next more = record {
  done = before.done ++ xs;
  appended = Appends-trans a b c before.done xs before.appended more;
  parts = before.parts ∙ ap (λ l. before.done ++ l) next ∙ sym (append_assoc before.done xs ys);
}

-- the first n bytes of the rest are appended, and the slice `&rest[n..]` is to come
pub under_way_past : {a b c : Option (List ℕ)} {whole rest : List ℕ} (n : ℕ) → IsUnderWay a b whole rest
    → Appends b c (take n rest)
    → IsUnderWay a c whole (take (length rest - n) (drop n rest))
under_way_past {a} {b} {c} {whole} {rest} n before more =
    let slice = take_all (length rest - n) (drop n rest) (omega (arith, length-drop n rest)) in
    rw slice (under_way_more (take n rest) before (sym (take-append-drop n rest)) more)

-- a front of the next part, with what went before, is a front of the whole
pub under_way_front : {a b : Option (List ℕ)} {whole rest : List ℕ} (c : Option (List ℕ)) (xs ys : List ℕ)
    → IsUnderWay a b whole rest → rest ≡ xs ++ ys
    → AppendsFront b c xs → AppendsFront a c whole
under_way_front {a} {b} {whole} {rest} c xs ys before next (n, within, more) =
    let done = before.done in
    let all : whole ≡ done ++ (xs ++ ys) = before.parts ∙ ap (λ l. done ++ l) next in
    let front : take (length done + n) whole ≡ done ++ take n xs =
    ap (take (length done + n)) all ∙ take-append-add done (xs ++ ys) n
    ∙ ap (λ l. done ++ l) (take-append-le n xs ys within) in (
      length done + n,
      omega (arith, ap length all, length-append done (xs ++ ys), length-append xs ys),
      subst (Appends a c) (sym front) (Appends-trans a b c done (take n xs) before.appended more),
    )

-- a write that appends nothing leaves a front of the whole
pub under_way_kept : {a b : Option (List ℕ)} {whole rest : List ℕ} (c : Option (List ℕ))
    → IsUnderWay a b whole rest → Keeps b c → AppendsFront a c whole
under_way_kept {a} {b} {whole} {rest} c before kept =
    under_way_front c [] rest before refl (0, omega arith, Appends-kept b c kept)
