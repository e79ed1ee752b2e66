-- The lines of bytes: where the first one ends, and where the last one begins.
use Rattle.std.proofs.Common.{◌≡◌, ℕ, ◌+◌, ◌<◌, ◌≤◌, zero, suc, List, [], ◌∷◌, ◌++◌, length, get_or, take}
use Rattle.std.proofs.Common.{drop, refl, ap, sym, ◌∙◌, arith, inl, inr}
use Rattle.std.proofs.lemmas.Bool.{ne_eqb, eq-eqb}
use Rattle.std.proofs.lemmas.Bool.Decides.{eqb_tells}
use Rattle.std.specs.List.{onto_first}
use Rattle.ini_text.specs.Grammar.CharacterKinds.{line_feed}
use Rattle.ini_file.specs.Diffs.{Line, lines_of}

lines_of-feed : (x : ℕ) (xs : List ℕ) → x ≡ line_feed → lines_of (x ∷ xs) ≡ (x ∷ []) ∷ lines_of xs
lines_of-feed x xs e = rw (eq-eqb x line_feed e) refl

lines_of-other : (x : ℕ) (xs : List ℕ) → (x ≡ line_feed → ⊥) → lines_of (x ∷ xs) ≡ onto_first x (lines_of xs)
lines_of-other x xs ne = rw (ne_eqb x line_feed ne) refl

-- the first line ends at the first line feed
pub lines_of-at : (xs : List ℕ) (i : ℕ) → i < length xs → get_or xs i 0 ≡ line_feed
    → ((k : ℕ) → k < i → get_or xs k 0 ≡ line_feed → ⊥)
    → lines_of xs ≡ take (suc i) xs ∷ lines_of (drop (suc i) xs)
lines_of-at [] i h e none = absurd (omega arith)
lines_of-at (x ∷ xs) zero h e none = lines_of-feed x xs e
lines_of-at (x ∷ xs) (suc i) h e none =
    let ne : x ≡ line_feed → ⊥ = none 0 (omega arith) in
    let more : (k : ℕ) → k < i → get_or xs k 0 ≡ line_feed → ⊥ = λ k l. none (suc k) (omega arith) in
    let lines = lines_of-at xs i (omega arith) e more in
    lines_of-other x xs ne ∙ ap (onto_first x) lines

-- where no line feed stands before the last byte, there is one line
pub lines_of-one : (xs : List ℕ) → 0 < length xs
    → ((k : ℕ) → k + 1 < length xs → get_or xs k 0 ≡ line_feed → ⊥) → lines_of xs ≡ xs ∷ []
lines_of-one [] h none = absurd (omega arith)
lines_of-one (x ∷ []) h none = elim (eqb_tells x line_feed) [
  | inl e ↦ lines_of-feed x [] e.1
  | inr e ↦ lines_of-other x [] e.1
]
lines_of-one (x ∷ y ∷ ys) h none =
    let ne : x ≡ line_feed → ⊥ = none 0 (omega arith) in
    let more : (k : ℕ) → k + 1 < length (y ∷ ys) → get_or (y ∷ ys) k 0 ≡ line_feed → ⊥ =
    λ k l. none (suc k) (omega arith) in
    lines_of-other x (y ∷ ys) ne ∙ ap (onto_first x) (lines_of-one (y ∷ ys) (omega arith) more)

-- bytes have a first line
lines_of-some : (x : ℕ) (xs : List ℕ)
    → (line : Line) × (lines : List Line) × (lines_of (x ∷ xs) ≡ line ∷ lines)
lines_of-some x xs = elim (eqb_tells x line_feed) [
  | inl e ↦ (x ∷ [], lines_of xs, lines_of-feed x xs e.1)
  | inr e ↦ elim (lines_of xs) as (λ ls. lines_of xs ≡ ls
      → (line : Line) × (lines : List Line) × (lines_of (x ∷ xs) ≡ line ∷ lines)) [
        | [] ↦ λ h. (x ∷ [], [], lines_of-other x xs e.1 ∙ ap (onto_first x) h)
        | l ∷ ls ↦ λ h. (x ∷ l, ls, lines_of-other x xs e.1 ∙ ap (onto_first x) h)
      ] refl
]

onto_first-append : (x : ℕ) (some more : List Line) (line : Line) (lines : List Line) → some ≡ line ∷ lines
    → onto_first x (some ++ more) ≡ onto_first x some ++ more
onto_first-append x some more line lines e = rw e refl

-- the last line begins after the last line feed but one at the end
pub lines_of-last : (xs : List ℕ) (i : ℕ) → i < length xs → ((j : ℕ) → suc j ≡ i → get_or xs j 0 ≡ line_feed)
    → ((k : ℕ) → i ≤ k → k + 1 < length xs → get_or xs k 0 ≡ line_feed → ⊥)
    → lines_of xs ≡ lines_of (take i xs) ++ drop i xs ∷ []
lines_of-last [] i h before none = absurd (omega arith)
lines_of-last (x ∷ xs) zero h before none = lines_of-one (x ∷ xs) h (λ k l. none k (omega arith) l)
lines_of-last (x ∷ xs) (suc zero) h before none =
    let e : x ≡ line_feed = before 0 refl in
    let one = lines_of-one xs (omega arith) (λ k l. none (suc k) (omega arith) (omega arith)) in
    lines_of-feed x xs e ∙ ap (λ ls. (x ∷ []) ∷ ls) one
    ∙ sym (ap (λ ls. ls ++ xs ∷ []) (lines_of-feed x [] e))
lines_of-last (x ∷ []) (suc (suc i)) h before none = absurd (omega arith)
lines_of-last (x ∷ y ∷ ys) (suc (suc i)) h before none =
    let sooner : (j : ℕ) → suc j ≡ suc i → get_or (y ∷ ys) j 0 ≡ line_feed =
    λ j e. before (suc j) (ap suc e) in
    let later : (k : ℕ) → suc i ≤ k → k + 1 < length (y ∷ ys) → get_or (y ∷ ys) k 0 ≡ line_feed → ⊥ =
    λ k l m. none (suc k) (omega arith) (omega arith) in
    let lines = lines_of-last (y ∷ ys) (suc i) (omega arith) sooner later in
    let some = lines_of-some y (take i ys) in
    elim (eqb_tells x line_feed) [
      | inl e ↦ lines_of-feed x (y ∷ ys) e.1 ∙ ap (λ ls. (x ∷ []) ∷ ls) lines
          ∙ sym (ap (λ ls. ls ++ drop i ys ∷ []) (lines_of-feed x (y ∷ take i ys) e.1))
      | inr e ↦ lines_of-other x (y ∷ ys) e.1 ∙ ap (onto_first x) lines
          ∙ onto_first-append x (lines_of (y ∷ take i ys)) (drop i ys ∷ []) some.0 some.1 some.2
          ∙ sym (ap (λ ls. ls ++ drop i ys ∷ []) (lines_of-other x (y ∷ take i ys) e.1))
    ]
