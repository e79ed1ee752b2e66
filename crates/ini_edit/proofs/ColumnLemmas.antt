-- Steps of the walk that looks for the column of separators, and a key that is aligned.
use Rattle.std.proofs.Common.{◌≡◌, ◌∙◌, ◌<◌, ◌≤◌, ◌+◌, ◌-◌, ℕ, Bool, true, false, List, ◌++◌, ap, ap₂}
use Rattle.std.proofs.Common.{append-nil, append_assoc, arith, drop, get_or, length, max, replicate, sym}
use Rattle.std.proofs.lemmas.Bool.{cond-false, cond-true}
use Rattle.std.proofs.lemmas.List.{drop_all}
use Rattle.ini.specs.Texts.{Text}
use Rattle.ini_text.specs.Grammar.CharacterKinds.{space}
use Rattle.ini_edit.specs.SourceLayout.{Rules, aligned_key, joins, key_width, run_column}
use Rattle.ini_edit.specs.Sources.{PairPiece}
use Rattle.ini_edit.proofs.LayoutLemmas.{here}

module _ (r : Rules) (ps : List PairPiece) (i : ℕ) where
  -- the column of pairs, of which one more is looked at
  pub run_step : (p : PairPiece) (column : ℕ) {width next whole : ℕ} {joined : Bool} → i < length ps
      → p ≡ get_or ps i p → max column (run_column r (drop i ps)) ≡ whole
      → width ≡ key_width r p → next ≡ max column width → joined ≡ joins r p
      → joined ≡ true → max next (run_column r (drop (i + 1) ps)) ≡ whole
  run_step p column {width} {next} within is so_far width_is next_is joined_is goes_on =
      let rest = run_column r (drop (i + 1) ps) in
      let at : run_column r (drop i ps) ≡ max width rest =
      ap (run_column r) (here ps i p within is)
      ∙ ap₂ max (sym width_is) (cond-true _ _ _ (sym joined_is ∙ goes_on)) in
      omega (arith, so_far, at, next_is)

  pub run_stop : (p : PairPiece) (column : ℕ) {width next whole : ℕ} {joined : Bool} → i < length ps
      → p ≡ get_or ps i p → max column (run_column r (drop i ps)) ≡ whole
      → width ≡ key_width r p → next ≡ max column width → joined ≡ joins r p
      → joined ≡ false → next ≡ whole
  run_stop p column {width} {next} within is so_far width_is next_is joined_is ends =
      let at : run_column r (drop i ps) ≡ max width 0 =
      ap (run_column r) (here ps i p within is)
      ∙ ap₂ max (sym width_is) (cond-false _ _ _ (sym joined_is ∙ ends)) in
      omega (arith, so_far, at, next_is)

  pub run_end : (column : ℕ) {whole : ℕ} → length ps ≤ i → max column (run_column r (drop i ps)) ≡ whole
      → column ≡ whole
  run_end column all so_far =
      let at : run_column r (drop i ps) ≡ 0 = ap (run_column r) (drop_all i ps all) in
      omega (arith, so_far, at)

-- a key that begins in column 0 gets no space; and another one
pub aligned_none : (column : ℕ) (key : Text) → column ≡ 0 → aligned_key column key ≡ key
aligned_none column key none =
    let less : column - length key ≡ 0 = omega (arith, none) in
    ap (λ n. key ++ replicate n space) less ∙ append-nil key

pub aligned_is : (column : ℕ) (out : Text) {key laid one two : Text} {n : ℕ} → laid ≡ key
    → one ≡ out ++ laid → n ≡ length laid → two ≡ one ++ replicate (column - n) space
    → two ≡ out ++ aligned_key column key
aligned_is column out {key} {laid} {one} {two} {n} laid_is one_is n_is two_is =
    two_is ∙ ap (λ m. one ++ replicate (column - m) space) n_is
    ∙ ap (λ t. t ++ replicate (column - length laid) space) one_is
    ∙ append_assoc out laid (replicate (column - length laid) space)
    ∙ ap (λ t. out ++ aligned_key column t) laid_is
