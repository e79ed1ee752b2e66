-- All values of a key, gathered from pair to pair.
use Rattle.std.proofs.Common.{◌≡◌, ◌∙◌, ◌<◌, ◌≤◌, ◌+◌, ℕ, true, false, List, [], ◌∷◌, ◌++◌, length, map, ap}
use Rattle.std.proofs.Common.{append_assoc, append-nil, drop, get_or, refl, sym}
use Rattle.std.proofs.lemmas.List.{drop_all, drop_more}
use Rattle.ini.specs.Properties.{values}
use Rattle.ini.specs.Texts.{Text, is_text}
use Rattle.ini_edit.specs.Sources.{PairPiece, given_pair}

-- the first of them
module _ (key : Text) (x : PairPiece) (xs : List PairPiece) where
  values_apart : is_text key x.key ≡ false
      → values key (map given_pair (x ∷ xs)) ≡ values key (map given_pair xs)
  values_apart apart = rw apart refl

  values_same : is_text key x.key ≡ true
      → values key (map given_pair (x ∷ xs)) ≡ x.value ∷ values key (map given_pair xs)
  values_same same = rw same refl

module _ (key : Text) (ps : List PairPiece) where
  -- of the pairs up to the index all were found
  pub record GathersTo (i : ℕ) (found : List Text) : Type 0 where
    pub all : found ++ values key (map given_pair (drop i ps)) ≡ values key (map given_pair ps)

  pub gathered_start : GathersTo 0 []
  gathered_start = record { all = refl }

  pub gathered_end : {i : ℕ} {found : List Text} → GathersTo i found → length ps ≤ i
      → found ≡ values key (map given_pair ps)
  gathered_end {i} {found} g h =
      sym (append-nil found)
      ∙ ap (λ l. found ++ values key (map given_pair l)) (sym (drop_all i ps h)) ∙ g.all

  module _ {i : ℕ} {found : List Text} {x : PairPiece} (g : GathersTo i found) (within : i < length ps)
      (is : x ≡ get_or ps i x) where
    following : drop i ps ≡ x ∷ drop (i + 1) ps
    following = drop_more ps i x within ∙ ap (λ y. y ∷ drop (i + 1) ps) (sym is)

    pub gathered_apart : is_text key x.key ≡ false → GathersTo (i + 1) found
    gathered_apart apart = record {
      all = ap (λ l. found ++ l) (sym (ap (λ l. values key (map given_pair l)) following
          ∙ values_apart key x (drop (i + 1) ps) apart)) ∙ g.all;
    }

    pub gathered_same : is_text key x.key ≡ true → GathersTo (i + 1) (found ++ x.value ∷ [])
    gathered_same same = record {
      all = append_assoc found (x.value ∷ []) (values key (map given_pair (drop (i + 1) ps)))
          ∙ ap (λ l. found ++ l) (sym (ap (λ l. values key (map given_pair l)) following
          ∙ values_same key x (drop (i + 1) ps) same)) ∙ g.all;
    }
