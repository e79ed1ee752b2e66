-- Values that C gives one after another: those that were taken, and those that are left.
use Rattle.std.proofs.Common.{◌≡◌, ◌<◌, ◌≤◌, ◌∙◌, ◌+◌, ◌↔◌, ℕ, List, [], ◌∷◌, ◌++◌, ap, append_assoc}
use Rattle.std.proofs.Common.{append-nil, chars, drop, get_or, length, refl, subst, sym, take}
use Rattle.std.proofs.lemmas.List.{drop_all, drop_more}
use Rattle.ini.specs.Texts.{Text}
use Rattle.ini_c.specs.Given.{AreGiven, IsGiven, after_given, values_given}

module _ (bytes counts : List ℕ) where
  -- so many counts were looked at, and these bytes are left
  pub record GivenUpTo (i : ℕ) (rest : List ℕ) (values : List Text) : Type 0 where
    pub all : values ++ values_given rest (drop i counts) ≡ values_given bytes counts
    pub given : AreGiven rest (drop i counts) ↔ AreGiven bytes counts

  pub given_start : GivenUpTo 0 bytes []
  given_start = record { all = refl; given = (λ x. x, λ x. x) }

  module _ {i : ℕ} {rest : List ℕ} {values : List Text} (g : GivenUpTo i rest values) where
    pub values_end : length counts ≤ i → values ≡ values_given bytes counts
    values_end past =
        sym (append-nil values)
        ∙ ap (λ l. values ++ values_given rest l) (sym (drop_all i counts past)) ∙ g.all

    pub given_end : length counts ≤ i → AreGiven bytes counts
    given_end past = g.given.0 (subst (AreGiven rest) (sym (drop_all i counts past)) tt)

    module _ (n : ℕ) (within : i < length counts) (is : n ≡ get_or counts i 0) where
      left : drop i counts ≡ n ∷ drop (i + 1) counts
      left = drop_more counts i 0 within ∙ ap (λ m. m ∷ drop (i + 1) counts) (sym is)

      pub none_given : ¬ IsGiven rest n → ¬ AreGiven bytes counts
      none_given none = λ all. none (subst (AreGiven rest) left (g.given.1 all)).0

      pub one_more : {value following : List ℕ} → IsGiven rest n → value ≡ take n rest
          → following ≡ after_given rest n → GivenUpTo (i + 1) following (values ++ chars value ∷ [])
      one_more {value} {following} one first others = record {
        all = append_assoc values (chars value ∷ []) (values_given following (drop (i + 1) counts))
            ∙ ap (λ v. values ++ chars v ∷ values_given following (drop (i + 1) counts)) first
            ∙ ap (λ r. values ++ chars (take n rest) ∷ values_given r (drop (i + 1) counts)) others
            ∙ ap (λ l. values ++ values_given rest l) (sym left) ∙ g.all;
        given = (
          λ more. g.given.0 (subst (AreGiven rest) (sym left)
              (one, subst (λ r. AreGiven r (drop (i + 1) counts)) others more)),
          λ all. subst (λ r. AreGiven r (drop (i + 1) counts)) (sym others)
              (subst (AreGiven rest) left (g.given.1 all)).1,
        );
      }
