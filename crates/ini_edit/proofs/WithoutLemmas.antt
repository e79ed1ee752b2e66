-- A section copied without the pairs of a key, pair by pair.
use Rattle.std.proofs.Common.{◌≡◌, ◌∙◌, ◌≤◌, ◌<◌, ◌+◌, ◌-◌, ℕ, Bool, true, false, cond, List, [], ◌∷◌, ◌++◌}
use Rattle.std.proofs.Common.{None, Some, ap, append-nil, append_assoc, arith, drop, get_or, length, refl}
use Rattle.std.proofs.Common.{subst, sym}
use Rattle.std.proofs.lemmas.Bool.{eq-eqb, ne_eqb}
use Rattle.std.proofs.lemmas.List.{drop_all}
use Rattle.std.proofs.lemmas.List.Sums.{sum_by-append}
use Rattle.std.specs.List.{count_by}
use Rattle.std.specs.Option.{option_map}
use Rattle.ini_text.specs.declared.option.ParseOption.{ParseOption}
use Rattle.ini.specs.Texts.{Text, is_text}
use Rattle.ini_edit.specs.Inside.SourceEnds.{IsWithout}
use Rattle.ini_edit.specs.SourceEdits.{with_pairs}
use Rattle.ini_edit.specs.SourceEditsDelete.{pair_taken_out, rest_put, with_rest}
use Rattle.ini_edit.specs.SourcePlaces.{Place, last_changed, nth_place, one_on}
use Rattle.ini_edit.specs.Sources.{PairPiece, SectionPiece}
use Rattle.ini_edit.proofs.DeletedSourceLemmas.{count_apart, count_fits, keyed_count, taken_given}
use Rattle.ini_edit.proofs.FirstLemmas.{rest_here}
use Rattle.ini_edit.proofs.SourcePlaceLemmas.{nth_apart, nth_here, nth_later}

module _ {A : Type 0} (test : A → Bool) where
  -- the one that fits after all others that do
  nth_after : (xs : List A) (y : A) (ys : List A) (n : ℕ) → count_by test xs ≡ n → test y ≡ true
      → nth_place test n (xs ++ y ∷ ys) ≡ Some (record { before = xs; here = y; after = ys })
  nth_after [] y ys n is fits = nth_here test n y ys fits (eq-eqb n 0 (sym is))
  nth_after (x ∷ xs) y ys n is fits = by (test x) refl (λ m h. nth_after xs y ys m h fits)
    where
      by : (b : Bool) → test x ≡ b
          → ((m : ℕ) → count_by test xs ≡ m
          → nth_place test m (xs ++ y ∷ ys) ≡ Some (record { before = xs; here = y; after = ys }))
          → nth_place test n (x ∷ (xs ++ y ∷ ys)) ≡ Some (record { before = x ∷ xs; here = y; after = ys })
      by true h more =
          let counted = count_fits test x xs h in
          let one_less : count_by test xs ≡ n - 1 = omega (arith, counted, is) in
          let some : n ≡ 0 → ⊥ = λ none. omega (arith, counted, is, none) in
          nth_later test n x (xs ++ y ∷ ys) h (ne_eqb n 0 some)
          ∙ ap (option_map (one_on x)) (more (n - 1) one_less)
      by false h more =
          nth_apart test n x (xs ++ y ∷ ys) h
          ∙ ap (option_map (one_on x)) (more n (sym (count_apart test x xs h) ∙ is))

  -- no such one where no more fit
  pub nth_few : (xs : List A) (n : ℕ) → count_by test xs ≤ n → nth_place test n xs ≡ None
  nth_few [] n few = refl
  nth_few (x ∷ xs) n few = by (test x) refl (nth_few xs)
    where
      by : (b : Bool) → test x ≡ b → ((m : ℕ) → count_by test xs ≤ m → nth_place test m xs ≡ None)
          → nth_place test n (x ∷ xs) ≡ None
      by true h more =
          let counted = count_fits test x xs h in
          let one_less : count_by test xs ≤ n - 1 = omega (arith, counted, few) in
          let some : n ≡ 0 → ⊥ = λ none. omega (arith, counted, few, none) in
          nth_later test n x xs h (ne_eqb n 0 some) ∙ ap (option_map (one_on x)) (more (n - 1) one_less)
      by false h more =
          let same = count_apart test x xs h in
          nth_apart test n x xs h ∙ ap (option_map (one_on x)) (more n (omega (arith, same, few)))

-- pairs after what a section's last pair or header took
rest_more : (o : ParseOption) (lines g : Text) (s : SectionPiece) (ps before after : List PairPiece)
    → with_pairs (rest_put o lines g s before []) ((rest_put o lines g s before []).pairs ++ after)
    ≡ rest_put o lines g (with_pairs s ps) before after
rest_more o lines g s ps [] after = refl
rest_more o lines g s ps (x ∷ xs) after =
    ap (λ l. with_pairs s (l ++ after)) (append-nil (last_changed (with_rest o lines g) (x ∷ xs)))

pub pushed_rest : (o : ParseOption) (s : SectionPiece) (x : PairPiece) (after : List PairPiece)
    {next : SectionPiece} (lines g : Text) → next ≡ rest_put o lines g s s.pairs []
    → with_pairs next (next.pairs ++ after)
    ≡ rest_put o lines g (with_pairs s (s.pairs ++ x ∷ after)) s.pairs after
pushed_rest o s x after {next} lines g put =
    ap (λ t. with_pairs t (t.pairs ++ after)) put ∙ rest_more o lines g s (s.pairs ++ x ∷ after) s.pairs after

module _ (o : ParseOption) (front : ℕ) where
  module _ (key : Text) (kept : ℕ) where
    abbrev keyed : PairPiece → Bool
    keyed p = is_text key p.key

    taken_as_many : (s : SectionPiece) (p : Place PairPiece)
        → count_by keyed (pair_taken_out o front s p).pairs ≡ count_by keyed (p.before ++ p.after)
    taken_as_many s p =
        keyed_count o None key (pair_taken_out o front s p).pairs
        ∙ ap (λ g. count_by (λ g. is_text key g.0) g.1) (taken_given o front s p)
        ∙ sym (keyed_count o None key (p.before ++ p.after))

    -- of the old section the pairs up to the index are copied or out, and of the key so many are left to
    -- copy
    pub record WithoutSoFar (old : SectionPiece) (items : List PairPiece) (new : SectionPiece)
        (left i : ℕ) : Type 0 where
      pub goes_on : {all : SectionPiece}
          → IsWithout o front key kept (with_pairs new (new.pairs ++ drop i items)) all
          → IsWithout o front key kept old all
      pub copied : count_by keyed new.pairs + left ≡ kept

    pub without_start : {old new : SectionPiece} {items : List PairPiece} → items ≡ old.pairs
        → new ≡ with_pairs old [] → WithoutSoFar old items new kept 0
    without_start {old} {new} {items} whole is = record {
      goes_on = λ {all} h. subst (λ s. IsWithout o front key kept s all)
          (ap (λ s. with_pairs s (s.pairs ++ items)) is ∙ ap (with_pairs old) whole) h;
      copied = (let none : count_by keyed new.pairs ≡ 0 = ap (λ s. count_by keyed s.pairs) is in
          omega (arith, none));
    }

    module _ {old new : SectionPiece} {items : List PairPiece} {left i : ℕ}
        (so_far : WithoutSoFar old items new left i) where
      pub without_end : length items ≤ i → IsWithout o front key kept old new
      without_end h =
          let few : count_by keyed new.pairs ≤ kept = omega (arith, so_far.copied) in
          so_far.goes_on (subst (λ s. IsWithout o front key kept s new)
          (ap (with_pairs new) (sym (append-nil new.pairs)
          ∙ ap (λ l. new.pairs ++ l) (sym (drop_all i items h))))
          (IsWithout.no_more (nth_few keyed new.pairs kept few)))

      module _ {x : PairPiece} (within : i < length items) (is : x ≡ get_or items i x) where
        at_rest : (new.pairs ++ x ∷ []) ++ drop (i + 1) items ≡ new.pairs ++ drop i items
        at_rest =
            append_assoc new.pairs (x ∷ []) (drop (i + 1) items)
            ∙ ap (λ l. new.pairs ++ l) (sym (rest_here items i x within is))

        put : {y : PairPiece} {next : SectionPiece} {fewer : ℕ} → y ≡ x
            → next ≡ with_pairs new (new.pairs ++ y ∷ []) → count_by keyed (x ∷ []) + fewer ≡ left
            → WithoutSoFar old items next fewer (i + 1)
        put {y} {next} {fewer} copy pushed one =
            let now : next ≡ with_pairs new (new.pairs ++ x ∷ []) =
            pushed ∙ ap (λ z. with_pairs new (new.pairs ++ z ∷ [])) copy in
            let sum = sum_by-append (λ z. cond (keyed z) 1 0) new.pairs (x ∷ []) in
            let counted : count_by keyed next.pairs ≡ count_by keyed (new.pairs ++ x ∷ []) =
            ap (λ s. count_by keyed s.pairs) now in
            record {
              goes_on = λ {all} h. so_far.goes_on (subst (λ s. IsWithout o front key kept s all)
                  (ap (λ s. with_pairs s (s.pairs ++ drop (i + 1) items)) now
                  ∙ ap (with_pairs new) at_rest) h);
              copied = omega (arith, counted, sum, one, so_far.copied);
            }

        pub without_other : {y : PairPiece} {next : SectionPiece} → keyed x ≡ false → y ≡ x
            → next ≡ with_pairs new (new.pairs ++ y ∷ []) → WithoutSoFar old items next left (i + 1)
        without_other apart copy pushed =
            let none : count_by keyed (x ∷ []) ≡ 0 = count_apart keyed x [] apart in
            put copy pushed (omega (arith, none))

        pub without_kept : {y : PairPiece} {next : SectionPiece} → keyed x ≡ true → (left ≡ 0 → ⊥) → y ≡ x
            → next ≡ with_pairs new (new.pairs ++ y ∷ []) → WithoutSoFar old items next (left - 1) (i + 1)
        without_kept fits more copy pushed =
            let one : count_by keyed (x ∷ []) ≡ 1 = count_fits keyed x [] fits in
            put copy pushed (omega (arith, one, more))

        pub without_out : {next : SectionPiece} → keyed x ≡ true → left ≡ 0
            → with_pairs next (next.pairs ++ drop (i + 1) items)
            ≡ pair_taken_out o front (with_pairs new (new.pairs ++ x ∷ drop (i + 1) items))
            (record { before = new.pairs; here = x; after = drop (i + 1) items })
            → WithoutSoFar old items next left (i + 1)
        without_out {next} fits none taken =
            let after = drop (i + 1) items in
            let s = with_pairs new (new.pairs ++ x ∷ after) in
            let place : Place PairPiece = record { before = new.pairs; here = x; after = after } in
            let all_copied : count_by keyed new.pairs ≡ kept = omega (arith, none, so_far.copied) in
            let all : count_by keyed (next.pairs ++ after) ≡ count_by keyed (new.pairs ++ after) =
            ap (λ s. count_by keyed s.pairs) taken ∙ taken_as_many s place in
            let same : count_by keyed next.pairs ≡ count_by keyed new.pairs =
            omega (
              arith,
              all,
              sum_by-append (λ z. cond (keyed z) 1 0) next.pairs after,
              sum_by-append (λ z. cond (keyed z) 1 0) new.pairs after,
            ) in
            record {
              goes_on = λ {all} h. so_far.goes_on (subst (λ s. IsWithout o front key kept s all)
                  (ap (λ l. with_pairs new (new.pairs ++ l)) (sym (rest_here items i x within is)))
                  (IsWithout.one_more (nth_after keyed new.pairs x (drop (i + 1) items) kept all_copied fits)
                  (subst (λ s. IsWithout o front key kept s all) taken h)));
              copied = omega (arith, same, so_far.copied);
            }
