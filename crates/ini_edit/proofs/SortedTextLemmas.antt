-- What a text comes to that is sorted: where its units' text says the same, and where it is left as it is.
use Rattle.std.proofs.Common.{◌≡◌, List, [], ◌∷◌, ◌++◌, None, Some, ap, map, refl, subst, sym}
use Rattle.std.proofs.lemmas.List.Sorted.{IsPermutation-refl}
use Rattle.ini.specs.Texts.{Text}
use Rattle.ini_text.specs.declared.option.ParseOption.{ParseOption}
use Rattle.ini_edit.specs.Sorting.{KeepsAll, IsOrdered, IsSortOf, IsTextOf, Misses, Says, SectionUnit}
use Rattle.ini_edit.specs.Sorting.{units_in, units_text}
use Rattle.ini_edit.specs.Sources.{Pieces, document_in, joined}
use Rattle.ini_edit.specs.WholeTexts.{IsReadInPieces}
use Rattle.ini_edit.specs.declared.source.layout.Loss.{Loss}
use Rattle.ini_edit.specs.declared.source.layout.sort.Sorting.{Sorting}
use Rattle.ini_edit.proofs.SortAnswersLemmas.{text_answers, text_names}
use Rattle.ini_edit.proofs.SortCommentLemmas.{text_times}

pub joined_mapped : {A B : Type 0} (f : B → Text) (g : A → B) (xs : List A)
    → joined f (map g xs) ≡ joined (λ x. f (g x)) xs
joined_mapped f g [] = refl
joined_mapped f g (x ∷ xs) = ap (λ t. f (g x) ++ t) (joined_mapped f g xs)

module _ {o : ParseOption} {sorting : Sorting} {T : Text} {old : Pieces} {us : List SectionUnit}
    (read : IsReadInPieces o T old) (ordered : IsOrdered sorting (units_in old) us) where
  module _ {U : Text} (is : U ≡ units_text us) (says : Says o U us) where
    pub sorted_is : IsSortOf o sorting None T U
    sorted_is = record {
      old = old;
      was = read;
      units = us;
      ordered = ordered;
      is = subst (IsTextOf o T us None) (sym is) (IsTextOf.sorted (subst (λ t. Says o t us) is says));
    }

    pub sorted_keeps : KeepsAll o T U
    sorted_keeps = record {
      old = old;
      new = says.new;
      was = read;
      is = says.is_read;
      answers = text_answers sorting old says.new us ordered says.said;
      names = text_names sorting old says.new us ordered says.said;
      comments = λ comments. text_times comments sorting old says.new us ordered says.said;
    }

  module _ {loss : Loss} {V U : Text} (is : V ≡ units_text us) (misses : Misses o V us loss)
      (left : U ≡ T) where
    pub left_is : IsSortOf o sorting (Some loss) T U
    left_is = record {
      old = old;
      was = read;
      units = us;
      ordered = ordered;
      is = subst (IsTextOf o T us (Some loss)) (sym left)
          (IsTextOf.left (subst (λ t. Misses o t us loss) is misses));
    }

-- one that is left as it is
pub left_keeps : {o : ParseOption} {T U : Text} {old : Pieces} → IsReadInPieces o T old → U ≡ T
    → KeepsAll o T U
left_keeps {o} {T} {U} {old} read left = record {
  old = old;
  new = old;
  was = read;
  is = subst (λ t. IsReadInPieces o t old) (sym left) read;
  answers = λ name key. refl;
  names = IsPermutation-refl (map (λ s. s.0) (document_in old));
  comments = λ comments. refl;
}
