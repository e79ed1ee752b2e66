-- The last value of a list of documents.
use Rattle.std.proofs.Common.{◌≡◌, ◌∙◌, ap, sym, subst, refl, arith, ℕ, ◌+◌, ◌-◌, List, [], ◌∷◌, ◌++◌}
use Rattle.std.proofs.Common.{append_assoc, length, length-append, Option, None, Some, IsSome, is_some, true}
use Rattle.std.specs.List.{cons_option, filter_map, last_or}
use Rattle.std.proofs.lemmas.Bool.{false≢true}
use Rattle.std.specs.Option.{option_map, option_or}
use Rattle.ini.specs.Texts.{Text}
use Rattle.ini.specs.Documents.{Document, value_in}
use Rattle.ini_layers.specs.Layers.{IsOrigin, layered_value}

module _ {X Y : Type 0} (f : X → Option Y) where
  -- the first item's value is the last one until another comes
  pub last_or-cons : (o : Option Y) (x : X) (xs : List X)
      → last_or o (filter_map f (x ∷ xs)) ≡ last_or (option_or (f x) o) (filter_map f xs)
  last_or-cons o x xs = at (f x)
    where
      at : (h : Option Y)
          → last_or o (cons_option h (filter_map f xs)) ≡ last_or (option_or h o) (filter_map f xs)
      at None = refl
      at (Some y) = refl

  -- the last item's value comes before all others
  last_or-push : (o : Option Y) (xs : List X) (x : X)
      → last_or o (filter_map f (xs ++ x ∷ [])) ≡ option_or (f x) (last_or o (filter_map f xs))
  last_or-push o [] x = last_or-cons o x []
  last_or-push o (y ∷ xs) x =
      last_or-cons o y (xs ++ x ∷ [])
      ∙ last_or-push (option_or (f y) o) xs x
      ∙ ap (option_or (f x)) (sym (last_or-cons o y xs))

-- where the last document has a value, or has none, the layers have that of the document, or of the rest
module _ (name : Option Text) (key : Text)
    (layers rest : List Document) (layer : Document) (last : layers ≡ rest ++ layer ∷ []) where
  by_last : {o : Option Text} → o ≡ value_in name key layer
      → layered_value name key layers ≡ option_or o (layered_value name key rest)
  by_last is =
      ap (layered_value name key) last
      ∙ last_or-push (value_in name key) None rest layer
      ∙ ap (λ o. option_or o (layered_value name key rest)) (sym is)

  pub layered_value-last : (value : Text) → Some value ≡ value_in name key layer
      → layered_value name key layers ≡ Some value
  layered_value-last value is = by_last is

  pub layered_value-rest : None ≡ value_in name key layer
      → layered_value name key layers ≡ layered_value name key rest
  layered_value-rest is = by_last is

-- a look-up that answers something
pub some_found : {A B : Type 0} (f : A → B) (r : Option A) (o : Option B) → is_some r ≡ true
    → option_map f r ≡ o → IsSome o
some_found f None o some is = absurd (false≢true some)
some_found f (Some a) o some is = subst IsSome is refl

option_or-some : {A : Type 0} (o p : Option A) → IsSome o → option_or o p ≡ o
option_or-some None p some = absurd (false≢true some)
option_or-some (Some a) p some = refl

-- the layers are looked at from the last on: `left` are still to come, as many as `number`, and the others
-- have no value
pub record LooksBack (name : Option Text) (key : Text) (layers left : List Document)
    (number : ℕ) : Type 0 where
  pub later : List Document
  pub split : layers ≡ left ++ later
  pub place : number ≡ length left
  pub same : layered_value name key layers ≡ layered_value name key left
  pub none_later : layered_value name key later ≡ None

module _ (name : Option Text) (key : Text) (layers : List Document) where
  module _ (left rest : List Document) (layer : Document) (number : ℕ) (last : left ≡ rest ++ layer ∷ [])
      (looks : LooksBack name key layers left number) where
    split_here : layers ≡ rest ++ layer ∷ looks.later
    split_here = looks.split ∙ ap (λ l. l ++ looks.later) last ∙ append_assoc rest (layer ∷ []) looks.later

    pub one_more : number ≡ length rest + 1
    one_more = looks.place ∙ ap length last ∙ length-append rest (layer ∷ [])

    pub LooksBack-goes_on : None ≡ value_in name key layer → LooksBack name key layers rest (number - 1)
    LooksBack-goes_on is = record {
      later = layer ∷ looks.later;
      split = split_here;
      place = omega (arith, one_more);
      same = looks.same ∙ layered_value-rest name key left rest layer last is;
      none_later =
          last_or-cons (value_in name key) None layer looks.later
          ∙ ap (λ o. last_or (option_or o None) (filter_map (value_in name key) looks.later)) (sym is)
          ∙ looks.none_later;
    }

    pub LooksBack-finds : IsSome (value_in name key layer) → IsOrigin name key layers (number - 1)
    LooksBack-finds there = record {
      before = rest;
      layer = layer;
      later = looks.later;
      split = split_here;
      place = omega (arith, one_more);
      there = there;
      counts = sym (looks.same ∙ by_last name key left rest layer last refl ∙ option_or-some _ _ there);
      none_later = looks.none_later;
    }
