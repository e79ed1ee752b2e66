-- Lists of which the first pair that fits has another key.
use Rattle.std.proofs.Common.{◌≡◌, ◌∙◌, Bool, false, List, [], ◌∷◌, Option, None, Some, is_some, sym, refl}
use Rattle.std.proofs.Common.{arith}
use Rattle.std.proofs.lemmas.Bool.{false≢true}
use Rattle.std.specs.Map.{lookup}
use Rattle.ini.specs.Edits.{first_renamed}

-- a look-up that answers nothing
pub none_found : {A B : Type 0} (h : Option A → Option B) (r : Option A) (o : Option B) → h None ≡ None
    → is_some r ≡ false → h r ≡ o → o ≡ None
none_found h None o none is found = sym found ∙ none
none_found h (Some a) o none is found = absurd (false≢true (sym is))

module _ {K V : Type 0} (test : K → Bool) (other : K) where
  -- none fits
  pub renamed-none : (ps : List (K × V)) → lookup test ps ≡ None → first_renamed test other ps ≡ ps
  renamed-none [] none = refl
  renamed-none (p ∷ ps) none = grind (arith, renamed-none ps)
