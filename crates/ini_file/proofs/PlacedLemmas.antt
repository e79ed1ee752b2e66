-- Files that have their places each, one file on.
use Rattle.std.proofs.Common.{◌≡◌, ◌<◌, ◌≤◌, ◌+◌, ◌∙◌, ℕ, List, [], ◌∷◌, ◌++◌, Bool, length, subst, sym}
use Rattle.std.proofs.Common.{add-one, ap, arith, get_or, length-take, map, refl, take, take-suc, unwrap_or}
use Rattle.std.proofs.lemmas.List.{map-append, length-map}
use Rattle.std.proofs.lemmas.Option.{slice_get-map, slice_get_past, slice_get_read}
use Rattle.std.specs.Option.{option_map}
use Rattle.std.specs.Prelude.{String, string_bytes}
use Rattle.std.specs.declared.alloc.Global.{Global}
use Rattle.std.specs.declared.vec.Vec.{Vec}
use Rattle.ini_text.specs.declared.option.ParseOption.{ParseOption}
use Rattle.ini.specs.Documents.{Document}
use Rattle.ini_words.specs.Words.{Word}
use Rattle.ini_file.specs.LayerOrigins.{ArePlaced, IsPlaced, name_at}
use Rattle.ini_file.specs.Merges.{bytes_of}

module _ (o : ParseOption) (null : Bool) (names : List Word) (files : List (Vec ℕ Global)) (i : ℕ)
    (file : Vec ℕ Global) (within : i < length files)
    (is_at : file ≡ get_or files i file) {placed : List Document}
    (are : ArePlaced o null names (bytes_of (take i files)) placed) where
  pub one_more_placed : {more : List Document} (places : Document)
      → IsPlaced o null (name_at names i) file.items places
      → more ≡ placed ++ places ∷ [] → ArePlaced o null names (bytes_of (take (i + 1) files)) more
  one_more_placed {more} places is_placed is =
      let taken : bytes_of (take (i + 1) files) ≡ bytes_of (take i files) ++ file.items ∷ [] =
      rw (add-one, take-suc files i file within, ← is_at)
      (map-append (λ f. f.items) (take i files) (file ∷ [])) in
      let number : i ≡ length (bytes_of (take i files)) =
      simp (length-map, length-take) (omega arith) in
      subst (λ fs. ArePlaced o null names fs more) (sym taken)
      (subst (λ ds. ArePlaced o null names (bytes_of (take i files) ++ file.items ∷ []) ds) (sym is)
      (ArePlaced.then are file.items
      (subst (λ n. IsPlaced o null (name_at names n) file.items places) number is_placed)))

-- the name of a number
module _ (names : List (String Global)) (i : ℕ) where
  pub name-there : (name : String Global) → i < length names → name ≡ get_or names i name
      → string_bytes name ≡ name_at (map string_bytes names) i
  name-there name within read = sym (ap (λ o. unwrap_or o [])
      (slice_get-map string_bytes names i
      ∙ ap (option_map string_bytes) (slice_get_read names (length names) i name refl within read)))

  pub name-past : length names ≤ i → name_at (map string_bytes names) i ≡ []
  name-past past = ap (λ o. unwrap_or o [])
      (slice_get-map string_bytes names i ∙ ap (option_map string_bytes) (slice_get_past names i past))
