-- The calls of a list of pairs commute with reading its keys and values.
use Rattle.std.proofs.Common.{◌≡◌, Bool, cond, true, false, List, [], ◌∷◌, ◌++◌, map, refl, arith, Option}
use Rattle.std.proofs.Common.{Some, IsSome}
use Rattle.std.specs.List.{list_any}
use Rattle.std.specs.Option.{option_map}
use Rattle.std.specs.Map.{lookup, remove_entry, set_value}
use Rattle.ini_multimap.specs.Pairs.{insert_pair, without, values_at, fresh, distinct_keys}
use Rattle.ini.specs.Properties.{both}

module _ {K L V W : Type 0} (f : K → L) (g : V → W) (p : K → Bool) (q : L → Bool)
    (same : (k : K) → p k ≡ q (f k)) where
  pub lookup-both : (ps : List (K × V)) → lookup q (both f g ps) ≡ option_map g (lookup p ps)
  lookup-both [] = refl
  lookup-both (e ∷ ps) = grind (arith, lookup-both ps, same e.0)

  pub remove_entry-both : (ps : List (K × V)) → remove_entry q (both f g ps) ≡ both f g (remove_entry p ps)
  remove_entry-both [] = refl
  remove_entry-both (e ∷ ps) = grind (arith, remove_entry-both ps, same e.0)

  pub set_value-both : (ps : List (K × V)) (v : V)
      → set_value q (both f g ps) (g v) ≡ both f g (set_value p ps v)
  set_value-both [] v = refl
  set_value-both (e ∷ ps) v = grind (arith, set_value-both ps v, same e.0)

  pub without-both : (ps : List (K × V)) → without q (both f g ps) ≡ both f g (without p ps)
  without-both [] = refl
  without-both (e ∷ ps) = grind (arith, without-both ps, same e.0)

  pub values_at-both : (ps : List (K × V)) → values_at q (both f g ps) ≡ map g (values_at p ps)
  values_at-both [] = refl
  values_at-both (e ∷ ps) = grind (arith, values_at-both ps, same e.0)

  pub insert_pair-both : (k : K) (v : V) (ps : List (K × V))
      → insert_pair q (f k) (g v) (both f g ps) ≡ both f g (insert_pair p k v ps)
  insert_pair-both k v [] = refl
  insert_pair-both k v (e ∷ ps) = grind (arith, insert_pair-both k v ps, same e.0, without-both ps)

module _ {K L V W : Type 0} (f : K → L) (g : V → W) (p : K → K → Bool) (q : L → L → Bool)
    (same : (j k : K) → p j k ≡ q (f j) (f k)) where
  list_any-both : (k : K) (ps : List (K × V))
      → list_any (λ e. q e.0 (f k)) (both f g ps) ≡ list_any (λ e. p e.0 k) ps
  list_any-both k [] = refl
  list_any-both k (e ∷ ps) = grind (arith, same e.0 k, list_any-both k ps)

  both-push : (ps : List (K × V)) (e : K × V) → both f g (ps ++ e ∷ []) ≡ both f g ps ++ (f e.0, g e.1) ∷ []
  both-push [] e = refl
  both-push (d ∷ ps) e = grind (arith, both-push ps e)

  fresh-both : (seen ps : List (K × V)) → fresh q (both f g seen) (both f g ps) ≡ map f (fresh p seen ps)
  fresh-both seen [] = refl
  fresh-both seen (e ∷ ps) =
      grind (arith, list_any-both e.0 seen, both-push seen e, fresh-both (seen ++ e ∷ []) ps)

  pub distinct_keys-both : (ps : List (K × V)) → distinct_keys q (both f g ps) ≡ map f (distinct_keys p ps)
  distinct_keys-both ps = fresh-both [] ps

-- what holds of each key that passes holds where a look-up finds one
module _ {K V : Type 0} (p : K → Bool) (P : Type 0) (passes : (k : K) → p k ≡ true → P) where
  found_here : (e : K × V) (b : Bool) → p e.0 ≡ b → (rest : Option V) → (IsSome rest → P)
      → IsSome (cond b (Some e.1) rest) → P
  found_here e true is rest later h = passes e.0 is
  found_here e false is rest later h = later h

  pub found : (ps : List (K × V)) → IsSome (lookup p ps) → P
  found [] h = absurd cc
  found (e ∷ ps) h = found_here e (p e.0) refl (lookup p ps) (found ps) h
