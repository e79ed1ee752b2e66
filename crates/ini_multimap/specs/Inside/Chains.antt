-- The chains of the codes: which slots follow one another, and how links and ends say it. Private functions
-- say it.
use Rattle.std.specs.Prelude.{◌≡◌, ◌≢◌, ℕ, suc, ◌<◌, ◌≤◌, if◌then◌else◌, nat_eq, unwrap_or, List, length, map}
use Rattle.std.specs.Prelude.{Option, Some, None, MatchOption, IfSome, vec_len, vec_capacity}
use Rattle.std.specs.Option.{option_map}
use Rattle.std.specs.Global.{Box}
use Rattle.std.specs.HashMap.{get, spare}
use Rattle.ini_multimap.specs.Inside.Fits.{value_in, code_at}
use Rattle.ini_multimap.specs.declared.slots.chains.Chains.{Chains}
use Rattle.ini_multimap.specs.declared.slots.chains.Link.{Link}

-- r is the first place from i on that has the code c
abbrev pub IsNext : (ℕ → Option ℕ) → ℕ → ℕ → Option ℕ → Type 0
IsNext at c i r = MatchOption r ((k : ℕ) → i ≤ k → at k ≢ Some c)
    (λ t. (i ≤ t) × (at t ≡ Some c) × ((k : ℕ) → i ≤ k → k < t → at k ≢ Some c))

-- r is the last place before i that has the code c
abbrev pub IsPrev : (ℕ → Option ℕ) → ℕ → ℕ → Option ℕ → Type 0
IsPrev at c i r = MatchOption r ((k : ℕ) → k < i → at k ≢ Some c)
    (λ t. (t < i) × (at t ≡ Some c) × ((k : ℕ) → t < k → k < i → at k ≢ Some c))

-- the first and the last of a code
abbrev pub first_of : (ℕ → Option (ℕ × ℕ)) → ℕ → Option ℕ
first_of ends c = option_map (λ e. e.0) (ends c)

abbrev pub last_of : (ℕ → Option (ℕ × ℕ)) → ℕ → Option ℕ
last_of ends c = option_map (λ e. e.1) (ends c)

-- each place is linked to the next and the last before it of its code, and `ends` has the first and the
-- last of each code; n is past all places
pub record IsLinked (n : ℕ) (at next prev : ℕ → Option ℕ) (ends : ℕ → Option (ℕ × ℕ)) : Type 0 where
  pub within : (k c : ℕ) → at k ≡ Some c → k < n
  pub nexts : (k c : ℕ) → at k ≡ Some c → IsNext at c (suc k) (next k)
  pub prevs : (k c : ℕ) → at k ≡ Some c → IsPrev at c k (prev k)
  pub firsts : (c : ℕ) → IsNext at c 0 (first_of ends c)
  pub lasts : (c : ℕ) → IsPrev at c n (last_of ends c)

-- the link that names no slot; slots have lower numbers
abbrev pub no_slot : ℕ
no_slot = 4294967295

-- the slot that a link names
abbrev pub named : ℕ → Option ℕ
named link = if nat_eq link no_slot then None else Some link

-- the slots after and before slot k with its code
abbrev pub next_at : List Link → ℕ → Option ℕ
next_at links k = value_in (map (λ l. named l.next) links) k

abbrev pub prev_at : List Link → ℕ → Option ℕ
prev_at links k = value_in (map (λ l. named l.prev) links) k

-- `next` comes after slot s, where there is one, and nothing else changes
pub record IsNextSet (old new : List Link) (s next : Option ℕ) : Type 0 where
  pub here : (k : ℕ) → s ≡ Some k → next_at new k ≡ next
  pub others : (k : ℕ) → s ≢ Some k → next_at new k ≡ next_at old k
  pub prevs : (k : ℕ) → prev_at new k ≡ prev_at old k
  pub long : length new ≡ length old

-- `prev` comes before it
pub record IsPrevSet (old new : List Link) (s prev : Option ℕ) : Type 0 where
  pub here : (k : ℕ) → s ≡ Some k → prev_at new k ≡ prev
  pub others : (k : ℕ) → s ≢ Some k → prev_at new k ≡ prev_at old k
  pub nexts : (k : ℕ) → next_at new k ≡ next_at old k
  pub long : length new ≡ length old

-- the ends of the code c are e, and others stay
abbrev pub AreSet : (old new : ℕ → Option (ℕ × ℕ)) → ℕ → Option (ℕ × ℕ) → Type 0
AreSet old new c e = (q : ℕ) → new q ≡ (if nat_eq c q then e else old q)

-- n is the last of the code c, and the first where it had none
abbrev pub IsPutLast : (old new : ℕ → Option (ℕ × ℕ)) → ℕ → ℕ → Type 0
IsPutLast old new c n = AreSet old new c (Some (unwrap_or (first_of old c) n, n))

-- a slot between prev and next is gone from the chain of c
pub record AreClosed (old new : ℕ → Option (ℕ × ℕ)) (c : ℕ) (prev next : Option ℕ) : Type 0 where
  pub first : MatchOption prev (first_of new c ≡ next) (λ _. first_of new c ≡ first_of old c)
  pub last : MatchOption next (last_of new c ≡ prev) (λ _. last_of new c ≡ last_of old c)
  pub others : (q : ℕ) → q ≢ c → new q ≡ old q

-- the chains are those of the keys
pub record AreChained {K : Type 0} (code : K → ℕ) (ks : List (Option K)) (chains : Chains) : Type 0 where
  pub few : length ks ≤ no_slot
  pub long : length chains.links.items ≡ length ks
  pub linked : IsLinked (length ks) (code_at code ks) (next_at chains.links.items)
      (prev_at chains.links.items) (get nat_eq chains.ends)

-- where there are chains, they are those of the keys
abbrev pub IsIndexed : {K : Type 0} → (K → ℕ) → List (Option K) → Option (Box Chains) → Type 0
IsIndexed code ks index = IfSome index (λ chains. AreChained code ks chains.value)

-- there is room for one more slot
pub record HasRoom (chains : Chains) : Type 0 where
  pub slot : length chains.links.items < no_slot
  pub link : vec_len chains.links < vec_capacity chains.links
  pub ends : 0 < spare chains.ends
