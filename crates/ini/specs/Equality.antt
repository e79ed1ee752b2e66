-- Whether two lists of pairs are equal, and the laws of that test.
use Rattle.std.specs.Prelude.{◌≡◌, Bool, ◌&&◌}
use Rattle.std.specs.Bool.{Decides}
use Rattle.std.specs.Cmp.{IsPartialEquivalence, decided, partial_equiv_from_equiv}
use Rattle.std.specs.Cmp.Lexicographic.{bytes_decides, pointwise, pointwise_decides}
use Rattle.std.proofs.Common.{ap}
use Rattle.std.proofs.lemmas.Bool.Decides.{Decides-and, Decides-like}
use Rattle.ini.specs.Texts.{Text, is_text}
use Rattle.ini.specs.Properties.{Pairs}

-- keys and values are equal
abbrev pub is_pair : Text × Text → Text × Text → Bool
is_pair p q = is_text p.0 q.0 && is_text p.1 q.1

-- as many pairs, each equal to the one at its place
abbrev pub is_pairs : Pairs → Pairs → Bool
is_pairs ps qs = pointwise is_pair ps qs

is_pair_decides : (p q : Text × Text) → Decides (is_pair p q) (p ≡ q)
is_pair_decides p q =
    Decides-like _ (λ e. λ i. (e.0 i, e.1 i)) (λ e. (ap (λ r. r.0) e, ap (λ r. r.1) e))
    (Decides-and _ _ (bytes_decides p.0 q.0) (bytes_decides p.1 q.1))

-- it says whether they are the same list
pub is_pairs_decides : (ps qs : Pairs) → Decides (is_pairs ps qs) (ps ≡ qs)
is_pairs_decides = pointwise_decides is_pair_decides

pub is_pairs_laws : IsPartialEquivalence is_pairs
is_pairs_laws = partial_equiv_from_equiv (decided is_pairs is_pairs_decides)
