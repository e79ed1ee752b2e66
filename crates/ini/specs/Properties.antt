-- Properties: a list of pairs of texts.
use Rattle.std.specs.Prelude.{List, map, Option, String}
use Rattle.std.specs.Map.{lookup, remove_entry}
use Rattle.ini_multimap.specs.Pairs.{distinct_keys, insert_pair, values_at, without}
use Rattle.ini.specs.Texts.{Text, is_text, text_of}

-- the pairs in order
abbrev pub Pairs : Type 0
Pairs = List (Text × Text)

-- a list of pairs, its keys read by f and its values by g
abbrev pub both : {K L V W : Type 0} → (K → L) → (V → W) → List (K × V) → List (L × W)
both f g ps = map (λ p. (f p.0, g p.1)) ps

-- the first value of the key
abbrev pub first_value : Text → Pairs → Option Text
first_value key ps = lookup (is_text key) ps

-- all values of the key, in order
abbrev pub values : Text → Pairs → List Text
values key ps = values_at (is_text key) ps

-- each distinct key, in the order of first occurrence
abbrev pub distinct : Pairs → List Text
distinct ps = distinct_keys is_text ps

-- the first pair of the key takes the value and its later pairs go; a new key goes last
abbrev pub inserted : Text → Text → Pairs → Pairs
inserted key value ps = insert_pair (is_text key) key value ps

-- without the first pair of the key
abbrev pub removed : Text → Pairs → Pairs
removed key ps = remove_entry (is_text key) ps

-- without any pair of the key
abbrev pub all_removed : Text → Pairs → Pairs
all_removed key ps = without (is_text key) ps

module _ {Z : Type 0} where
  -- what strings show
  abbrev pub texts_of : List (String Z) → List Text
  texts_of ss = map text_of ss

  -- what pairs of strings show
  abbrev pub pairs_of : List (String Z × String Z) → Pairs
  pairs_of ps = both text_of text_of ps
