-- What an item of a walk shows, and what the walks that lend values for writing have left.
use Rattle.std.specs.Prelude.{ℕ, List, Option, String}
use Rattle.std.specs.Borrow.{Bor, MutBor}
use Rattle.ini_multimap.specs.Iter.{iter_mut_rest, values_mut_rest}
use Rattle.ini_multimap.specs.Keys.{name_fits}
use Rattle.ini.specs.Texts.{Text, name_of, str_name, str_text, text_of}
use Rattle.ini.specs.Properties.{Pairs, pairs_of}
use Rattle.ini.specs.Documents.{Document, sections_of}
use Rattle.ini.specs.declared.iter.properties.PropertyIterMut.{PropertyIterMut}
use Rattle.ini.specs.declared.iter.sections.SectionIterMut.{SectionIterMut}
use Rattle.ini.specs.declared.iter.names.SectionAllMut.{SectionAllMut}

-- a key and a value that are lent
abbrev pub str_pair : Bor (List ℕ) × Bor (List ℕ) → Text × Text
str_pair p = (str_text p.0, str_text p.1)

module _ {Z : Type 0} where
  -- a value that is lent for writing
  abbrev pub str_pair_mut : Bor (List ℕ) × MutBor (String Z) → Text × Text
  str_pair_mut p = (str_text p.0, text_of p.1.now)

  -- both by value
  abbrev pub string_pair : String Z × String Z → Text × Text
  string_pair p = (text_of p.0, text_of p.1)

-- the pairs that are left
abbrev pub property_iter_mut_rest : PropertyIterMut → Pairs
property_iter_mut_rest it = pairs_of (iter_mut_rest it.rest)

-- a section that is lent
abbrev pub str_section : Option (Bor (List ℕ)) × Bor Pairs → Option Text × Pairs
str_section s = (str_name s.0, s.1.now)

-- its pairs lent for writing
abbrev pub str_section_mut : Option (Bor (List ℕ)) × MutBor Pairs → Option Text × Pairs
str_section_mut s = (str_name s.0, s.1.now)

-- a section by value
abbrev pub string_section : {Z : Type 0} → Option (String Z) × Pairs → Option Text × Pairs
string_section s = (name_of s.0, s.1)

-- the sections that are left
abbrev pub section_iter_mut_rest : SectionIterMut → Document
section_iter_mut_rest it = sections_of (iter_mut_rest it.rest)

-- the pairs of the sections of one name that are left
abbrev pub section_all_mut_rest : SectionAllMut → List Pairs
section_all_mut_rest it = values_mut_rest name_fits it.rest
