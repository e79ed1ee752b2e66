-- What the programs write of a document: of its sections, its keys, values and pairs.
use Rattle.std.specs.Prelude.{ℕ, List, [], ◌∷◌, ◌++◌, flat_map, Option, None, Some}
use Rattle.std.specs.Borrow.{Bor}
use Rattle.std.specs.Option.{option_map}
use Rattle.ini_text.specs.Grammar.CharacterKinds.{close_bracket, line_feed, open_bracket, tab}
use Rattle.ini_text.specs.Escaping.EscapedTexts.{escaped}
use Rattle.ini_text.specs.declared.write.policy.EscapePolicy.TheVariants.{Basics}
use Rattle.ini.specs.Texts.{Text, str_name, str_text}
use Rattle.ini.specs.Documents.{Document, first_section, names}
use Rattle.ini.specs.Properties.{Pairs}
use Rattle.ini_words.specs.declared.lines.form.Form.{Form}
use Rattle.ini_words.specs.declared.lines.form.Form.TheVariants.{Escaped, AsIs, Null}

-- a text in a form: with the basic escapes, or as it stands
abbrev pub text_in : Form → Text → Text
text_in Escaped text = escaped Basics text
text_in AsIs text = text
text_in Null text = text

-- what stands after an entry
abbrev pub end_in : Form → ℕ
end_in Escaped = line_feed
end_in AsIs = line_feed
end_in Null = 0

-- what stands after a section's name and after a key, where a value follows
abbrev pub between_in : Form → ℕ
between_in Escaped = tab
between_in AsIs = tab
between_in Null = 0

-- the name in brackets; the general section has none
abbrev pub listed_name : Form → Option Text → Text
listed_name form None = []
listed_name form (Some name) = open_bracket ∷ text_in form name ++ close_bracket ∷ []

-- the name, the key and the value
abbrev pub listed_pair : Form → Option Text → Text × Text → Text
listed_pair form name p =
    listed_name form name ++ between_in form ∷ text_in form p.0
    ++ between_in form ∷ text_in form p.1 ++ end_in form ∷ []

-- each pair, in order
abbrev pub listed_pairs : Form → Document → Text
listed_pairs form d = flat_map (λ s. flat_map (listed_pair form s.0) s.1) d

-- a text, and what ends it
abbrev pub entry : Form → Text → Text
entry form text = text_in form text ++ end_in form ∷ []

-- the name; the general section has none
abbrev pub name_entry : Form → Option Text → Text
name_entry form None = []
name_entry form (Some name) = entry form name

-- the same of texts and of names that are lent
abbrev pub text_entry : Form → Bor (List ℕ) → Text
text_entry form text = entry form (str_text text)

abbrev pub lent_name_entry : Form → Option (Bor (List ℕ)) → Text
lent_name_entry form name = name_entry form (str_name name)

-- each distinct name, in the order of first occurrence
abbrev pub name_entries : Form → Document → Text
name_entries form d = flat_map (name_entry form) (names d)

-- the key of each pair, in order
abbrev pub entries_of_keys : Form → Pairs → Text
entries_of_keys form ps = flat_map (λ p. entry form p.0) ps

-- those of the first section of the name; no text where there is none
abbrev pub key_entries : Form → Option Text → Document → Option Text
key_entries form section d = option_map (entries_of_keys form) (first_section section d)
