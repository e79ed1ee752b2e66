-- What is listed: texts one after another, and numbers that tell where each ends.
use Rattle.std.specs.Prelude.{◌≡◌, ◌-◌, ◌^◌, ◌&&◌, ℕ, Bool, List, [], ◌∷◌, ◌++◌, fold, length, take, nat_le}
use Rattle.std.specs.Prelude.{Option, Some, None, encode_utf8_all}
use Rattle.std.specs.Option.{option_and_then, option_map}
use Rattle.ini.specs.Texts.{Text}
use Rattle.ini.specs.Properties.{Pairs, values}
use Rattle.ini.specs.Documents.{Document, first_section}
use Rattle.ini_c.specs.declared.copies.Sizes.{Sizes}

-- the bytes of texts, a 0 after each, and numbers, of which most say how many bytes a text has
pub record Listed : Type 0 where
  pub bytes : List ℕ
  pub counts : List ℕ

abbrev pub nothing : Listed
nothing = record { bytes = []; counts = [] }

-- a text goes last
abbrev pub with_text : Listed → Text → Listed
with_text l text = record {
  bytes = (l.bytes ++ encode_utf8_all text) ++ 0 ∷ [];
  counts = l.counts ++ length (encode_utf8_all text) ∷ [];
}

-- a number goes last
abbrev pub with_number : Listed → ℕ → Listed
with_number l n = record { bytes = l.bytes; counts = l.counts ++ n ∷ [] }

-- a key and its value go last
abbrev pub with_pair : Listed → Text × Text → Listed
with_pair l p = with_text (with_text l p.0) p.1

-- stands for the number of bytes of a name, or of a value, where there is none
abbrev pub no_name_length : ℕ
no_name_length = 2 ^ 64 - 1

-- a section's name, or a value, goes last, or that there is none
abbrev pub with_name : Listed → Option Text → Listed
with_name l (Some name) = with_text l name
with_name l None = with_number l no_name_length

-- a section goes last: its name, the number of its pairs, and these
abbrev pub with_section : Listed → Option Text × Pairs → Listed
with_section l s = fold with_pair (with_number (with_name l s.0) (length s.1)) s.1

-- the values in order
abbrev pub values_listed : List Text → Listed
values_listed texts = fold with_text nothing texts

-- the pairs in order, each a key and a value
abbrev pub pairs_listed : Pairs → Listed
pairs_listed ps = fold with_pair nothing ps

-- the sections in order, with their pairs
abbrev pub document_listed : Document → Listed
document_listed d = fold with_section nothing d

-- the values of the key in the first section of the name
abbrev pub all_found_in : Option Text → Text → Option Document → Option (List Text)
all_found_in name key document = option_map (values key) (option_and_then (first_section name) document)

-- the pairs of the first section of the name
abbrev pub pairs_found_in : Option Text → Option Document → Option Pairs
pairs_found_in name document = option_and_then (first_section name) document

-- what was copied out: as much of the two buffers as the sizes say
abbrev pub copied_listing : Sizes → List ℕ → List ℕ → Listed
copied_listing sizes bytes counts =
    record { bytes = take sizes.bytes bytes; counts = take sizes.counts counts }

-- the sizes of what is listed
pub record AreSizesOf (sizes : Sizes) (l : Listed) : Type 0 where
  pub bytes : sizes.bytes ≡ length l.bytes
  pub counts : sizes.counts ≡ length l.counts

-- so much fits into two buffers
abbrev pub fits : Sizes → List ℕ → List ℕ → Bool
fits sizes bytes counts = nat_le sizes.bytes (length bytes) && nat_le sizes.counts (length counts)
