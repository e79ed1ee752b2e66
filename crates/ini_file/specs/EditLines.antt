-- Changes in the form that `apply` reads: a line each, of four texts with the basic escapes and tabs between.
use Rattle.std.specs.Prelude.{◌≡◌, ℕ, ◌+◌, List, [], ◌∷◌, ◌++◌, ⊤, codes, encode_utf8_all, flat_map, length}
use Rattle.std.specs.Prelude.{map, Option, None, Some, Result, Ok, Err}
use Rattle.std.specs.declared.alloc.Global.{Global}
use Rattle.std.specs.declared.vec.Vec.{Vec}
use Rattle.ini_text.specs.Escaping.EscapedTexts.{escaped}
use Rattle.ini_text.specs.declared.write.policy.EscapePolicy.TheVariants.{Basics}
use Rattle.ini.specs.Texts.{Text, name_of, text_of}
use Rattle.ini_layers.specs.Differences.{SettingChange}
use Rattle.ini_file.specs.declared.edit_reading.EditsFault.{EditsFault}
use Rattle.ini_file.specs.declared.edit_reading.EditsFault.TheVariants.{Line, Memory}
use Rattle.ini_file.specs.declared.edit_reading.OwnedChange.{OwnedChange}

-- the section's name in brackets; nothing of the general section's
abbrev pub in_brackets : Option Text → Text
in_brackets None = []
in_brackets (Some name) = codes "[" ++ (name ++ codes "]")

-- a value after a sign; nothing where there is none
abbrev pub signed : ℕ → Option Text → Text
signed sign None = []
signed sign (Some value) = sign ∷ value

-- a text, escaped, and the character that ends it; and what follows
abbrev pub field_before : Text → ℕ → Text → Text
field_before text end following = escaped Basics text ++ end ∷ following

-- the line of a change: the section, the key, the old value after `-`, the new one after `+`; and what
-- follows
abbrev pub edit_before : SettingChange → Text → Text
edit_before c following = field_before (in_brackets c.name) 0x09 (field_before c.key 0x09
    (field_before (signed 0x2D c.old) 0x09 (field_before (signed 0x2B c.new) 0x0A following)))

abbrev pub edit_text : SettingChange → Text
edit_text c = edit_before c []

abbrev pub edit_line : SettingChange → List ℕ
edit_line c = encode_utf8_all (edit_text c)

-- a change whose texts are its own
abbrev pub change_read : OwnedChange → SettingChange
change_read c = record {
  name = name_of c.name;
  key = text_of c.key;
  old = name_of c.old;
  new = name_of c.new;
}

-- the texts of lines that are edits, and after them one that isn't, with this number, counted from 1
pub record HasNoEdit (T : Text) (line : ℕ) : Type 0 where
  pub before : List SettingChange
  pub rest : Text
  pub whole : T ≡ flat_map edit_text before ++ rest
  pub is_at : line ≡ length before + 1
  pub is_some : rest ≡ [] → ⊥
  pub is_none : (c : SettingChange) (following : Text) → rest ≡ edit_before c following → ⊥

abbrev pub RefusesEdits : Text → EditsFault → Type 0
RefusesEdits T (Line line) = HasNoEdit T line
RefusesEdits T Memory = ⊤

-- the changes are read, if memory isn't refused
abbrev pub AreReadAs : List SettingChange → Result (Vec OwnedChange Global) EditsFault → Type 0
AreReadAs changes (Ok read) = map change_read read.items ≡ changes
AreReadAs changes (Err Memory) = ⊤
AreReadAs changes (Err (Line line)) = ⊥
