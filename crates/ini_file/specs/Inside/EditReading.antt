-- How an edit is read: a character, or an escape of one, after another.
use Rattle.std.specs.Prelude.{◌≡◌, ◌+◌, ◌-◌, ℕ, Bool, true, false, ◌&&◌, ◌||◌, ◌==◌, nat_le, if◌then◌else◌}
use Rattle.std.specs.Prelude.{[], ◌∷◌, ⊤, Option, None, Some, option_and_then}
use Rattle.std.specs.Option.{option_map}
use Rattle.ini_text.specs.Escaping.Policies.{is_basic}
use Rattle.ini_text.specs.Grammar.CharacterKinds.{backslash, letter_x}
use Rattle.ini.specs.Texts.{Text}
use Rattle.ini_layers.specs.Differences.{SettingChange}
use Rattle.ini_file.specs.EditLines.{edit_before, field_before, in_brackets, signed}
use Rattle.ini_file.specs.declared.edit_reading.EditsFault.{EditsFault}
use Rattle.ini_file.specs.declared.edit_reading.EditsFault.TheVariants as fault
use Rattle.ini_file.specs.declared.edit_reading.Stop.{Stop}
use Rattle.ini_file.specs.declared.edit_reading.Stop.TheVariants.{Memory, Other}

-- the character that a backslash and this letter stand for
abbrev pub named : ℕ → Option ℕ
named letter =
    if letter == 0x5C then Some 0x5C
    else if letter == 0x30 then Some 0x00
    else if letter == 0x61 then Some 0x07
    else if letter == 0x62 then Some 0x08
    else if letter == 0x74 then Some 0x09
    else if letter == 0x6E then Some 0x0A
    else if letter == 0x76 then Some 0x0B
    else if letter == 0x66 then Some 0x0C
    else if letter == 0x72 then Some 0x0D
    else None

-- what a hexadecimal digit stands for, in lower case
abbrev pub low_digit : ℕ → Option ℕ
low_digit c =
    if nat_le 0x30 c && nat_le c 0x39 then Some (c - 0x30)
    else if nat_le 0x61 c && nat_le c 0x66 then Some (c - 0x57)
    else None

-- a control character that is written as its number
abbrev pub is_numbered : ℕ → Bool
is_numbered v = (nat_le 0x01 v && nat_le v 0x06) || (nat_le 0x0E v && nat_le v 0x1F)

abbrev pub numbered : ℕ → Option ℕ
numbered v = if is_numbered v then Some v else None

-- the control character that two digits spell
abbrev pub spelled_low : (c d : ℕ) → Option ℕ
spelled_low c d =
    if c == 0x30 then option_and_then numbered (low_digit d)
    else if c == 0x31 then option_and_then (λ v. numbered (0x10 + v)) (low_digit d)
    else if c == 0x37 && d == 0x66 then Some 0x7F
    else None

-- the character that four digits after `\x` spell, and what follows them
abbrev pub coded_at : Text → Option (ℕ × Text)
coded_at (a ∷ b ∷ c ∷ d ∷ t) =
    if a == 0x30 && b == 0x30 then option_map (λ v. (v, t)) (spelled_low c d) else None
coded_at _ = None

-- what stands after a backslash
abbrev pub escape_at : Text → Option (ℕ × Text)
escape_at [] = None
escape_at (c ∷ t) = if c == letter_x then coded_at t else option_map (λ v. (v, t)) (named c)

-- the character that stands first, as it is or as its escape, and what follows it
abbrev pub character_at : Text → Option (ℕ × Text)
character_at [] = None
character_at (c ∷ t) =
    if c == backslash then escape_at t else if is_basic c then None else Some (c, t)

-- no text, and then this end, stand there
abbrev pub RefusesField : ℕ → Text → Stop → Type 0
RefusesField end T Other = (text following : Text) → T ≡ field_before text end following → ⊥
RefusesField end T Memory = ⊤

-- no edit stands there
abbrev pub RefusesEdit : Text → Stop → Type 0
RefusesEdit T Other = (c : SettingChange) (following : Text) → T ≡ edit_before c following → ⊥
RefusesEdit T Memory = ⊤

-- a text that stands, escaped, before an end, and what follows
abbrev pub Begins : Text → Text → ℕ → Text → Type 0
Begins T text end following = T ≡ field_before text end following

-- the texts of the four parts that stand there, and what follows
pub record AreParts (T name key old new following : Text) : Type 0 where
  pub after_name : Text
  pub after_key : Text
  pub after_old : Text
  pub is_name : Begins T name 0x09 after_name
  pub is_key : Begins after_name key 0x09 after_key
  pub is_old : Begins after_key old 0x09 after_old
  pub is_new : Begins after_old new 0x0A following

-- these are the parts of a change
pub record HasParts (name key old new : Text) (c : SettingChange) : Type 0 where
  pub is_name : name ≡ in_brackets c.name
  pub is_key : key ≡ c.key
  pub is_old : old ≡ signed 0x2D c.old
  pub is_new : new ≡ signed 0x2B c.new

-- they are no change's
abbrev pub RefusesParts : (name key old new : Text) → Stop → Type 0
RefusesParts name key old new Other = (c : SettingChange) → HasParts name key old new c → ⊥
RefusesParts name key old new Memory = ⊤

-- this is no name in brackets, and this no value after the sign
abbrev pub RefusesName : Text → Stop → Type 0
RefusesName T Other = (name : Option Text) → T ≡ in_brackets name → ⊥
RefusesName T Memory = ⊤

abbrev pub RefusesValue : ℕ → Text → Stop → Type 0
RefusesValue sign T Other = (value : Option Text) → T ≡ signed sign value → ⊥
RefusesValue sign T Memory = ⊤

-- after so many edits the text goes on, and not with an edit
abbrev pub RefusesNext : ℕ → Text → EditsFault → Type 0
RefusesNext before T (fault.Line line) = (line ≡ before + 1) × (T ≡ [] → ⊥) × RefusesEdit T Other
RefusesNext before T fault.Memory = ⊤

-- what ends a text is a character that is escaped, but a backslash
abbrev pub IsEnd : ℕ → Type 0
IsEnd end = (is_basic end ≡ true) × ((end == backslash) ≡ false)
