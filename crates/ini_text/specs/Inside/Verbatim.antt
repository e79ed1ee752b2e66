-- How a byte tells whether the character that it begins is escaped.
use Rattle.std.specs.Prelude.{◌≡◌, ◌≢◌, ◌⊎◌, ℕ, Bool, true, false, nat_lt, if◌then◌else◌}
use Rattle.std.specs.Prelude.{List, [], ◌∷◌, flat_map, All, None}
use Rattle.ini_text.specs.Escaping.EscapedTexts.{escape, letter_of}
use Rattle.ini_text.specs.Escaping.Policies.{is_escaped}
use Rattle.ini_text.specs.declared.write.policy.EscapePolicy.{EscapePolicy}
use Rattle.ini_text.specs.declared.write.policy.EscapePolicy.TheVariants.{Basics, Reserved}

-- below 0x80 a byte is its character; 0x80 to 0xBF begin none, 0xC0 to 0xEF those up to U+FFFF, the others
-- those above
abbrev pub begins_escaped : EscapePolicy → ℕ → Bool
begins_escaped policy byte =
    if nat_lt byte 0x80 then is_escaped policy byte
    else if nat_lt byte 0xC0 then false
    else if nat_lt byte 0xF0 then is_escaped policy 0x80
    else is_escaped policy 0x1_0000

-- bytes, each that is marked as the escape of its character
abbrev pub marked_escaped : (ℕ → Bool) → List ℕ → List ℕ
marked_escaped is_marked bytes = flat_map (λ byte. if is_marked byte then escape byte else byte ∷ []) bytes

-- the escape of each byte that is marked has a letter
abbrev pub HaveLetters : (ℕ → Bool) → List ℕ → Type 0
HaveLetters is_marked bytes = All (λ byte. is_marked byte ≡ true → letter_of byte ≢ None) bytes

-- the same of a text by a policy; by one that is neither `Basics` nor `Reserved` nothing is escaped
abbrev pub HaveShortEscapes : EscapePolicy → List ℕ → Type 0
HaveShortEscapes policy bytes = HaveLetters (begins_escaped policy) bytes
    × (((policy ≡ Basics) ⊎ (policy ≡ Reserved)) ⊎ All (λ byte. begins_escaped policy byte ≡ false) bytes)
