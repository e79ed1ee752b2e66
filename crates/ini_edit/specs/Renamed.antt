-- A pair's key in another one's place.
use Rattle.std.specs.Prelude.{◌≡◌, ℕ, Bool, true, false, [], ◌++◌}
use Rattle.std.specs.Char.{is_whitespace}
use Rattle.std.specs.List.{list_all}
use Rattle.ini_text.specs.Grammar.CharacterKinds.{BeginsWithNo, backslash, is_inline_white}
use Rattle.ini_text.specs.Grammar.Positions.{last_or}
use Rattle.ini_text.specs.Grammar.Strings.{noted_key_ends}
use Rattle.ini_text.specs.Laws.Plain.{IsBareKey, IsReadBack, has_bare_note}
use Rattle.ini_text.specs.declared.option.LoneLine.{LoneLine}
use Rattle.ini_text.specs.declared.option.LoneLine.TheVariants.{RunsOn, Refused, Key}
use Rattle.ini_text.specs.declared.option.ParseOption.{ParseOption}
use Rattle.ini_text.specs.declared.write.policy.EscapePolicy.{EscapePolicy}
use Rattle.ini.specs.Texts.{Text}

-- a key that can be written in any pair's place: it is plain, and no spaces stand before it
pub record IsPlainBareKey (o : ParseOption) (policy : EscapePolicy) (key : Text) : Type 0 where
  pub bare : IsBareKey o policy key
  -- where keys end before notes, it has no bare note
  pub no_note : (noted_key_ends o).notes ≡ true → has_bare_note policy key ≡ false
  -- its characters are read back
  pub read_back : IsReadBack o policy key

-- White space that may stand after a key: where keys end with their line, a line end stands there only
-- behind a backslash, which takes it into the key.
abbrev pub is_key_white : LoneLine → ℕ → Bool
is_key_white RunsOn c = is_whitespace c
is_key_white Refused c = is_inline_white c
is_key_white Key c = is_inline_white c

-- A key's source is white space before the key, what is written of the key itself, and white space after
-- it.
pub record HasEdges (o : ParseOption) (source indent pad : Text) : Type 0 where
  pub own : Text
  pub whole : source ≡ indent ++ (own ++ pad)
  pub white_indent : list_all is_whitespace indent ≡ true
  pub white_pad : list_all (is_key_white o.line_without_separator) pad ≡ true
  -- white space before a key is the key's own where keys keep it
  pub kept : o.enabled_preserve_key_leading_whitespace ≡ true → indent ≡ []
  -- and elsewhere none of it is
  pub begins : o.enabled_preserve_key_leading_whitespace ≡ false → BeginsWithNo is_whitespace (own ++ pad)
  -- none at the end is the key's own
  pub ends : is_key_white o.line_without_separator (last_or backslash own) ≡ false
