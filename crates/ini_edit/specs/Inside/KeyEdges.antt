-- White space at the ends of a text, and around a key.
use Rattle.std.specs.Prelude.{◌≡◌, true, false, List, ℕ, [], ◌++◌}
use Rattle.std.specs.Char.{is_whitespace}
use Rattle.std.specs.List.{list_all}
use Rattle.ini_text.specs.Grammar.CharacterKinds.{BeginsWithNo, backslash}
use Rattle.ini_text.specs.Grammar.Positions.{last_or}
use Rattle.ini_text.specs.Escaping.EscapedTexts.{escaped}
use Rattle.ini_text.specs.declared.option.LoneLine.{LoneLine}
use Rattle.ini_text.specs.declared.option.ParseOption.{ParseOption}
use Rattle.ini_text.specs.declared.write.policy.EscapePolicy.{EscapePolicy}
use Rattle.ini_edit.specs.Renamed.{HasEdges, is_key_white}

-- a text is white space, and then the rest
pub record BeginsWhite (text rest : List ℕ) : Type 0 where
  pub white : List ℕ
  pub whole : text ≡ white ++ rest
  pub all : list_all is_whitespace white ≡ true

-- the rest is what follows the white space with which a text begins
pub record IsSkipped (text rest : List ℕ) : Type 0 where
  pub begins : BeginsWhite text rest
  pub no_more : BeginsWithNo is_whitespace rest

-- the white space is that with which a text ends, after a key
pub record IsWhiteEnd (line : LoneLine) (text white : List ℕ) : Type 0 where
  pub front : List ℕ
  pub whole : text ≡ front ++ white
  pub all : list_all (is_key_white line) white ≡ true
  pub ends : is_key_white line (last_or backslash front) ≡ false

-- the rest is a key's source from where the key begins
pub record IsKeyStart (o : ParseOption) (source rest : List ℕ) : Type 0 where
  pub begins : BeginsWhite source rest
  pub kept : o.enabled_preserve_key_leading_whitespace ≡ true → begins.white ≡ []
  pub no_more : o.enabled_preserve_key_leading_whitespace ≡ false → BeginsWithNo is_whitespace rest

-- The text `old` goes on with the key, as the policy writes it, between the white space around another key
-- in its source.
pub record PutsKey (o : ParseOption) (policy : EscapePolicy) (source key old new : List ℕ) : Type 0 where
  pub indent : List ℕ
  pub pad : List ℕ
  pub edges : HasEdges o source indent pad
  pub is_new : new ≡ old ++ (indent ++ (escaped policy key ++ pad))
