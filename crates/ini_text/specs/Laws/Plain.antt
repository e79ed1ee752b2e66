-- Plain names and pairs: those that, written by a policy, are read back by the options just as they were.
use Rattle.std.specs.Prelude.{◌≡◌, ◌≢◌, ◌⊎◌, ℕ, Bool, true, false, not, ◌&&◌, ◌||◌, ◌==◌, List, [], ◌∷◌, ◌++◌}
use Rattle.std.specs.Char.{is_whitespace}
use Rattle.std.specs.List.{list_all}
use Rattle.std.specs.Str.{all_scalars}
use Rattle.ini_text.specs.Grammar.CharacterKinds.{close_bracket, open_bracket, space, is_blank}
use Rattle.ini_text.specs.Grammar.CharacterKinds.{is_comment_mark, is_line_end, is_quote_mark, is_separator}
use Rattle.ini_text.specs.Grammar.CharacterKinds.{begins, BeginsWith, BeginsWithNo}
use Rattle.ini_text.specs.Grammar.Strings.{noted_key_ends}
use Rattle.ini_text.specs.Options.Backslashes.{begins_escape}
use Rattle.ini_text.specs.Options.ReadOptions.{backslash_of}
use Rattle.ini_text.specs.Escaping.Policies.{is_escaped, is_extended}
use Rattle.ini_text.specs.Grammar.WhiteSpace.{trimmed, end_trimmed}
use Rattle.ini_text.specs.declared.option.ParseOption.{ParseOption}
use Rattle.ini_text.specs.declared.write.policy.EscapePolicy.{EscapePolicy}
use Rattle.ini_text.specs.declared.write.policy.EscapePolicy.TheVariants.{Nothing}

-- what is written between a key and its value
pub record IsPlainSeparator (text : List ℕ) : Type 0 where
  pub before : List ℕ
  pub separator : ℕ
  pub after : List ℕ
  pub whole : text ≡ before ++ separator ∷ after
  -- one = or :
  pub separates : is_separator separator ≡ true
  -- only spaces and tabs stand before it
  pub blank_before : list_all is_blank before ≡ true
  -- only spaces and tabs stand after it
  pub blank_after : list_all is_blank after ≡ true

-- U+000B and U+000C, whose escapes \v and \f aren't read
abbrev pub has_unread_letter : ℕ → Bool
has_unread_letter c = c == 0x0B || c == 0x0C

-- the text's escapes are read
pub record HasReadEscapes (o : ParseOption) (policy : EscapePolicy) (text : List ℕ) : Type 0 where
  -- escapes are on
  pub escapes : o.enabled_escape ≡ true
  -- the policy isn't `Nothing`
  pub escaping : policy ≢ Nothing
  -- no character is U+000B or U+000C
  pub no_unread_letter : list_all (λ c. not (has_unread_letter c)) text ≡ true
  -- no character above U+FFFF is escaped by the policy: its digits are more than four
  pub no_extended : list_all (λ c. not (is_extended c && is_escaped policy c)) text ≡ true

-- the text has no escapes and needs none
pub record HasNoEscapes (o : ParseOption) (policy : EscapePolicy) (text : List ℕ) : Type 0 where
  -- no character is escaped by the policy
  pub no_escaped : list_all (λ c. not (is_escaped policy c)) text ≡ true
  -- no character is LF, CR or a backslash, unless that is a character like any other
  pub no_backslash : list_all (λ c. not (begins_escape (backslash_of o) c || is_line_end c)) text ≡ true

-- The characters of the text are read back, each as itself. (Of two texts the one may be so by its escapes
-- and the other without any; but where escapes are on and the policy isn't `Nothing`, a text that
-- needs no escapes has none that isn't read.)
pub record IsReadBack (o : ParseOption) (policy : EscapePolicy) (text : List ℕ) : Type 0 where
  -- it is made of characters, as each text that a program holds is: it has no surrogates
  pub of_characters : all_scalars text ≡ true
  -- its escapes are read, or it has none and needs none
  pub is_read : HasReadEscapes o policy text ⊎ HasNoEscapes o policy text

-- a comment mark that isn't escaped stands in the text behind a blank that isn't
abbrev pub has_bare_note : EscapePolicy → List ℕ → Bool
has_bare_note policy [] = false
has_bare_note policy (c ∷ cs) =
    is_blank c && not (is_escaped policy c) && begins (λ d. is_comment_mark d && not (is_escaped policy d)) cs
    || has_bare_note policy cs

-- the name of a section
pub record IsPlainName (o : ParseOption) (policy : EscapePolicy) (name : List ℕ) : Type 0 where
  -- it is trimmed
  pub is_trimmed : trimmed name ≡ name
  -- it has no closing bracket, unless brackets may stand in names
  pub no_bracket : o.enabled_brackets_in_section_names ≡ false
      → list_all (λ c. not (c == close_bracket)) name ≡ true
  -- where brackets may stand in names, and inline comments are on, it has no bare note
  pub no_note : o.enabled_brackets_in_section_names ≡ true → o.enabled_inline_comment ≡ true
      → has_bare_note policy name ≡ false
  -- its characters are read back
  pub read_back : IsReadBack o policy name

-- a key that begins with white space, which an escape keeps
pub record IsIndentedByEscape (o : ParseOption) (policy : EscapePolicy) (key : List ℕ) : Type 0 where
  -- keys keep their indentation
  pub kept : o.enabled_preserve_key_leading_whitespace ≡ true
  -- white space that the policy escapes begins it
  pub white : BeginsWith (λ c. is_whitespace c && is_escaped policy c) key
  -- its end is trimmed
  pub end_is_trimmed : end_trimmed key ≡ key

-- a key with no spaces before it
pub record IsBareKey (o : ParseOption) (policy : EscapePolicy) (key : List ℕ) : Type 0 where
  -- it isn't empty
  pub some : key ≢ []
  -- it is trimmed, or begins with white space that an escape keeps
  pub is_trimmed : (trimmed key ≡ key) ⊎ IsIndentedByEscape o policy key
  -- an opening bracket doesn't begin it
  pub no_bracket : BeginsWithNo (λ c. c == open_bracket) key
  -- = and : stand only where the policy escapes them
  pub no_separator : list_all (λ c. not (is_separator c) || is_escaped policy c) key ≡ true
  -- ; and # begin it only where the policy escapes them
  pub no_comment : BeginsWithNo (λ c. is_comment_mark c && not (is_escaped policy c)) key

-- the key of a pair
pub data IsPlainKey (o : ParseOption) (policy : EscapePolicy) : List ℕ → Type 0 where
  bare : {key : List ℕ} → IsBareKey o policy key → IsPlainKey o policy key
  -- where keys keep their indentation and values aren't multiline, spaces may stand before such a key
  after_spaces : {key : List ℕ} (spaces : List ℕ) → o.enabled_preserve_key_leading_whitespace ≡ true
      → o.enabled_indented_mutiline_value ≡ false → list_all (λ c. c == space) spaces ≡ true
      → IsBareKey o policy key → IsPlainKey o policy (spaces ++ key)

-- the value of a pair
pub record IsPlainValue (o : ParseOption) (policy : EscapePolicy) (value : List ℕ) : Type 0 where
  -- it is trimmed
  pub is_trimmed : trimmed value ≡ value
  -- with quotes on, no quote's mark begins it
  pub no_quote_mark : o.enabled_quote ≡ true → BeginsWithNo is_quote_mark value
  -- with inline comments on, it has no bare note
  pub no_note : o.enabled_inline_comment ≡ true → has_bare_note policy value ≡ false
  -- its characters are read back
  pub read_back : IsReadBack o policy value

-- a key with its value
pub record IsPlainPair (o : ParseOption) (policy : EscapePolicy) (key value : List ℕ) : Type 0 where
  pub plain_key : IsPlainKey o policy key
  -- where keys end before notes, it has no bare note
  pub key_no_note : (noted_key_ends o).notes ≡ true → has_bare_note policy key ≡ false
  -- the key's characters are read back
  pub key_read_back : IsReadBack o policy key
  pub plain_value : IsPlainValue o policy value
