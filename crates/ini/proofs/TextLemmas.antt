-- Texts are equal exactly where their bytes are.
use Rattle.std.proofs.Common.{◌≡◌, ◌∙◌, ◌↔◌, ℕ, List, Option, None, Some, IfSome, true, String, ap, refl}
use Rattle.std.proofs.Common.{subst, sym}
use lib.Utf8.{encodes}
use Rattle.std.proofs.lemmas.Str.{IsUtf8-string_bytes, encodes-chars}
use Rattle.std.specs.Borrow.{Bor}
use Rattle.std.specs.Cmp.Lexicographic.{bytes_decides}
use Rattle.std.specs.Option.{option_eq}
use Rattle.std.specs.Str.{IsUtf8, chars, bytes_eq}
use Rattle.std.specs.String.{string_bytes, string_eq}
use Rattle.ini_multimap.specs.Keys.{name_fits}
use Rattle.ini_text.proofs.StringLemmas.SameTextLemmas.{same_text}
use Rattle.ini.specs.Texts.{is_text, is_name, name_of, str_name, text_of}
use Rattle.ini.specs.Inside.LentNames.{IsTextName}

-- texts are equal as characters exactly where they are as bytes
pub same_characters : (u v : List ℕ) → IsUtf8 u → IsUtf8 v → (chars u ≡ chars v) ↔ (u ≡ v)
same_characters u v a b = ((λ e. sym (encodes-chars u a) ∙ ap encodes e ∙ encodes-chars v b), ap chars)

module _ {Z : Type 0} where
  -- a key by a `&str`, and by a `String`
  pub same_key : (u : List ℕ) → IsUtf8 u → (k : String Z)
      → bytes_eq u (string_bytes k) ≡ is_text (chars u) (text_of k)
  same_key u a k = same_text u (string_bytes k) a (IsUtf8-string_bytes k)

  -- bytes that are a key's are UTF-8
  pub fitting_key : (u : List ℕ) (k : String Z) → bytes_eq u (string_bytes k) ≡ true → IsUtf8 u
  fitting_key u k h =
      subst (λ (v : List ℕ). IsUtf8 v) (sym ((bytes_decides u (string_bytes k)).0 h)) (IsUtf8-string_bytes k)

  pub same_keys : (j k : String Z) → string_eq j k ≡ is_text (text_of j) (text_of k)
  same_keys j k = same_key (string_bytes j) (IsUtf8-string_bytes j) k

  -- a name by an `Option<&str>`, and by an `Option<String>`
  pub same_name : (n : Option (Bor (List ℕ))) → IsTextName n → (m : Option (String Z))
      → name_fits n m ≡ is_name (str_name n) (name_of m)
  same_name None v None = refl
  same_name None v (Some t) = refl
  same_name (Some s) v None = refl
  same_name (Some s) v (Some t) = same_key s.now v.utf8 t

  pub same_names : (j k : Option (String Z)) → option_eq string_eq j k ≡ is_name (name_of j) (name_of k)
  same_names None None = refl
  same_names None (Some t) = refl
  same_names (Some s) None = refl
  same_names (Some s) (Some t) = same_keys s t

  -- bytes that are a name's are UTF-8
  pub fitting_name : (n : Option (Bor (List ℕ))) (m : Option (String Z)) → name_fits n m ≡ true
      → IfSome n (λ s. IsUtf8 s.now)
  fitting_name None m h = tt
  fitting_name (Some s) None h = absurd cc
  fitting_name (Some s) (Some t) h = fitting_key s.now t h
