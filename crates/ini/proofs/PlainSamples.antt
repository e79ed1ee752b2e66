-- A document that is plain, and documents that aren't.
use Rattle.std.proofs.Common.{◌≡◌, true, not, ◌&&◌, [], ◌∷◌, refl, sym, subst, zero, suc, inl, None, Some}
use Rattle.std.proofs.Common.{IsSomeAnd, arith, All}
use Rattle.std.specs.Prelude.{codes}
use Rattle.std.specs.List.{list_all}
use Rattle.std.specs.Str.{all_scalars, chars}
use Rattle.ini_text.specs.Options.ReadOptions.{default_parse_option}
use Rattle.ini_text.specs.Laws.Plain.{IsBareKey, IsPlainKey, IsPlainName, IsPlainPair, IsPlainSeparator}
use Rattle.ini_text.specs.Laws.Plain.{IsReadBack, has_unread_letter}
use Rattle.ini_text.specs.Escaping.Policies.{is_escaped, is_extended}
use Rattle.ini_text.specs.Options.WriteOptions.{IsDefaultWriteOption}
use Rattle.ini_text.specs.declared.option.ParseOption.{ParseOption}
use Rattle.ini_text.specs.declared.write.policy.EscapePolicy.TheVariants.{Basics}
use Rattle.ini_text.specs.declared.write.option.WriteOption.{WriteOption}
use Rattle.ini.specs.Documents.{Document}
use Rattle.ini.specs.Plain.{IsPlain}
use Rattle.ini.specs.Texts.{Text}

-- the general section with an empty value, and a section with a line end in a value
abbrev sample : Document
sample = (None, (codes "k", []) ∷ []) ∷ (Some (codes "b"), (codes "j", codes "x\ny") ∷ []) ∷ []

-- texts whose escapes are read
abbrev IsRead : Text → Type 0
IsRead t = IsReadBack default_parse_option Basics t

by_escapes : (t : Text) → all_scalars t ≡ true → list_all (λ c. not (has_unread_letter c)) t ≡ true
    → list_all (λ c. not (is_extended c && is_escaped Basics c)) t ≡ true → IsRead t
by_escapes t characters letters low = record {
  of_characters = characters;
  is_read =
      inl (record { escapes = refl; escaping = λ e. cc; no_unread_letter = letters; no_extended = low });
}

reads_nothing : IsRead []
reads_nothing = by_escapes [] refl refl refl

reads_lines : IsRead (codes "x\ny")
reads_lines = by_escapes (codes "x\ny") refl refl refl

reads_b : IsRead (codes "b")
reads_b = by_escapes (codes "b") refl refl refl

reads_j : IsRead (codes "j")
reads_j = by_escapes (codes "j") refl refl refl

reads_k : IsRead (codes "k")
reads_k = by_escapes (codes "k") refl refl refl

bare_j : IsBareKey default_parse_option Basics (codes "j")
bare_j = record {
  some = λ e. cc;
  is_trimmed = inl refl;
  no_bracket = refl;
  no_separator = refl;
  no_comment = refl;
}

bare_k : IsBareKey default_parse_option Basics (codes "k")
bare_k = record {
  some = λ e. cc;
  is_trimmed = inl refl;
  no_bracket = refl;
  no_separator = refl;
  no_comment = refl;
}

first : IsPlainPair default_parse_option Basics (codes "k") []
first = record {
  plain_key = IsPlainKey.bare bare_k;
  key_no_note = λ on. refl;
  key_read_back = reads_k;
  plain_value = record {
    is_trimmed = refl;
    no_quote_mark = λ on. tt;
    no_note = λ on. refl;
    read_back = reads_nothing;
  };
}

second : IsPlainPair default_parse_option Basics (codes "j") (codes "x\ny")
second = record {
  plain_key = IsPlainKey.bare bare_j;
  key_no_note = λ on. refl;
  key_read_back = reads_j;
  plain_value = record {
    is_trimmed = refl;
    no_quote_mark = λ on. refl;
    no_note = λ on. refl;
    read_back = reads_lines;
  };
}

name : IsPlainName default_parse_option Basics (codes "b")
name = record { is_trimmed = refl; no_bracket = λ _. refl; no_note = λ _ _. refl; read_back = reads_b }

module _ {X : Type 0} (P : X → Type 0) where
  all_of_one : (x : X) → P x → All P (x ∷ [])
  all_of_one x p zero d l = p
  all_of_one x p (suc k) d l = absurd (omega arith)

  all_of_two : (x y : X) → P x → P y → All P (x ∷ y ∷ [])
  all_of_two x y p q zero d l = p
  all_of_two x y p q (suc k) d l = all_of_one y q k d (omega arith)

separator_plain : IsPlainSeparator (chars (codes "="))
unfolding chars
separator_plain = record {
  before = [];
  separator = 0x3D;
  after = [];
  whole = refl;
  separates = refl;
  blank_before = refl;
  blank_after = refl;
}

sample_plain : (w : WriteOption) → IsDefaultWriteOption w → IsPlain sample w default_parse_option
sample_plain w is =
    let policy = w.escape_policy in
    let pair = λ (p : Text × Text). IsPlainPair default_parse_option policy p.0 p.1 in
    let one : pair (codes "k", []) =
    subst (λ p. IsPlainPair default_parse_option p (codes "k") []) (sym is.escape_policy) first in
    let two : pair (codes "j", codes "x\ny") =
    subst (λ p. IsPlainPair default_parse_option p (codes "j") (codes "x\ny"))
    (sym is.escape_policy) second in
    record {
      general = (codes "k", []) ∷ [];
      named = (Some (codes "b"), (codes "j", codes "x\ny") ∷ []) ∷ [];
      sections = refl;
      names = all_of_one (λ s. IsSomeAnd s.0 (λ n. IsPlainName default_parse_option policy n)) _
          (subst (λ p. IsPlainName default_parse_option p (codes "b")) (sym is.escape_policy) name);
      separator = subst (λ t. IsPlainSeparator (chars t)) (sym is.kv_separator) separator_plain;
      pairs = all_of_two (λ s. All pair s.1) _ _ (all_of_one pair (codes "k", []) one)
          (all_of_one pair (codes "j", codes "x\ny") two);
    }

-- a document without its general section isn't plain
emptied : (w : WriteOption) (o : ParseOption) → ¬ IsPlain [] w o
emptied w o p = let none : [] ≡ (None, p.general) ∷ p.named = p.sections in cc

-- nor one with a second general section
two_general : (w : WriteOption) (o : ParseOption) → ¬ IsPlain ((None, []) ∷ (None, []) ∷ []) w o
two_general w o p =
    let rest : p.named ≡ (None, []) ∷ [] = cc in
    subst (λ d. All (λ s. IsSomeAnd s.0 (λ n. IsPlainName o w.escape_policy n)) d) rest p.names zero
    (None, []) (omega arith)
