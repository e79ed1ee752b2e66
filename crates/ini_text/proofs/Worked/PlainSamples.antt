-- Texts that are plain, and texts that aren't.
use Rattle.std.proofs.Common.{◌≡◌, ◌≢◌, inl, inr, ℕ, Bool, true, false, not, ◌&&◌, ◌||◌, eqb, eqb-true, List}
use Rattle.std.proofs.Common.{[], ◌∷◌, refl, ap, sym, subst}
use Rattle.std.specs.Prelude.{codes}
use Rattle.std.specs.List.{list_all}
use Rattle.std.proofs.lemmas.Bool.{false≢true, true≢false, and_parts, and_from, and_right, not-true, or_cases}
use Rattle.std.proofs.lemmas.Bool.{both_ways, false_from_ne_true}
use Rattle.ini_text.specs.Options.Backslashes.{is_special}
use Rattle.ini_text.specs.Options.ReadOptions.{backslash_of, default_parse_option, with_raw_backslashes}
use Rattle.ini_text.specs.Laws.Plain.{HasReadEscapes, HasNoEscapes, IsBareKey, IsPlainKey, IsPlainName}
use Rattle.ini_text.specs.Laws.Plain.{IsPlainSeparator, IsPlainValue, IsReadBack, has_unread_letter}
use Rattle.ini_text.specs.Escaping.Policies.{is_basic, is_escaped, is_extended}
use Rattle.ini_text.specs.declared.option.ParseOption.{ParseOption}
use Rattle.ini_text.specs.declared.write.policy.EscapePolicy.{EscapePolicy}
use Rattle.ini_text.specs.declared.write.policy.EscapePolicy.TheVariants.{Nothing, Basics, Reserved}
use Rattle.ini_text.specs.declared.write.policy.EscapePolicy.TheVariants.{Everything}
use Rattle.ini_text.proofs.PlainLemmas.EscapedTextLemmas.{basic-escaped}
use Rattle.ini_text.proofs.Worked.WorkedNotes.{with_notes}

-- Where escapes are on and the policy isn't `Nothing`, a text that has no escapes and needs none is one
-- whose escapes are read: so the two ways to be read back never mix in one document.
all_so : (p q : ℕ → Bool) → ((c : ℕ) → p c ≡ true → q c ≡ true) → (text : List ℕ) → list_all p text ≡ true
    → list_all q text ≡ true
all_so p q so [] h = refl
all_so p q so (c ∷ cs) h =
    let parts = and_parts (p c) (list_all p cs) h in and_from (q c) (list_all q cs) (so c parts.0)
    (all_so p q so cs parts.1)

no_letter : (policy : EscapePolicy) → policy ≢ Nothing → (c : ℕ) → not (is_escaped policy c) ≡ true
    → not (has_unread_letter c) ≡ true
no_letter policy n c h =
    ap not (false_from_ne_true (has_unread_letter c)
    (λ e. both_ways (is_escaped policy c) (not-true (is_escaped policy c) h)
    (basic-escaped policy c n (elim (or_cases (eqb c 0x0B) (eqb c 0x0C) e) [
      | inl q ↦ subst (λ x. is_basic x ≡ true) (sym (eqb-true c 0x0B q)) refl
      | inr q ↦ subst (λ x. is_basic x ≡ true) (sym (eqb-true c 0x0C q)) refl
    ]))))

pub reads_none : (o : ParseOption) (policy : EscapePolicy) (text : List ℕ) → o.enabled_escape ≡ true
    → policy ≢ Nothing → HasNoEscapes o policy text → HasReadEscapes o policy text
reads_none o policy text on n none = record {
  escapes = on;
  escaping = n;
  no_unread_letter = all_so _ (λ c. not (has_unread_letter c)) (no_letter policy n) text none.no_escaped;
  no_extended =
      all_so _ (λ c. not (is_extended c && is_escaped policy c))
      (λ c h. ap not
      (and_right (is_extended c) (is_escaped policy c)
      (not-true (is_escaped policy c) h))) text none.no_escaped;
}

-- between a key and its value
spaced : IsPlainSeparator (codes " \t= ")
spaced = record {
  before = codes " \t";
  separator = 0x3D;
  after = codes " ";
  whole = refl;
  separates = refl;
  blank_before = refl;
  blank_after = refl;
}

-- a text that needs no escapes, by any policy that escapes none of it
letters : (o : ParseOption) → HasNoEscapes o Basics (codes "a key")
letters o = record { no_escaped = refl; no_backslash = refl }

-- a text with escapes that are read
lines : HasReadEscapes default_parse_option Basics (codes "x\n\\y")
lines = record {
  escapes = refl;
  escaping = λ e. cc;
  no_unread_letter = refl;
  no_extended = refl;
}

-- U+000B is written \v, which is read as v
vertical_tab : ¬ IsReadBack default_parse_option Basics (codes "a\u{b}b")
vertical_tab r = elim r.is_read [
  | inl read ↦ false≢true read.no_unread_letter
  | inr none ↦ false≢true none.no_escaped
]

-- five digits are written for a character above U+FFFF, and four are read
emoji : ¬ IsReadBack default_parse_option Everything (codes "🐱")
emoji r = elim r.is_read [
  | inl read ↦ false≢true read.no_extended
  | inr none ↦ false≢true none.no_escaped
]

raw_emoji : IsReadBack default_parse_option Basics (codes "🐱")
raw_emoji =
    record { of_characters = refl; is_read = inr (record { no_escaped = refl; no_backslash = refl }) }

-- a surrogate is no character: its digits, which spell none, would be refused
surrogate : (o : ParseOption) (policy : EscapePolicy) → ¬ IsReadBack o policy (0xD800 ∷ [])
surrogate o policy r = false≢true r.of_characters

-- a backslash that isn't escaped takes the next character along, unless it is a character like any other
raw_backslash : (o : ParseOption) → is_special (backslash_of o) ≡ true
    → ¬ IsReadBack o Nothing (codes "a\\")
raw_backslash o special r = elim r.is_read [
  | inl read ↦ read.escaping refl
  | inr none ↦ false≢true (subst (λ x. (not (x || false) && true) ≡ true) special none.no_backslash)
]

backslashes_that_stay : IsPlainValue with_raw_backslashes Nothing (codes "C:\\x\\")
backslashes_that_stay = record {
  is_trimmed = refl;
  no_quote_mark = λ on. refl;
  no_note = λ on. absurd (false≢true on);
  read_back = record {
    of_characters = refl;
    is_read = inr (record { no_escaped = refl; no_backslash = refl });
  };
}

-- names
-- a closing bracket stands in a name only where names may have brackets
closing_bracket : (o : ParseOption) (policy : EscapePolicy) → o.enabled_brackets_in_section_names ≡ false
    → ¬ IsPlainName o policy (codes "]")
closing_bracket o policy off n = false≢true (n.no_bracket off)

bracketed_name : IsPlainName (record default_parse_option { enabled_brackets_in_section_names = true })
    Basics (codes "a]")
bracketed_name = record {
  is_trimmed = refl;
  no_bracket = λ off. absurd (true≢false off);
  no_note = λ on noted. absurd (false≢true noted);
  read_back = record {
    of_characters = refl;
    is_read = inr (record { no_escaped = refl; no_backslash = refl });
  };
}

space_around_name : (o : ParseOption) (policy : EscapePolicy) → ¬ IsPlainName o policy (codes " a")
space_around_name o policy n = let same : codes "a" ≡ codes " a" = n.is_trimmed in cc

-- values
space_around_value : (o : ParseOption) (policy : EscapePolicy) → ¬ IsPlainValue o policy (codes "v ")
space_around_value o policy v = let same : codes "v" ≡ codes "v " = v.is_trimmed in cc

-- with quotes on a value doesn't begin with a quote's mark
marks : ¬ IsPlainValue default_parse_option Basics (codes "\"a\"")
marks v = true≢false (v.no_quote_mark refl)

abbrev without_quotes : ParseOption
without_quotes = record default_parse_option { enabled_quote = false }

marks_without_quotes : IsPlainValue without_quotes Basics (codes "\"a\"")
marks_without_quotes = record {
  is_trimmed = refl;
  no_quote_mark = λ on. absurd (false≢true on);
  no_note = λ on. absurd (false≢true on);
  read_back = record {
    of_characters = refl;
    is_read = inr (record { no_escaped = refl; no_backslash = refl });
  };
}

-- with inline comments on, a mark stands behind a blank only where it is escaped
note : ¬ IsPlainValue with_notes Basics (codes "v ;")
note v = true≢false (v.no_note refl)

escaped_note : IsPlainValue with_notes Reserved (codes "v ;")
escaped_note = record {
  is_trimmed = refl;
  no_quote_mark = λ on. refl;
  no_note = λ on. refl;
  read_back = record {
    of_characters = refl;
    is_read = inl (record {
      escapes = refl;
      escaping = λ e. cc;
      no_unread_letter = refl;
      no_extended = refl;
    });
  };
}

-- behind a tab too, unless that is escaped
note_after_tab : ¬ IsPlainValue with_notes Nothing (codes "v\t;")
note_after_tab v = true≢false (v.no_note refl)

mark_after_escape : IsPlainValue with_notes Basics (codes "v\t;")
mark_after_escape = record {
  is_trimmed = refl;
  no_quote_mark = λ on. refl;
  no_note = λ on. refl;
  read_back = record {
    of_characters = refl;
    is_read = inl (record {
      escapes = refl;
      escaping = λ e. cc;
      no_unread_letter = refl;
      no_extended = refl;
    });
  };
}

-- keys
empty_key : (o : ParseOption) (policy : EscapePolicy) → ¬ IsBareKey o policy []
empty_key o policy k = k.some refl

opening_bracket : (o : ParseOption) (policy : EscapePolicy) → ¬ IsBareKey o policy (codes "[")
opening_bracket o policy k = true≢false k.no_bracket

-- a separator in a key only where it is escaped
bare_equals : (o : ParseOption) → ¬ IsBareKey o Basics (codes "a=b")
bare_equals o k = false≢true k.no_separator

escaped_equals : (o : ParseOption) → IsBareKey o Reserved (codes "a=b")
escaped_equals o = record {
  some = λ e. cc;
  is_trimmed = inl refl;
  no_bracket = refl;
  no_separator = refl;
  no_comment = refl;
}

-- spaces before a key: with kept indentation, and where values aren't multiline
abbrev kept : ParseOption
kept = record default_parse_option { enabled_preserve_key_leading_whitespace = true }

letter_key : (o : ParseOption) → IsBareKey o Basics (codes "k")
letter_key o = record {
  some = λ e. cc;
  is_trimmed = inl refl;
  no_bracket = refl;
  no_separator = refl;
  no_comment = refl;
}

spaces : IsPlainKey kept Basics (codes "  k")
spaces = IsPlainKey.after_spaces (codes "  ") refl refl refl (letter_key kept)

-- a tab before a key, which is escaped, in multiline values too
tab_before : (o : ParseOption) → o.enabled_preserve_key_leading_whitespace ≡ true
    → IsBareKey o Basics (codes "\tk")
tab_before o on = record {
  some = λ e. cc;
  is_trimmed = inr (record { kept = on; white = refl; end_is_trimmed = refl });
  no_bracket = refl;
  no_separator = refl;
  no_comment = refl;
}

-- a mark of a comment begins a key only where it is escaped, after spaces too
comment_mark : (o : ParseOption) → ¬ IsBareKey o Basics (codes ";k")
comment_mark o k = true≢false k.no_comment
