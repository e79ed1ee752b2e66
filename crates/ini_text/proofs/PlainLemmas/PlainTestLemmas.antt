-- Each test of a name, a key, a value or a separator holds exactly where what it tests does.
use Rattle.std.proofs.Common.{◌≡◌, ◌≢◌, ◌⊎◌, inl, inr, ℕ, Bool, true, false, not, ◌&&◌, ◌||◌, ◌++◌, cond, eqb}
use Rattle.std.proofs.Common.{eqb-true, List, [], ◌∷◌, refl, ap, sym, ◌∙◌, subst}
use Rattle.std.proofs.lemmas.Bool.{false≢true, and_parts, and_from, both_ways, cond_both, cond-true}
use Rattle.std.proofs.lemmas.Bool.{cond-false, false_from_ne_true, not-true}
use Rattle.std.proofs.lemmas.Bool.Decides.{Decides-and, Decides-like, Decides-not, Decides-or}
use Rattle.std.specs.Bool.{Decides}
use Rattle.std.specs.Char.{is_whitespace}
use Rattle.std.specs.Cmp.Lexicographic.{bytes_decides}
use Rattle.std.specs.List.{list_all}
use Rattle.std.specs.Str.{all_scalars}
use Rattle.ini_text.specs.Grammar.CharacterKinds.{space, is_blank, is_comment_mark, is_quote_mark}
use Rattle.ini_text.specs.Grammar.CharacterKinds.{is_separator, open_bracket, BeginsWith, BeginsWithNo}
use Rattle.ini_text.specs.Laws.Plain.{HasNoEscapes, HasReadEscapes, IsBareKey, IsIndentedByEscape, IsPlainKey}
use Rattle.ini_text.specs.Laws.Plain.{IsPlainName, IsPlainPair, IsPlainSeparator, IsPlainValue, IsReadBack}
use Rattle.ini_text.specs.Grammar.CharacterKinds.{begins}
use Rattle.ini_text.specs.Grammar.Strings.{ends_with_line, noted_key_ends}
use Rattle.ini_text.specs.Laws.Plain.{has_bare_note}
use Rattle.ini_text.specs.Inside.PlainTests.{escapes_nothing, has_no_close_bracket, has_key_note}
use Rattle.ini_text.specs.Inside.PlainTests.{has_no_escapes, has_no_name_end, has_note, has_read_escapes}
use Rattle.ini_text.specs.Inside.PlainTests.{is_bare_key, is_indented_by_escape, is_separator_and_blanks}
use Rattle.ini_text.specs.Inside.PlainTests.{is_plain_key, is_plain_name, is_plain_pair, is_plain_separator}
use Rattle.ini_text.specs.Inside.PlainTests.{is_plain_value, is_read_back, is_trimmed, may_begin_key}
use Rattle.ini_text.specs.Inside.PlainTests.{may_indent}
use Rattle.ini_text.specs.Escaping.Policies.{is_escaped}
use Rattle.ini_text.specs.Inside.Scans.{run_of, skipped}
use Rattle.ini_text.specs.Grammar.WhiteSpace.{trimmed, end_trimmed}
use Rattle.ini_text.specs.declared.option.ParseOption.{ParseOption}
use Rattle.ini_text.specs.declared.write.policy.EscapePolicy.{EscapePolicy}
use Rattle.ini_text.specs.declared.write.policy.EscapePolicy.TheVariants.{Nothing, Basics, BasicsUnicode}
use Rattle.ini_text.specs.declared.write.policy.EscapePolicy.TheVariants.{BasicsUnicodeExtended, Reserved}
use Rattle.ini_text.specs.declared.write.policy.EscapePolicy.TheVariants.{ReservedUnicode}
use Rattle.ini_text.specs.declared.write.policy.EscapePolicy.TheVariants.{ReservedUnicodeExtended, Everything}
use Rattle.ini_text.proofs.PlainLemmas.PlainPairLemmas.{space_raw}
use Rattle.ini_text.proofs.PlainLemmas.PlainTrimLemmas.{trimmed_begins}
use Rattle.ini_text.proofs.ReaderLemmas.RunReaderLemmas.{run-sound}

itself : (b : Bool) → Decides b (b ≡ true)
itself b = (λ e. e, λ e. e)

-- two tests of each character are one
all_and : (p q : ℕ → Bool) (cs : List ℕ)
    → Decides (list_all (λ c. p c && q c) cs) ((list_all p cs ≡ true) × (list_all q cs ≡ true))
all_and p q [] = (λ e. (refl, refl), λ e. refl)
all_and p q (c ∷ cs) = (
  λ e.
      let parts = and_parts (p c && q c) (list_all (λ x. p x && q x) cs) e in
      let here = and_parts (p c) (q c) parts.0 in
      let rest = (all_and p q cs).0 parts.1 in
      (and_from (p c) (list_all p cs) here.0 rest.0, and_from (q c) (list_all q cs) here.1 rest.1),
  λ e.
      let ps = and_parts (p c) (list_all p cs) e.0 in
      let qs = and_parts (q c) (list_all q cs) e.1 in
      and_from (p c && q c) (list_all (λ x. p x && q x) cs) (and_from (p c) (q c) ps.0 qs.0)
      ((all_and p q cs).1 (ps.1, qs.1)),
)

begins_decides : (test : ℕ → Bool) (cs : List ℕ) → Decides (begins test cs) (BeginsWith test cs)
begins_decides test [] = (λ e. sym e, λ e. sym e)
begins_decides test (c ∷ cs) = itself (test c)

not_false : (b : Bool) → Decides (not b) (b ≡ false)
not_false true = (λ e. sym e, λ e. sym e)
not_false false = (λ e. refl, λ e. refl)

begins_no_decides : (test : ℕ → Bool) (cs : List ℕ) → Decides (not (begins test cs)) (BeginsWithNo test cs)
begins_no_decides test [] = (λ e. tt, λ e. refl)
begins_no_decides test (c ∷ cs) = not_false (test c)

trimmed_decides : (cs : List ℕ) → Decides (is_trimmed cs) (trimmed cs ≡ cs)
trimmed_decides cs = bytes_decides (trimmed cs) cs

-- a separator
separator_no_blank : (c : ℕ) → is_separator c ≡ true → is_blank c ≡ false
separator_no_blank c h = at (eqb c 0x3D) refl
  where
    at : (b : Bool) → eqb c 0x3D ≡ b → is_blank c ≡ false
    at true e = ap is_blank (eqb-true c 0x3D e)
    at false e = ap is_blank (eqb-true c 0x3A (subst (λ b. (b || eqb c 0x3A) ≡ true) e h))

skipped-after : (p : ℕ → Bool) (w cs : List ℕ) → list_all p w ≡ true → skipped p (w ++ cs) ≡ skipped p cs
skipped-after p [] cs h = refl
skipped-after p (c ∷ w) cs h =
    let parts = and_parts (p c) (list_all p w) h in
    cond-true (p c) (skipped p (w ++ cs)) (c ∷ (w ++ cs)) parts.0 ∙ skipped-after p w cs parts.1

skipped-none : (p : ℕ → Bool) (cs : List ℕ) → BeginsWithNo p cs → skipped p cs ≡ cs
skipped-none p [] h = refl
skipped-none p (c ∷ cs) h = cond-false (p c) (skipped p cs) (c ∷ cs) h

separator_found : (text rest : List ℕ) → skipped is_blank text ≡ rest → is_separator_and_blanks rest ≡ true
    → IsPlainSeparator text
separator_found text [] e h = absurd (false≢true h)
separator_found text (c ∷ cs) e h =
    let parts = and_parts (is_separator c) (list_all is_blank cs) h in
    record {
      before = run_of is_blank text;
      separator = c;
      after = cs;
      whole = sym (run-sound is_blank text).whole ∙ ap (λ l. run_of is_blank text ++ l) e;
      separates = parts.0;
      blank_before = (run-sound is_blank text).all;
      blank_after = parts.1;
    }

pub separator_decides : (text : List ℕ) → Decides (is_plain_separator text) (IsPlainSeparator text)
separator_decides text = (
  separator_found text (skipped is_blank text) refl,
  λ s.
      let found : skipped is_blank text ≡ s.separator ∷ s.after =
      ap (skipped is_blank) s.whole ∙ skipped-after is_blank s.before (s.separator ∷ s.after) s.blank_before
      ∙ skipped-none is_blank (s.separator ∷ s.after) (separator_no_blank s.separator s.separates) in
      ap is_separator_and_blanks found
      ∙ and_from (is_separator s.separator) (list_all is_blank s.after) s.separates s.blank_after,
)

-- what is read back
nothing_decides : (policy : EscapePolicy) → Decides (escapes_nothing policy) (policy ≡ Nothing)
nothing_decides Nothing = (λ e. refl, λ e. refl)
nothing_decides Basics = (λ e. absurd (false≢true e), λ e. cc)
nothing_decides BasicsUnicode = (λ e. absurd (false≢true e), λ e. cc)
nothing_decides BasicsUnicodeExtended = (λ e. absurd (false≢true e), λ e. cc)
nothing_decides Reserved = (λ e. absurd (false≢true e), λ e. cc)
nothing_decides ReservedUnicode = (λ e. absurd (false≢true e), λ e. cc)
nothing_decides ReservedUnicodeExtended = (λ e. absurd (false≢true e), λ e. cc)
nothing_decides Everything = (λ e. absurd (false≢true e), λ e. cc)

-- a test that fails where another one holds
none_where : (a b : Bool) → Decides (not (a && b)) (a ≡ true → b ≡ false)
none_where true b = let none = not_false b in (λ e on. none.0 e, λ h. none.1 (h refl))
none_where false b = (λ e on. absurd (false≢true on), λ h. refl)

module _ (o : ParseOption) (policy : EscapePolicy) where
  read_escapes_decides : (text : List ℕ)
      → Decides (has_read_escapes o policy text) (HasReadEscapes o policy text)
  read_escapes_decides text =
      Decides-like _ (λ e.
      record { escapes = e.0; escaping = e.1.0; no_unread_letter = e.1.1.0; no_extended = e.1.1.1 })
      (λ r. (r.escapes, (r.escaping, (r.no_unread_letter, r.no_extended))))
      (Decides-and _ _ (itself o.enabled_escape)
      (Decides-and _ _ (Decides-not _ (nothing_decides policy)) (all_and _ _ text)))

  no_escapes_decides : (text : List ℕ) → Decides (has_no_escapes o policy text) (HasNoEscapes o policy text)
  no_escapes_decides text =
      Decides-like _ (λ e. record { no_escaped = e.0; no_backslash = e.1 })
      (λ n. (n.no_escaped, n.no_backslash)) (all_and _ _ text)

  -- of a text that is made of characters
  read_back_decides : (text : List ℕ) → all_scalars text ≡ true
      → Decides (is_read_back o policy text) (IsReadBack o policy text)
  read_back_decides text valid =
      Decides-like _ (λ e. record { of_characters = valid; is_read = e }) (λ r. r.is_read)
      (Decides-or _ _ (read_escapes_decides text) (no_escapes_decides text))

  -- notes
  no_note_decides : (text : List ℕ) → Decides (not (has_note o policy text))
      (o.enabled_inline_comment ≡ true → has_bare_note policy text ≡ false)
  no_note_decides text = none_where o.enabled_inline_comment (has_bare_note policy text)

  -- what ends a name
  name_end_decides : (name : List ℕ)
      → Decides (has_no_name_end o policy name)
      ((o.enabled_brackets_in_section_names ≡ false → has_no_close_bracket name ≡ true)
      × (o.enabled_brackets_in_section_names ≡ true → o.enabled_inline_comment ≡ true
      → has_bare_note policy name ≡ false))
  name_end_decides name = at o.enabled_brackets_in_section_names
    where
      at : (b : Bool) → Decides (cond b (not (has_note o policy name)) (has_no_close_bracket name))
          ((b ≡ false → has_no_close_bracket name ≡ true)
          × (b ≡ true → o.enabled_inline_comment ≡ true → has_bare_note policy name ≡ false))
      at true = (
        λ e. (λ off. absurd (false≢true (sym off)), λ on. (no_note_decides name).0 e),
        λ h. (no_note_decides name).1 (h.1 refl),
      )
      at false = (λ e. (λ off. e, λ on. absurd (false≢true on)), λ h. h.0 refl)

  pub name_decides : (name : List ℕ) → all_scalars name ≡ true
      → Decides (is_plain_name o policy name) (IsPlainName o policy name)
  name_decides name valid =
      Decides-like _
      (λ e. record { is_trimmed = e.0; no_bracket = e.1.0.0; no_note = e.1.0.1; read_back = e.1.1 })
      (λ n. (n.is_trimmed, ((n.no_bracket, n.no_note), n.read_back)))
      (Decides-and _ _ (trimmed_decides name)
      (Decides-and _ _ (name_end_decides name) (read_back_decides name valid)))

  -- values
  no_mark_decides : (value : List ℕ)
      → Decides (not o.enabled_quote || not (begins is_quote_mark value)) (o.enabled_quote ≡ true
      → BeginsWithNo is_quote_mark value)
  no_mark_decides value = at o.enabled_quote
    where
      at : (b : Bool)
          → Decides (not b || not (begins is_quote_mark value)) (b ≡ true → BeginsWithNo is_quote_mark value)
      at true = let none = begins_no_decides is_quote_mark value in (λ e on. none.0 e, λ h. none.1 (h refl))
      at false = (λ e on. absurd (false≢true on), λ h. refl)

  pub value_decides : (value : List ℕ) → all_scalars value ≡ true
      → Decides (is_plain_value o policy value) (IsPlainValue o policy value)
  value_decides value valid =
      Decides-like _
      (λ e. record { is_trimmed = e.0; no_quote_mark = e.1.0; no_note = e.1.1.0; read_back = e.1.1.1 })
      (λ v. (v.is_trimmed, (v.no_quote_mark, (v.no_note, v.read_back))))
      (Decides-and _ _ (trimmed_decides value)
      (Decides-and _ _ (no_mark_decides value)
      (Decides-and _ _ (no_note_decides value) (read_back_decides value valid))))

  -- keys
  indented_decides : (key : List ℕ)
      → Decides (is_indented_by_escape o policy key) (IsIndentedByEscape o policy key)
  indented_decides key =
      Decides-like _ (λ e. record { kept = e.0; white = e.1.0; end_is_trimmed = e.1.1 })
      (λ i. (i.kept, (i.white, i.end_is_trimmed)))
      (Decides-and _
      _ (itself _) (Decides-and _ _ (begins_decides _ key) (bytes_decides (end_trimmed key) key)))

  begins_bare : List ℕ → Type 0
  begins_bare key = (key ≢ [])
      × (BeginsWithNo (λ c. eqb c open_bracket) key
      × BeginsWithNo (λ c. is_comment_mark c && not (is_escaped policy c)) key)

  escaped_mark : (a b : Bool) → Decides (not a || b) ((a && not b) ≡ false)
  escaped_mark true true = (λ e. refl, λ e. refl)
  escaped_mark true false = (λ e. sym e, λ e. sym e)
  escaped_mark false b = (λ e. refl, λ e. refl)

  front_decides : (key : List ℕ) → Decides (begins (may_begin_key policy) key) (begins_bare key)
  unfolding begins_bare
  front_decides [] = (λ e. absurd (false≢true e), λ b. absurd (b.0 refl))
  front_decides (c ∷ cs) =
      Decides-like _ (λ e. (λ q. cc, e)) (λ b. b.1)
      (Decides-and _ _ (not_false (eqb c open_bracket))
      (escaped_mark (is_comment_mark c) (is_escaped policy c)))

  bare_decides : (key : List ℕ) → Decides (is_bare_key o policy key) (IsBareKey o policy key)
  unfolding begins_bare
  bare_decides key =
      Decides-like _
      (λ e.
      record {
        some = e.0.0;
        is_trimmed = e.1.0;
        no_bracket = e.0.1.0;
        no_separator = e.1.1;
        no_comment = e.0.1.1;
      })
      (λ k. ((k.some, (k.no_bracket, k.no_comment)), (k.is_trimmed, k.no_separator)))
      (Decides-and _ _ (front_decides key)
      (Decides-and _ _ (Decides-or _ _ (trimmed_decides key) (indented_decides key)) (itself _)))

  -- no policy escapes a space, so a bare key doesn't begin with one
  no_space : (key : List ℕ) → (trimmed key ≡ key) ⊎ IsIndentedByEscape o policy key
      → BeginsWithNo (λ c. eqb c space) key
  no_space [] h = tt
  no_space (c ∷ cs) (inl t) =
      false_from_ne_true (eqb c space)
      (λ e. both_ways (is_whitespace c) (trimmed_begins (c ∷ cs) t) (ap is_whitespace (eqb-true c space e)))
  no_space (c ∷ cs) (inr i) =
      false_from_ne_true (eqb c space)
      (λ e. both_ways (is_escaped policy c) (ap (is_escaped policy) (eqb-true c space e)
      ∙ space_raw policy) (and_parts (is_whitespace c) (is_escaped policy c) i.white).1)

  key_found : (key : List ℕ) → is_plain_key o policy key ≡ true → IsPlainKey o policy key
  key_found key e = at (may_indent o) refl e
    where
      at : (b : Bool) → may_indent o ≡ b
          → is_bare_key o policy (cond b (skipped (λ c. eqb c space) key) key) ≡ true
          → IsPlainKey o policy key
      at true b h =
          let on =
          and_parts o.enabled_preserve_key_leading_whitespace (not o.enabled_indented_mutiline_value) b in
          subst (IsPlainKey o policy) (run-sound (λ c. eqb c space) key).whole
          (IsPlainKey.after_spaces (run_of (λ c. eqb c space) key) on.0
          (not-true o.enabled_indented_mutiline_value on.1) ((run-sound (λ c. eqb c space) key).all)
          ((bare_decides _).0 h))
      at false b h = IsPlainKey.bare ((bare_decides key).0 h)

  bare_stays : (key : List ℕ) → IsBareKey o policy key
      → is_bare_key o policy (skipped (λ c. eqb c space) key) ≡ true
  bare_stays key k =
      ap (is_bare_key o policy) (skipped-none (λ c. eqb c space) key (no_space key k.is_trimmed))
      ∙ (bare_decides key).1 k

  key_tested : {key : List ℕ} → IsPlainKey o policy key → is_plain_key o policy key ≡ true
  key_tested (IsPlainKey.bare {key} k) =
      cond_both (may_indent o) (skipped (λ c. eqb c space) key) key (λ l. is_bare_key o policy l ≡ true)
      (λ _. bare_stays key k) (λ _. (bare_decides key).1 k)
  key_tested (IsPlainKey.after_spaces {key} spaces on off all k) =
      ap (is_bare_key o policy)
      (cond-true (may_indent o) (skipped (λ c. eqb c space) (spaces ++ key)) (spaces ++ key)
      (and_from o.enabled_preserve_key_leading_whitespace (not o.enabled_indented_mutiline_value) on
      (ap not off))
      ∙ skipped-after (λ c. eqb c space) spaces key all) ∙ bare_stays key k

  key_decides : (key : List ℕ) → Decides (is_plain_key o policy key) (IsPlainKey o policy key)
  key_decides key = (key_found key, key_tested)

  key_no_note_decides : (key : List ℕ)
      → Decides (not (has_key_note o policy key))
      ((noted_key_ends o).notes ≡ true → has_bare_note policy key ≡ false)
  key_no_note_decides key =
      at (ends_with_line o.line_without_separator) o.enabled_inline_comment (has_bare_note policy key)
    where
      at : (a b c : Bool) → Decides (not (a && (b && c))) ((a && b) ≡ true → c ≡ false)
      at true b c = none_where b c
      at false b c = (λ e on. absurd (false≢true on), λ h. refl)

  pub pair_decides : (key value : List ℕ) → all_scalars key ≡ true → all_scalars value ≡ true
      → Decides (is_plain_pair o policy key value) (IsPlainPair o policy key value)
  pair_decides key value key_valid value_valid =
      Decides-like _
      (λ e.
      record { plain_key = e.0; key_no_note = e.1.0; key_read_back = e.1.1.0; plain_value = e.1.1.1 })
      (λ p. (p.plain_key, (p.key_no_note, (p.key_read_back, p.plain_value))))
      (Decides-and _ _ (key_decides key)
      (Decides-and _ _ (key_no_note_decides key)
      (Decides-and _ _ (read_back_decides key key_valid) (value_decides value value_valid))))
