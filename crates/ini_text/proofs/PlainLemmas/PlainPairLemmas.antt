-- Pairs as they are written, read back.
use Rattle.std.proofs.Common.{◌≡◌, ◌≢◌, ◌⊎◌, inl, inr, ℕ, Bool, true, false, not, ◌||◌, ◌&&◌, cond, eqb}
use Rattle.std.proofs.Common.{eqb-true, List, [], ◌∷◌, ◌++◌, refl, sym, ap, ◌∙◌, subst, append_assoc}
use Rattle.std.proofs.Common.{append-nil, chars}
use Rattle.std.proofs.lemmas.Bool.{cond_both, cond-true, cond-false, or_left, or_right, or_from, or_cases}
use Rattle.std.proofs.lemmas.Bool.{or_parts, and_left, and_right, and_parts, and_from, both_ways}
use Rattle.std.proofs.lemmas.Bool.{false_from_ne_true, cases_Bool}
use Rattle.std.specs.Char.{is_whitespace}
use Rattle.std.specs.List.{list_all}
use Rattle.ini_text.proofs.ReaderLemmas.NoteLemmas.{no_mark_no_note}
use Rattle.ini_text.proofs.ReaderLemmas.StringReaderLemmas.{no-backslash}
use Rattle.ini_text.specs.Options.Backslashes.{Backslash}
use Rattle.ini_text.specs.Options.ReadOptions.{backslash_of}
use Rattle.ini_text.specs.declared.option.LoneLine.{LoneLine}
use Rattle.ini_text.specs.declared.option.LoneLine.TheVariants.{RunsOn, Refused, Key}
use Rattle.ini_text.specs.declared.option.ParseOption.{ParseOption}
use Rattle.ini_text.specs.declared.write.policy.EscapePolicy.{EscapePolicy}
use Rattle.ini_text.specs.declared.write.policy.EscapePolicy.TheVariants.{Nothing, Basics, BasicsUnicode}
use Rattle.ini_text.specs.declared.write.policy.EscapePolicy.TheVariants.{BasicsUnicodeExtended, Reserved}
use Rattle.ini_text.specs.declared.write.policy.EscapePolicy.TheVariants.{ReservedUnicode}
use Rattle.ini_text.specs.declared.write.policy.EscapePolicy.TheVariants.{ReservedUnicodeExtended, Everything}
use Rattle.ini_text.specs.declared.write.option.LineSeparator.{LineSeparator}
use Rattle.ini_text.specs.declared.write.option.WriteOption.{WriteOption}
use Rattle.ini_text.specs.declared.write.option.LineSeparator.TheVariants.{SystemDefault, CR, CRLF}
use Rattle.ini_text.specs.Grammar.CharacterKinds.{backslash, line_feed, carriage_return, open_bracket, space}
use Rattle.ini_text.specs.Grammar.CharacterKinds.{begins, is_blank, is_comment_mark, is_inline_white}
use Rattle.ini_text.specs.Grammar.CharacterKinds.{is_line_end, is_line_feed, is_quote_mark, is_separator}
use Rattle.ini_text.specs.Grammar.CharacterKinds.{BeginsWith, BeginsWithNo}
use Rattle.ini_text.specs.Escaping.EscapedTexts.{escape, escaped}
use Rattle.ini_text.specs.Escaping.Policies.{is_escaped}
use Rattle.ini_text.specs.Grammar.WhiteSpace.{Lead, trimmed, end_trimmed}
use Rattle.ini_text.specs.Grammar.Strings.{Closes, Row, Str, is_endpoint, key_ends, noted_key_ends}
use Rattle.ini_text.specs.Grammar.Strings.{plain_ends}
use Rattle.ini_text.specs.Grammar.Lines.{Line, LineText, Quoted, BeginsPlain}
use Rattle.ini_text.specs.Grammar.Values.{LineEnd, MoreLines, Value}
use Rattle.ini_text.specs.Grammar.Keys.{Indentation, KeyFront, begins_key, begins_indented_key, begins_note}
use Rattle.ini_text.specs.Grammar.Positions.{last_or, starts_line, is_column_one}
use Rattle.ini_text.specs.Grammar.Elements.{Pair, Element}
use Rattle.ini_text.specs.Laws.Plain.{has_bare_note, IsPlainSeparator, IsBareKey, IsIndentedByEscape}
use Rattle.ini_text.specs.Laws.Plain.{IsPlainKey, IsPlainValue, IsPlainPair}
use Rattle.ini_text.specs.Laws.PlainLaws.{AreGaps, FollowsPair, GivesLine, IsPairLine, line_ends, pair_source}
use Rattle.ini_text.specs.Options.WriteOptions.{line_end}
use Rattle.ini_text.proofs.GrammarLemmas.KindLemmas.{comment_mark-apart, no_white_no_blank}
use Rattle.ini_text.proofs.GrammarLemmas.LineLemmas.{line_of_text}
use Rattle.ini_text.proofs.PlainLemmas.EscapedTextLemmas.{AllRead, NoBareNote, NoRawEnd, all_read}
use Rattle.ini_text.proofs.PlainLemmas.EscapedTextLemmas.{escaped_begins, row_escaped}
use Rattle.ini_text.proofs.PlainLemmas.PlainLineLemmas.{element_then_gaps-gives, line_end_gaps}
use Rattle.ini_text.proofs.PlainLemmas.PlainLineLemmas.{line_ends_column, row_of}
use Rattle.ini_text.proofs.PlainLemmas.PlainTrimLemmas.{line_end_is_white, trimmed_begins, trimmed_end}
use Rattle.ini_text.proofs.PlainLemmas.PlainTrimLemmas.{end_trimmed-blanks, trimmed-blanks, end_trimmed-after}
use Rattle.ini_text.proofs.PlainLemmas.PlainTrimLemmas.{some_after, without_line_feeds-trimmed}

-- what an escaped text begins with: a backslash, or its first character, which isn't escaped
module _ (P : List ℕ → Type 0) (slash : (y : List ℕ) → P (backslash ∷ y)) (policy : EscapePolicy) where
  -- a bare key begins with no white space, comment's mark or bracket
  pub bare_begins : {o : ParseOption} {key : List ℕ} (x : List ℕ) → IsBareKey o policy key
      → ((c : ℕ) (y : List ℕ) → is_whitespace c ≡ false → is_comment_mark c ≡ false
      → eqb c open_bracket ≡ false → P (c ∷ y)) → P (escaped policy key ++ x)
  bare_begins {o} {key = []} x bare raw = absurd (bare.some refl)
  bare_begins {o} {key = c ∷ cs} x bare raw =
      escaped_begins P slash policy c cs x
      (λ h y. raw c y (no_white h bare.is_trimmed)
      (and_no_not (is_comment_mark c) (is_escaped policy c) bare.no_comment h) bare.no_bracket)
    where
      and_no_not : (a b : Bool) → (a && not b) ≡ false → b ≡ false → a ≡ false
      and_no_not true true h q = q
      and_no_not true false h q = h
      and_no_not false b h q = refl

      no_white : is_escaped policy c ≡ false
          → (trimmed (c ∷ cs) ≡ c ∷ cs) ⊎ IsIndentedByEscape o policy (c ∷ cs) → is_whitespace c ≡ false
      no_white h (inl t) = trimmed_begins (c ∷ cs) t
      no_white h (inr i) =
          absurd (both_ways (is_escaped policy c) h
          (and_parts (is_whitespace c) (is_escaped policy c) i.white).1)

  -- a plain value before a line end
  pub value_begins : {o : ParseOption} {value : List ℕ} (l : ℕ) (x : List ℕ) → IsPlainValue o policy value
      → is_line_end l ≡ true
      → ((y : List ℕ) → P (l ∷ y))
      → ((c : ℕ) (y : List ℕ) → is_whitespace c ≡ false → (o.enabled_quote ≡ true → is_quote_mark c ≡ false)
      → P (c ∷ y)) → P (escaped policy value ++ l ∷ x)
  value_begins {o} {value = []} l x plain h ends raw = ends x
  value_begins {o} {value = c ∷ cs} l x plain h ends raw =
      escaped_begins P slash policy c
      cs (l ∷ x) (λ _ y. raw c y (trimmed_begins (c ∷ cs) plain.is_trimmed) plain.no_quote_mark)

pub no_white_no_line_end : (c : ℕ) → is_whitespace c ≡ false → is_line_end c ≡ false
no_white_no_line_end c h =
    false_from_ne_true (is_line_end c) (λ q. both_ways (is_whitespace c) h (line_end_is_white c q))

-- keys
module _ {o : ParseOption} (policy : EscapePolicy) where
  pub bare_unindented : {key : List ℕ} (x : List ℕ) → IsBareKey o policy key
      → BeginsWith begins_key (escaped policy key ++ x)
  bare_unindented x bare =
      bare_begins (BeginsWith begins_key) (λ y. refl) policy x bare (λ c y white mark bracket.
      ap not (or_from _ (eqb c open_bracket)
      (or_from (is_whitespace c) (is_comment_mark c) white mark) bracket))

  pub bare_indented : {key : List ℕ} (x : List ℕ) → IsBareKey o policy key
      → BeginsWith (begins_indented_key o) (escaped policy key ++ x)
  bare_indented x bare =
      bare_begins (BeginsWith (begins_indented_key o)) (λ y. ap not (no_mark_no_note o backslash refl))
      policy x bare (λ c y white mark bracket.
      ap not (or_from _ (begins_note o c) (or_from _ (eqb c open_bracket)
      (or_from (is_blank c) (is_line_end c) (no_white_no_blank c white)
      (no_white_no_line_end c white)) bracket) (no_mark_no_note o c mark)))

  -- what may follow a multiline value
  follows_multiline : {r : List ℕ} → FollowsPair o policy r → o.enabled_indented_mutiline_value ≡ true
      → BeginsWithNo is_blank r × BeginsWithNo is_line_end r
  follows_multiline FollowsPair.nothing on = (tt, tt)
  follows_multiline FollowsPair.header on = (refl, refl)
  follows_multiline (FollowsPair.pair r (IsPlainKey.bare bare)) on = (
    bare_begins (BeginsWithNo is_blank) (λ y. refl) policy r bare
        (λ c y white mark bracket. no_white_no_blank c white),
    bare_begins (BeginsWithNo is_line_end) (λ y. refl) policy r bare
        (λ c y white mark bracket. no_white_no_line_end c white),
  )
  follows_multiline (FollowsPair.pair r (IsPlainKey.after_spaces spaces kept off all bare)) on =
      absurd (both_ways o.enabled_indented_mutiline_value off on)

-- a text that is read back has no raw line end
pub value_no_end : {escapes : Backslash} {policy : EscapePolicy} {value : List ℕ}
    → AllRead escapes policy value
    → NoRawEnd policy plain_ends value
value_no_end AllRead.none = refl
value_no_end {policy = policy} (AllRead.more {c} one all) =
    and_from (not (is_endpoint plain_ends c) || is_escaped policy c) _
    (elim (cases_Bool (is_escaped policy c)) [
      | inl h ↦ or_right (not (is_endpoint plain_ends c)) (is_escaped policy c) h
      | inr h ↦ or_left (not (is_endpoint plain_ends c)) (is_escaped policy c)
          (ap not (at (eqb c 0x0A) (eqb c 0x0D) (one.no_line_end h)))
    ])
    (value_no_end all)
  where
    at : (x y : Bool) → (x || y) ≡ false → (x || (y || false)) ≡ false
    at true y h = h
    at false true h = h
    at false false h = h

-- where a key ends its characters are not those of a key, and a separator is
blank_no_key_end : (line : LoneLine) (c : ℕ) → is_blank c ≡ true → is_endpoint (key_ends line) c ≡ false
blank_no_key_end RunsOn c h = elim (or_cases (eqb c 0x20) (eqb c 0x09) h)
    [ inl q ↦ rw (eqb-true c 0x20 q) refl | inr q ↦ rw (eqb-true c 0x09 q) refl ]
blank_no_key_end Refused c h = elim (or_cases (eqb c 0x20) (eqb c 0x09) h)
    [ inl q ↦ rw (eqb-true c 0x20 q) refl | inr q ↦ rw (eqb-true c 0x09 q) refl ]
blank_no_key_end Key c h = elim (or_cases (eqb c 0x20) (eqb c 0x09) h)
    [ inl q ↦ rw (eqb-true c 0x20 q) refl | inr q ↦ rw (eqb-true c 0x09 q) refl ]

-- no mark begins blanks
no_mark_in_blanks : (w : List ℕ) → list_all is_blank w ≡ true → BeginsWithNo is_comment_mark w
no_mark_in_blanks [] h = tt
no_mark_in_blanks (c ∷ w) h =
    let blank = (and_parts (is_blank c) (list_all is_blank w) h).0 in
    false_from_ne_true (is_comment_mark c) (λ m. both_ways (is_blank c) (comment_mark-apart c m).0 blank)

-- blanks stand for themselves in a key
blank_row : {escapes : Backslash} (o : ParseOption) (w : List ℕ) → list_all is_blank w ≡ true
    → Row escapes (noted_key_ends o) w w
blank_row o [] h = Row.none
blank_row o (c ∷ w) h =
    let parts = and_parts (is_blank c) (list_all is_blank w) h in
    let unnoted = and_right (is_blank c) _ (unmarked w (no_mark_in_blanks w parts.1)) in
    Row.raw (no-backslash _ _ (λ s. blank_no_backslash c s parts.0))
    (blank_no_key_end o.line_without_separator c parts.0) (and_right (noted_key_ends o).notes _ unnoted)
    (blank_row o w parts.1)
  where
    unmarked : (w : List ℕ) → BeginsWithNo is_comment_mark w → begins is_comment_mark w ≡ false
    unmarked [] h = refl
    unmarked (c ∷ w) h = h

    blank_no_backslash : (c : ℕ) → c ≡ backslash → is_blank c ≡ true → ⊥
    blank_no_backslash c s h = let z = subst (λ x. is_blank x ≡ true) s h in cc

pub separator_closes : (line : LoneLine) (m : ℕ) → is_separator m ≡ true
    → is_endpoint (key_ends line) m ≡ true
separator_closes RunsOn m h = elim (or_cases (eqb m 0x3D) (eqb m 0x3A) h)
    [ inl q ↦ rw (eqb-true m 0x3D q) refl | inr q ↦ rw (eqb-true m 0x3A q) refl ]
separator_closes Refused m h = elim (or_cases (eqb m 0x3D) (eqb m 0x3A) h)
    [ inl q ↦ rw (eqb-true m 0x3D q) refl | inr q ↦ rw (eqb-true m 0x3A q) refl ]
separator_closes Key m h = elim (or_cases (eqb m 0x3D) (eqb m 0x3A) h)
    [ inl q ↦ rw (eqb-true m 0x3D q) refl | inr q ↦ rw (eqb-true m 0x3A q) refl ]

-- a text without raw separators and line ends has no raw end of a key
pub key_no_end : (line : LoneLine) (policy : EscapePolicy) (key : List ℕ)
    → list_all (λ c. not (is_separator c) || is_escaped policy c) key ≡ true
    → NoRawEnd policy plain_ends key → NoRawEnd policy (key_ends line) key
key_no_end line policy [] h free = refl
key_no_end line policy (c ∷ cs) h free =
    let parts = and_parts (not (is_separator c) || is_escaped policy c)
    (list_all (λ c. not (is_separator c) || is_escaped policy c) cs) h in
    let frees = and_parts (not (is_endpoint plain_ends c) || is_escaped policy c)
    (list_all (λ c. not (is_endpoint plain_ends c) || is_escaped policy c) cs) free in
    and_from (not (is_endpoint (key_ends line) c) || is_escaped policy c) _
    (at line parts.0 frees.0) (key_no_end line policy cs parts.1 frees.1)
  where
    runs : (x y z : Bool) → (not (x || y) || z) ≡ true → (not (x || (y || false)) || z) ≡ true
    runs true y z h = h
    runs false true z h = h
    runs false false z h = h

    with_line : (x y l r z : Bool) → (not (x || y) || z) ≡ true → (not (l || (r || false)) || z) ≡ true
        → (not (x || (y || (l || (r || false)))) || z) ≡ true
    with_line true y l r z h k = h
    with_line false true l r z h k = h
    with_line false false l r z h k = k

    at : (line : LoneLine) → (not (is_separator c) || is_escaped policy c) ≡ true
        → (not (is_endpoint plain_ends c) || is_escaped policy c) ≡ true
        → (not (is_endpoint (key_ends line) c) || is_escaped policy c) ≡ true
    at RunsOn h k = runs (eqb c 0x3D) (eqb c 0x3A) (is_escaped policy c) h
    at Refused h k = with_line (eqb c 0x3D) (eqb c 0x3A) (eqb c 0x0A) (eqb c 0x0D) (is_escaped policy c) h k
    at Key h k = with_line (eqb c 0x3D) (eqb c 0x3A) (eqb c 0x0A) (eqb c 0x0D) (is_escaped policy c) h k

-- a bare key, and blanks after it, before a separator
module _ {o : ParseOption} {policy : EscapePolicy} {key : List ℕ} (bare : IsBareKey o policy key)
    (all : AllRead (backslash_of o) policy key) (unnoted : NoBareNote policy (noted_key_ends o) key) where
  bare_end : end_trimmed key ≡ key
  bare_end = elim bare.is_trimmed [
    | inl t ↦ trimmed_end key t
    | inr i ↦ i.end_is_trimmed
  ]

  bare_string : (w r : List ℕ) (m : ℕ) → list_all is_blank w ≡ true → is_separator m ≡ true
      → Str (backslash_of o) (noted_key_ends o) (escaped policy key ++ w) (m ∷ r) (key ++ w)
  bare_string w r m blank sep =
      let line = o.line_without_separator in
      Str.closed
      (row_escaped key all (key_no_end line policy key bare.no_separator (value_no_end all)) unnoted
      (no_mark_in_blanks w blank) (blank_row o w blank)) (separator_closes line m sep)

  bare_key : (w : List ℕ) → list_all is_blank w ≡ true
      → cond o.enabled_preserve_key_leading_whitespace (end_trimmed (key ++ w)) (trimmed (key ++ w)) ≡ key
  bare_key w blank = cond_both o.enabled_preserve_key_leading_whitespace _ _ (λ k. k ≡ key)
      (λ on. end_trimmed-blanks key w blank ∙ bare_end)
      (λ off. trimmed-blanks key w bare.some (begins off bare.is_trimmed) blank ∙ bare_end)
    where
      begins : o.enabled_preserve_key_leading_whitespace ≡ false
          → (trimmed key ≡ key) ⊎ IsIndentedByEscape o policy key → BeginsWithNo is_whitespace key
      begins off (inl t) = trimmed_begins key t
      begins off (inr i) = absurd (both_ways o.enabled_preserve_key_leading_whitespace off i.kept)

  bare_front : {b : List ℕ} (w r : List ℕ) (m : ℕ) → list_all is_blank w ≡ true → is_separator m ≡ true
      → KeyFront o b (escaped policy key ++ w) (m ∷ r) key
  bare_front {b} w r m blank sep =
      let begins : BeginsWith begins_key ((escaped policy key ++ w) ++ m ∷ r) =
      rw (append_assoc (escaped policy key) w (m ∷ r)) (bare_unindented policy (w ++ m ∷ r) bare) in
      subst (KeyFront o b (escaped policy key ++ w) (m ∷ r)) (bare_key w blank)
      (KeyFront.unindented begins (bare_string w r m blank sep))

-- spaces are escaped by no policy
pub space_raw : (policy : EscapePolicy) → is_escaped policy space ≡ false
space_raw Nothing = refl
space_raw Basics = refl
space_raw BasicsUnicode = refl
space_raw BasicsUnicodeExtended = refl
space_raw Reserved = refl
space_raw ReservedUnicode = refl
space_raw ReservedUnicodeExtended = refl
space_raw Everything = refl

escaped-spaces : (policy : EscapePolicy) (spaces key : List ℕ) → list_all (λ c. eqb c space) spaces ≡ true
    → escaped policy (spaces ++ key) ≡ spaces ++ escaped policy key
escaped-spaces policy [] key h = refl
escaped-spaces policy (c ∷ spaces) key h =
    let parts = and_parts (eqb c space) (list_all (λ c. eqb c space) spaces) h in
    let raw : is_escaped policy c ≡ false =
    ap (is_escaped policy) (eqb-true c space parts.0) ∙ space_raw policy in
    ap (λ p. p ++ escaped policy (spaces ++ key)) (cond-false (is_escaped policy c) (escape c) (c ∷ []) raw)
    ∙ ap (λ l. c ∷ l) (escaped-spaces policy spaces key parts.1)

AllRead-after : {escapes : Backslash} {policy : EscapePolicy} {key : List ℕ} (w : List ℕ)
    → AllRead escapes policy (w ++ key) → AllRead escapes policy key
AllRead-after [] all = all
AllRead-after (c ∷ w) (AllRead.more one all) = AllRead-after w all

bare_note-after : (policy : EscapePolicy) (w key : List ℕ) → has_bare_note policy (w ++ key) ≡ false
    → has_bare_note policy key ≡ false
bare_note-after policy [] key h = h
bare_note-after policy (c ∷ w) key h =
    bare_note-after policy w key (or_parts _ (has_bare_note policy (w ++ key)) h).1

spaces_blank : (spaces : List ℕ) → list_all (λ c. eqb c space) spaces ≡ true
    → list_all is_blank spaces ≡ true
spaces_blank [] h = refl
spaces_blank (c ∷ spaces) h =
    let parts = and_parts (eqb c space) (list_all (λ c. eqb c space) spaces) h in
    and_from (is_blank c) _ (or_left (eqb c space) (eqb c 9) parts.0) (spaces_blank spaces parts.1)

pub line_starts : (b : List ℕ) → is_column_one b ≡ true → starts_line b ≡ true
line_starts b one = or_left (is_line_feed (last_or line_feed b)) _ one

module _ {o : ParseOption} {policy : EscapePolicy} where
  spaced_front : {b key : List ℕ} (spaces w r : List ℕ) (m : ℕ) → is_column_one b ≡ true
      → o.enabled_preserve_key_leading_whitespace ≡ true
      → list_all (λ c. eqb c space) spaces ≡ true → IsBareKey o policy key
      → AllRead (backslash_of o) policy key → NoBareNote policy (noted_key_ends o) key
      → list_all is_blank w ≡ true → is_separator m ≡ true
      → KeyFront o b (spaces ++ (escaped policy key ++ w)) (m ∷ r) (spaces ++ key)
  spaced_front [] w r m one kept all bare read unnoted blank sep =
      bare_front bare read unnoted w r m blank sep
  spaced_front {b} {key} (c ∷ spaces) w r m one kept all bare read unnoted blank sep =
      let blanks = spaces_blank (c ∷ spaces) all in
      let first = (and_parts (is_blank c) (list_all is_blank spaces) blanks).0 in
      let ind : Indentation b (c ∷ spaces) =
      record { at_line_start = line_starts b one; some = first; blank = blanks } in
      let begins : BeginsWith (begins_indented_key o) ((escaped policy key ++ w) ++ m ∷ r) =
      rw (append_assoc (escaped policy key) w (m ∷ r)) (bare_indented policy (w ++ m ∷ r) bare) in
      let both = end_trimmed ((c ∷ spaces) ++ (key ++ w)) in
      let key_is : cond o.enabled_preserve_key_leading_whitespace both (trimmed (key ++ w))
      ≡ (c ∷ spaces) ++ key =
      cond-true o.enabled_preserve_key_leading_whitespace _ _ kept
      ∙ ap end_trimmed (sym (append_assoc (c ∷ spaces) key w))
      ∙ end_trimmed-blanks ((c ∷ spaces) ++ key) w blank
      ∙ end_trimmed-after (c ∷ spaces) key bare.some (bare_end bare read unnoted) in
      subst (KeyFront o b ((c ∷ spaces) ++ (escaped policy key ++ w)) (m ∷ r)) key_is
      (KeyFront.indented ind begins (bare_string bare read unnoted w r m blank sep))

  pub key_front : {b key : List ℕ} (w r : List ℕ) (m : ℕ) → is_column_one b ≡ true → IsPlainKey o policy key
      → AllRead (backslash_of o) policy key → NoBareNote policy (noted_key_ends o) key
      → list_all is_blank w ≡ true → is_separator m ≡ true
      → KeyFront o b (escaped policy key ++ w) (m ∷ r) key
  key_front w r m one (IsPlainKey.bare bare) read unnoted blank sep =
      bare_front bare read unnoted w r m blank sep
  key_front {b} w r m one (IsPlainKey.after_spaces {key} spaces kept off all bare) read unnoted blank sep =
      let source : spaces ++ (escaped policy key ++ w) ≡ escaped policy (spaces ++ key) ++ w =
      sym (append_assoc spaces (escaped policy key) w)
      ∙ ap (λ x. x ++ w) (sym (escaped-spaces policy spaces key all)) in
      subst (λ s. KeyFront o b s (m ∷ r) (spaces ++ key)) source
      (spaced_front spaces w r m one kept all bare (AllRead-after spaces read)
      (λ on. bare_note-after policy spaces key (unnoted on)) blank sep)

  pub key_some : {key : List ℕ} → IsPlainKey o policy key → key ≢ []
  key_some (IsPlainKey.bare bare) = bare.some
  key_some (IsPlainKey.after_spaces {key} spaces kept off all bare) = some_after spaces key bare.some

-- values
pub line_end_closes : (l : ℕ) → is_line_end l ≡ true → is_endpoint plain_ends l ≡ true
line_end_closes l h = at (eqb l 0x0A) (eqb l 0x0D) h
  where
    at : (x y : Bool) → (x || y) ≡ true → (x || (y || false)) ≡ true
    at true y h = h
    at false true h = h
    at false false h = h

pub line_end_no_mark : (l : ℕ) → is_line_end l ≡ true → is_quote_mark l ≡ false
line_end_no_mark l h = elim (or_cases (eqb l 0x0A) (eqb l 0x0D) h) [
  | inl q ↦ subst (λ x. is_quote_mark x ≡ false) (sym (eqb-true l 0x0A q)) refl
  | inr q ↦ subst (λ x. is_quote_mark x ≡ false) (sym (eqb-true l 0x0D q)) refl
]

pub inline_blanks : (w : List ℕ) → list_all is_blank w ≡ true → list_all is_inline_white w ≡ true
inline_blanks [] h = refl
inline_blanks (c ∷ w) h =
    let parts = and_parts (is_blank c) (list_all is_blank w) h in
    and_from (is_inline_white c) _ (elim (or_cases (eqb c 0x20) (eqb c 0x09) parts.0) [
      | inl q ↦ subst (λ x. is_inline_white x ≡ true) (sym (eqb-true c 0x20 q)) refl
      | inr q ↦ subst (λ x. is_inline_white x ≡ true) (sym (eqb-true c 0x09 q)) refl
    ]) (inline_blanks w parts.1)

-- a plain value before a line end
module _ {o : ParseOption} {policy : EscapePolicy} {value : List ℕ} (plain : IsPlainValue o policy value)
    (all : AllRead (backslash_of o) policy value) where
  pub value_line : (l : ℕ) (r : List ℕ) → is_line_end l ≡ true
      → Line o true (escaped policy value) (l ∷ r) value
  value_line l r h =
      let unquoted : BeginsPlain o (escaped policy value ++ l ∷ r) = λ on.
      value_begins (BeginsWithNo is_quote_mark) (λ y. refl) policy l r plain h (λ y. line_end_no_mark l h)
      (λ c y white mark. mark on) in
      let closes : Closes plain_ends (l ∷ r) = line_end_closes l h in
      subst (Line o true (escaped policy value) (l ∷ r)) plain.is_trimmed
      (line_of_text closes (LineText.text Quoted.none unquoted
      (Str.closed (row_of value all (value_no_end all) plain.no_note) closes)))

  pub value_lead : (w : List ℕ) (l : ℕ) (r : List ℕ) → list_all is_blank w ≡ true → is_line_end l ≡ true
      → Lead w (escaped policy value ++ l ∷ r)
  value_lead w l r blank h = record {
    white = inline_blanks w blank;
    ends = value_begins (BeginsWithNo is_inline_white) (λ y. refl) policy l r plain h
        (λ y. and_right (is_whitespace l) _ (ap not h))
        (λ c y white mark. and_left (is_whitespace c) _ white);
  }

pub ends_begin : (s : LineSeparator) (x : List ℕ)
    → (l : ℕ) × (y : List ℕ) × (is_line_end l ≡ true) × (line_end s ++ x ≡ l ∷ y)
ends_begin SystemDefault x = (line_feed, x, refl, refl)
ends_begin CR x = (line_feed, x, refl, refl)
ends_begin CRLF x = (carriage_return, line_feed ∷ x, refl, refl)

pub line_end-is : (s : LineSeparator) (r : List ℕ) → LineEnd (line_end s) r
line_end-is SystemDefault r = LineEnd.lf
line_end-is CR r = LineEnd.lf
line_end-is CRLF r = LineEnd.cr_lf

more_lines : {o : ParseOption} {r : List ℕ} (s : LineSeparator) (twice : Bool) → BeginsWithNo is_blank r
    → BeginsWithNo is_line_end r
    → (v : List ℕ) × (list_all is_line_feed v ≡ true) × MoreLines o (cond twice (line_end s) []) r v
more_lines s false n m = ([], refl, MoreLines.done n m)
more_lines SystemDefault true n m = (line_feed ∷ [], refl, MoreLines.empty_lf (MoreLines.done n m))
more_lines CR true n m = (line_feed ∷ [], refl, MoreLines.empty_lf (MoreLines.done n m))
more_lines CRLF true n m = (line_feed ∷ [], refl, MoreLines.empty_cr_lf (MoreLines.done n m))

-- the source of a pair, its separator in three parts
pub source-parts : {text : List ℕ} (key value : List ℕ) (sep : IsPlainSeparator text)
    → (key ++ sep.before) ++ sep.separator ∷ (sep.after ++ value) ≡ key ++ (text ++ value)
source-parts key value sep =
    append_assoc key sep.before (sep.separator ∷ (sep.after ++ value))
    ∙ ap (λ x. key ++ x) (sym (append_assoc sep.before (sep.separator ∷ sep.after) value))
    ∙ ap (λ x. key ++ (x ++ value)) (sym sep.whole)

module _ (o : ParseOption) (w : WriteOption) (twice : Bool) (b key value r : List ℕ)
    (one : is_column_one b ≡ true)
    (sep : IsPlainSeparator (chars w.kv_separator.now)) (plain : IsPlainPair o w.escape_policy key value)
    (follows : FollowsPair o w.escape_policy r) where
  abbrev policy : EscapePolicy
  policy = w.escape_policy

  -- the key and the value as they are written
  abbrev ek : List ℕ
  ek = escaped policy key

  abbrev ev : List ℕ
  ev = escaped policy value

  -- the line end, and a second one
  abbrev end : List ℕ
  end = line_end w.line_separator

  abbrev more_ends : List ℕ
  more_ends = cond twice end []

  read_value : AllRead (backslash_of o) policy value
  read_value = all_read {o = o} policy value plain.plain_value.read_back

  -- a value before what is written of a pair
  pair_element : (v rest : List ℕ) → Value o (sep.after ++ v) rest value
      → Element o b (ek ++ (chars w.kv_separator.now ++ v)) rest (Pair key value ∷ [])
  pair_element v rest given =
      let read_key = all_read {o = o} policy key plain.key_read_back in
      let front =
      key_front {b = b} sep.before ((sep.after ++ v) ++ rest) sep.separator one plain.plain_key read_key
      plain.key_no_note sep.blank_before sep.separates in
      subst (λ x. Element o b x rest (Pair key value ∷ [])) (source-parts ek v sep)
      (Element.pair front (key_some plain.plain_key) sep.separates given)

  -- the value's line and what stands before it
  value_parts : (x : List ℕ) → Lead sep.after (ev ++ (end ++ x)) × Line o true ev (end ++ x) value
  value_parts x =
      let begin = ends_begin w.line_separator x in
      let lead = value_lead plain.plain_value read_value sep.after begin.0 begin.1 sep.blank_after begin.2 in
      let line = value_line plain.plain_value read_value begin.0 begin.1 begin.2 in (
        subst (λ y. Lead sep.after (ev ++ y)) (sym begin.3) lead,
        subst (λ y. Line o true ev y value) (sym begin.3) line,
      )

  -- the line ends left as gaps
  value_left : o.enabled_indented_mutiline_value ≡ false
      → Value o (sep.after ++ ev) (line_ends w twice ++ r) value
  value_left off =
      let parts = value_parts (more_ends ++ r) in
      subst (λ x. Value o (sep.after ++ ev) x value) (sym (append_assoc end more_ends r))
      (Value.one_line off parts.0 parts.1)

  -- the line ends taken by a multiline value
  value_taken : o.enabled_indented_mutiline_value ≡ true
      → Value o (sep.after ++ (ev ++ line_ends w twice)) r value
  value_taken on =
      let ahead = follows_multiline policy follows on in
      let more = more_lines {o = o} w.line_separator twice ahead.0 ahead.1 in
      let parts = value_parts (more_ends ++ r) in
      let source = sep.after ++ (ev ++ (end ++ more_ends)) in
      subst (Value o source r) (without_line_feeds-trimmed value more.0 plain.plain_value.is_trimmed more.1)
      (Value.lines on parts.0 parts.1 (line_end-is w.line_separator (more_ends ++ r)) more.2)

  -- after the line column one begins
  column : is_column_one (b ++ (pair_source w key value ++ line_ends w twice)) ≡ true
  column =
      let source = pair_source w key value in
      ap is_column_one (sym (append_assoc b source (line_ends w twice)))
      ∙ line_ends_column (b ++ source) w twice

  pub pair_line : IsPairLine o w twice b key value r
  pair_line = record {
    taken = λ on.
        let source : ek ++ (chars w.kv_separator.now ++ (ev ++ line_ends w twice))
        ≡ pair_source w key value ++ line_ends w twice =
        simp append_assoc in
        let element = pair_element (ev ++ line_ends w twice) r (value_taken on) in
        record {
          element = subst (λ x. Element o b x r (Pair key value ∷ [])) source element;
          are_gaps = AreGaps.none;
          column_one =
              ap (λ x. is_column_one (b ++ x)) (append-nil (pair_source w key value ++ line_ends w twice))
              ∙ column;
        };
    left = λ off.
        record {
          element = pair_element ev (line_ends w twice ++ r) (value_left off);
          are_gaps = line_end_gaps w twice;
          column_one = column;
        };
  }

-- the line as a row of elements
pub pair_line-gives : {o : ParseOption} {w : WriteOption} {twice : Bool} {b key value r : List ℕ}
    → IsPairLine o w twice b key value r
    → GivesLine o b (pair_source w key value ++ line_ends w twice) r (Pair key value)
pair_line-gives {o} {w} {twice} {b} {key} {value} {r} x =
    let line = pair_source w key value ++ line_ends w twice in
    elim (cases_Bool o.enabled_indented_mutiline_value) [
      | inl on ↦
          subst (λ l. GivesLine o b l r (Pair key value)) (append-nil line)
          (element_then_gaps-gives (x.taken on))
      | inr off ↦ element_then_gaps-gives (x.left off)
    ]
