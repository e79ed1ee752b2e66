-- A key alone that is closed: its last backslash, where that would take what is put in after it, stands for
-- itself, and the key is the same.
use Rattle.std.proofs.Common.{◌≡◌, ◌∙◌, ◌||◌, ℕ, Bool, true, false, not, eqb, if◌then◌else◌, [], ◌∷◌, ◌++◌}
use Rattle.std.proofs.Common.{ap, append_assoc, append-nil, arith, inl, inr, length, length-append, refl}
use Rattle.std.proofs.Common.{subst, sym}
use Rattle.std.proofs.lemmas.Bool.{both_ways, cases_Bool, cond-true, eqb-false, false≢true, or_left, or_right}
use Rattle.std.specs.Char.{is_whitespace}
use Rattle.ini_text.specs.Grammar.CharacterKinds.{backslash, is_blank, is_comment_mark, is_line_end}
use Rattle.ini_text.specs.Grammar.CharacterKinds.{is_separator, letter_x, line_feed, space, BeginsWith}
use Rattle.ini_text.specs.Grammar.CharacterKinds.{BeginsWithNo}
use Rattle.ini_text.specs.Grammar.EscapeSequences.{EscapeSequence}
use Rattle.ini_text.specs.Grammar.Keys.{KeyFront, begins_indented_key, begins_key}
use Rattle.ini_text.specs.Grammar.Places.{IsLone, Stretches}
use Rattle.ini_text.specs.Grammar.Strings.{Closes, Ends, Row, Str, is_endpoint, key_ends, noted_key_ends}
use Rattle.ini_text.specs.Grammar.Strings.{plain_ends}
use Rattle.ini_text.specs.Grammar.WhiteSpace.{end_trimmed, trimmed}
use Rattle.ini_text.specs.Options.Backslashes.{Backslash, is_special, reads_escapes}
use Rattle.ini_text.specs.Options.ReadOptions.{backslash_of}
use Rattle.ini_text.specs.declared.option.LoneLine.{LoneLine}
use Rattle.ini_text.specs.declared.option.LoneLine.TheVariants.{Key}
use Rattle.ini_text.specs.declared.option.ParseOption.{ParseOption}
use Rattle.ini_text.proofs.PlainLemmas.PlainPairLemmas.{inline_blanks}
use Rattle.ini_text.proofs.PlainLemmas.PlainTrimLemmas.{line_end_is_white}
use Rattle.ini_text.proofs.ReaderLemmas.KeyReaderLemmas.{key_end_separates, line_end_no_separator}
use Rattle.ini.specs.Texts.{Text}
use Rattle.ini_edit.specs.Endings.{Closing, Ending, ending_from}
use Rattle.ini_edit.specs.Inside.Spans.{IsLonePair}
use Rattle.ini_edit.proofs.EndingLemmas.{ending-row, ending-white, off_reads, on_reads}
use Rattle.ini_edit.proofs.GluedLemmas.{closing_inside, note_row, row-append}
use Rattle.ini_edit.proofs.PadLemmas.{value_with_space}
use Rattle.ini_edit.proofs.ValueLemmas.{closes_line_end}

-- what closes a line ends a key that may be alone, and separates nothing
pub closes_key : (y : Text) → Closes plain_ends y → Closes (key_ends Key) y
closes_key [] h = refl
closes_key (c ∷ y) h = or_right (eqb c 0x3D) _ (or_right (eqb c 0x3A) _ h)

pub closes_no_separator : (y : Text) → Closes plain_ends y → BeginsWithNo is_separator y
closes_no_separator [] h = tt
closes_no_separator (c ∷ y) h = line_end_no_separator c (closes_line_end c h)

-- a key begins with a character of its own, whatever follows it
begins_own : (line : LoneLine) (test : ℕ → Bool) → ((c : ℕ) → is_line_end c ≡ true → test c ≡ false)
    → (s r k y : Text) → (s ≡ [] → Closes (key_ends line) r) → BeginsWithNo is_separator r
    → BeginsWith test (s ++ r) → BeginsWith test ((s ++ k) ++ y)
begins_own line test apart (c ∷ s) r k y ends next begins = begins
begins_own line test apart [] [] k y ends next begins = absurd (false≢true (sym begins))
begins_own line test apart [] (c ∷ r) k y ends next begins = elim (cases_Bool (is_line_end c)) [
  | inl end ↦ absurd (both_ways (test c) (apart c end) begins)
  | inr other ↦ absurd (both_ways (is_separator c) next (key_end_separates line c (ends refl) other))
]

no_line_end_begins : (c : ℕ) → is_line_end c ≡ true → begins_key c ≡ false
no_line_end_begins c end =
    ap not (or_left (is_whitespace c || is_comment_mark c) _
    (or_left (is_whitespace c) _ (line_end_is_white c end)))

no_line_end_indented : (o : ParseOption) (c : ℕ) → is_line_end c ≡ true → begins_indented_key o c ≡ false
no_line_end_indented o c end =
    ap not (or_left _ _ (or_left _ _ (or_right (is_blank c) (is_line_end c) end)))

-- an empty string ends at what closes it
no_string : {b : Backslash} {ends : Ends} {s r v : Text} → Str b ends s r v → s ≡ [] → Closes ends r
no_string (Str.closed row h) none = h
no_string (Str.before_note {s} c row n inside note) none =
    absurd (omega (arith, length-append s (c ∷ []), ap length none))
no_string (Str.lone {s} special row h) none =
    absurd (omega (arith, length-append s (backslash ∷ []), ap length none))

-- a string before what ends a key, with what closes it: it has the same value, but for white space
record IsClosedString (o : ParseOption) (s k y v : Text) : Type 0 where
  value : Text
  str : Str (backslash_of o) (noted_key_ends o) (s ++ k) y value
  both : trimmed value ≡ trimmed v
  ends : (w : Text) → end_trimmed (w ++ value) ≡ end_trimmed (w ++ v)

module _ (o : ParseOption) (may_be : o.line_without_separator ≡ Key) (y : Text)
    (closes : Closes (key_ends Key) y) where
  key_closes : Closes (noted_key_ends o) y
  key_closes = subst (λ l. Closes (key_ends l) y) (sym may_be) closes

  feed_ends : is_endpoint (noted_key_ends o) line_feed ≡ true
  feed_ends = subst (λ l. is_endpoint (key_ends l) line_feed ≡ true) (sym may_be) refl

  row_closed : {s v k : Text} → Row (backslash_of o) (noted_key_ends o) s v
      → Closing o (ending_from o Ending.inside s) k → IsClosedString o s k y v
  row_closed {s} {v} {k} row closing =
      let is : ending_from o Ending.inside s ≡ Ending.inside =
      ap (ending_from o Ending.inside) (sym (append-nil s)) ∙ ending-row o [] feed_ends row in
      let none : k ≡ [] = closing_inside (subst (λ e. Closing o e k) is closing) in
      record {
        value = v;
        str = subst (λ z. Str (backslash_of o) (noted_key_ends o) z y v)
            (sym (append-nil s) ∙ ap (λ z. s ++ z) (sym none)) (Str.closed row key_closes);
        both = refl;
        ends = λ w. refl;
      }

  backslash_closed : {s v k : Text} → is_special (backslash_of o) ≡ true
      → Row (backslash_of o) (noted_key_ends o) s v → Closing o Ending.escape k
      → IsClosedString o (s ++ backslash ∷ []) k y (v ++ backslash ∷ [])
  backslash_closed {s} {v} special row (Closing.by_backslash on) =
      let slash : EscapeSequence (reads_escapes (backslash_of o)) (backslash ∷ (backslash ∷ []))
      (backslash ∷ []) =
      EscapeSequence.itself (on_reads o on) (eqb-false backslash line_feed refl)
      (eqb-false backslash letter_x refl) refl in
      record {
        value = v ++ backslash ∷ [];
        str = subst (λ z. Str (backslash_of o) (noted_key_ends o) z y (v ++ backslash ∷ []))
            (sym (append_assoc s (backslash ∷ []) (backslash ∷ [])))
            (Str.closed (row-append refl row (Row.escape special slash Row.none)) key_closes);
        both = refl;
        ends = λ w. refl;
      }
  backslash_closed {s} {v} special row (Closing.by_space off) =
      let kept : EscapeSequence (reads_escapes (backslash_of o)) (backslash ∷ (space ∷ []))
      (backslash ∷ (space ∷ [])) =
      EscapeSequence.kept (off_reads o off) (eqb-false space line_feed refl) in
      record {
        value = v ++ backslash ∷ (space ∷ []);
        str = subst (λ z. Str (backslash_of o) (noted_key_ends o) z y (v ++ backslash ∷ (space ∷ [])))
            (sym (append_assoc s (backslash ∷ []) (space ∷ [])))
            (Str.closed (row-append refl row (Row.escape special kept Row.none)) key_closes);
        both = value_with_space true false v;
        ends = λ w. ap end_trimmed (sym (append_assoc w v (backslash ∷ (space ∷ []))))
            ∙ value_with_space false false (w ++ v) ∙ ap end_trimmed (append_assoc w v (backslash ∷ []));
      }

  string_closed : {s r v k : Text} → Str (backslash_of o) (noted_key_ends o) s r v
      → Closing o (ending_from o Ending.inside s) k → IsClosedString o s k y v
  string_closed (Str.closed row h) closing = row_closed row closing
  string_closed {r = r} (Str.before_note c row n inside note) closing =
      row_closed (note_row (noted_key_ends o) c r row n inside note) closing
  string_closed {k = k} (Str.lone {s} special row h) closing =
      let is : ending_from o Ending.inside (s ++ backslash ∷ []) ≡ Ending.escape =
      ending-row o (backslash ∷ []) feed_ends row
      ∙ cond-true (is_special (backslash_of o)) Ending.escape _ special in
      backslash_closed special row (subst (λ e. Closing o e k) is closing)

module _ {o : ParseOption} where
  -- the key before what ends one
  pub key_closed : {b s r key k : Text} (y : Text) → o.line_without_separator ≡ Key
      → Closes (key_ends Key) y
      → BeginsWithNo is_separator r → KeyFront o b s r key → Closing o (ending_from o Ending.inside s) k
      → KeyFront o b (s ++ k) y key
  key_closed {b} {k = k} y may_be closes next (KeyFront.unindented {s} {r} {v} begins str) closing =
      let keep = o.enabled_preserve_key_leading_whitespace in
      let new = string_closed o may_be y closes str closing in
      subst (KeyFront o b (s ++ k) y)
      (ap (λ x. if keep then x else trimmed new.value) (new.ends [])
      ∙ ap (λ x. if keep then end_trimmed v else x) new.both)
      (KeyFront.unindented
      (begins_own o.line_without_separator begins_key no_line_end_begins s r k y (no_string str) next begins)
      new.str)
  key_closed {b} {k = k} y may_be closes next (KeyFront.indented {w} {s} {r} {v} i begins str) closing =
      let keep = o.enabled_preserve_key_leading_whitespace in
      let new = string_closed o may_be y closes str
      (subst (λ e. Closing o e k) (ending-white o w s (inline_blanks w i.blank)) closing) in
      subst (λ z. KeyFront o b z y (if keep then end_trimmed (w ++ v) else trimmed v))
      (sym (append_assoc w s k))
      (subst (KeyFront o b (w ++ (s ++ k)) y)
      (ap (λ x. if keep then x else trimmed new.value) (new.ends w)
      ∙ ap (λ x. if keep then end_trimmed (w ++ v) else x) new.both)
      (KeyFront.indented i
      (begins_own o.line_without_separator (begins_indented_key o) (no_line_end_indented o) s r k y
      (no_string str) next begins) new.str))

  pub lone_closed : {c : ℕ} {p : Stretches} {key value r k : Text} (y : Text) → Closes plain_ends y
      → IsLonePair o c p key value r → Closing o (ending_from o Ending.inside p.key) k
      → IsLonePair o c (record p { key = p.key ++ k }) key value y
  lone_closed y closes is closing = record {
    lone = record {
      may_be = is.lone.may_be;
      no_separator = is.lone.no_separator;
      nothing = is.lone.nothing;
      empty = is.lone.empty;
      next = closes_no_separator y closes;
    };
    key_front = key_closed y is.lone.may_be (closes_key y closes) is.lone.next is.key_front closing;
    some = is.some;
  }
