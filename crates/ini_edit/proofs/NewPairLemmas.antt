-- A new pair, as a style has it written, is read where a line starts.
use Rattle.std.proofs.Common.{◌≡◌, ℕ, Bool, true, false, if◌then◌else◌, [], ◌∷◌, ◌++◌}
use Rattle.std.proofs.Common.{append_assoc, inl, inr, refl, subst, sym}
use Rattle.std.proofs.lemmas.Bool.{and_from, and_parts, both_ways, cases_Bool}
use Rattle.std.specs.List.{list_all}
use Rattle.ini_text.specs.Escaping.EscapedTexts.{escaped}
use Rattle.ini_text.specs.Grammar.CharacterKinds.{is_blank, is_comment_mark, is_inline_white, is_separator}
use Rattle.ini_text.specs.Grammar.CharacterKinds.{BeginsWithNo}
use Rattle.ini_text.specs.Grammar.Keys.{KeyFront}
use Rattle.ini_text.specs.Grammar.Lines.{LineTail}
use Rattle.ini_text.specs.Grammar.Places.{OwnLines, TrailingLines, pair_source, value_source}
use Rattle.ini_text.specs.Grammar.Positions.{starts_line}
use Rattle.ini_text.specs.Grammar.Strings.{noted_key_ends}
use Rattle.ini_text.specs.Grammar.Values.{Value}
use Rattle.ini_text.specs.Laws.PieceLaws.{Agree}
use Rattle.ini_text.specs.Laws.Plain.{IsPlainKey, IsReadBack, has_bare_note}
use Rattle.ini_text.specs.declared.option.LoneLine.{LoneLine}
use Rattle.ini_text.specs.declared.option.LoneLine.TheVariants.{RunsOn, Refused, Key}
use Rattle.ini_text.specs.declared.option.ParseOption.{ParseOption}
use Rattle.ini_text.specs.declared.write.option.WriteOption.{WriteOption}
use Rattle.ini_text.specs.declared.write.policy.EscapePolicy.{EscapePolicy}
use Rattle.ini_text.proofs.GrammarLemmas.KindLemmas.{blank_inline, blank_is_white}
use Rattle.ini_text.proofs.LawLemmas.LocalLemmas.{KeyFront-like}
use Rattle.ini_text.proofs.PlainLemmas.EscapedTextLemmas.{all_read}
use Rattle.ini_text.proofs.PlainLemmas.PlainPairLemmas.{bare_indented, inline_blanks, key_front}
use Rattle.ini_text.proofs.PlainLemmas.PlainPairLemmas.{separator_closes, key_some}
use Rattle.ini.specs.Texts.{Text}
use Rattle.ini_edit.specs.Inside.Spans.{IsPair}
use Rattle.ini_edit.specs.Places.{Follows}
use Rattle.ini_edit.specs.Renamed.{IsPlainBareKey, is_key_white}
use Rattle.ini_edit.specs.SourceWritten.{IsWritableNew, Style, new_pair}
use Rattle.ini_edit.specs.Sources.{PairPiece}
use Rattle.ini_edit.proofs.CommentLemmas.{begins_front, no_key}
use Rattle.ini_edit.proofs.NewKeyLemmas.{EndsKey, follows, indented, unindented}
use Rattle.ini_edit.proofs.ValueLemmas.{tail_closes}

-- what a style writes is blanks and a separator; where keys keep their indentation it has none
pub record IsPlainStyle (o : ParseOption) (s : Style) : Type 0 where
  pub indent : list_all is_blank s.indent ≡ true
  pub kept : o.enabled_preserve_key_leading_whitespace ≡ true → s.indent ≡ []
  pub pad : list_all is_blank s.pad ≡ true
  pub separates : is_separator s.separator ≡ true
  pub space_before : list_all is_blank s.space_before ≡ true

-- a plain key is read as it is written, and where keys end before notes it has none
pub record IsReadKey (o : ParseOption) (policy : EscapePolicy) (key : Text) : Type 0 where
  pub no_note : (noted_key_ends o).notes ≡ true → has_bare_note policy key ≡ false
  pub read_back : IsReadBack o policy key

pub read_key : {o : ParseOption} {w : WriteOption} {key value : Text} → IsWritableNew o w key value
    → IsReadKey o w.escape_policy key
read_key h = record { no_note = h.key_no_note; read_back = h.key_read_back }

-- after white space, and before all that may stand after a value, a source is read as the value
pub record IsSourceFor (o : ParseOption) (source value : Text) : Type 0 where
  pub gives : (w t r : Text) → list_all is_inline_white w ≡ true → TrailingLines o t r
      → Value o (w ++ (source ++ t)) r value
  pub own : (t r : Text) → TrailingLines o t r → OwnLines o (source ++ []) (t ++ r)
  pub starts : BeginsWithNo is_inline_white source

-- blanks may stand after a key
blank_key_white : (line : LoneLine) (c : ℕ) → is_blank c ≡ true → is_key_white line c ≡ true
blank_key_white RunsOn c h = blank_is_white c h
blank_key_white Refused c h = blank_inline c h
blank_key_white Key c h = blank_inline c h

blanks_key_white : (line : LoneLine) (w : Text) → list_all is_blank w ≡ true
    → list_all (is_key_white line) w ≡ true
blanks_key_white line [] h = refl
blanks_key_white line (c ∷ w) h =
    let parts = and_parts (is_blank c) (list_all is_blank w) h in
    and_from (is_key_white line c) _ (blank_key_white line c parts.0) (blanks_key_white line w parts.1)

module _ {o : ParseOption} {policy : EscapePolicy} (pad : Text) (blank_pad : list_all is_blank pad ≡ true)
    (m : ℕ) (sep : is_separator m ≡ true) (r : Text) where
  -- a bare key after blanks that begin a line
  bare_in : {b key : Text} (indent : Text) → list_all is_blank indent ≡ true
      → (o.enabled_preserve_key_leading_whitespace ≡ true → indent ≡ []) → starts_line b ≡ true
      → IsPlainBareKey o policy key → KeyFront o b (indent ++ (escaped policy key ++ pad)) (m ∷ r) key
  bare_in [] blank kept start plain =
      unindented plain pad (blanks_key_white o.line_without_separator pad blank_pad) (m ∷ r)
      (EndsKey.at_key_end (separator_closes o.line_without_separator m sep))
  bare_in {key = key} (c ∷ indent) blank kept start plain =
      elim (cases_Bool o.enabled_preserve_key_leading_whitespace) [
        | inl on ↦ absurd (let no : c ∷ indent ≡ [] = kept on in cc)
        | inr off ↦
            indented plain pad (blanks_key_white o.line_without_separator pad blank_pad) (m ∷ r)
            (EndsKey.at_key_end (separator_closes o.line_without_separator m sep)) {w = c ∷ indent}
            (escaped policy key ++ []) []
            (record {
              at_line_start = start;
              some = (and_parts (is_blank c) (list_all is_blank indent) blank).0;
              blank = blank;
            })
            off refl [] (bare_indented policy [] plain.bare)
      ]

  -- a plain key after blanks that begin a line
  pub key_in : {b key : Text} (indent : Text) → list_all is_blank indent ≡ true
      → (o.enabled_preserve_key_leading_whitespace ≡ true → indent ≡ []) → starts_line b ≡ true
      → IsReadKey o policy key → IsPlainKey o policy key
      → KeyFront o b (indent ++ (escaped policy key ++ pad)) (m ∷ r) key
  key_in indent blank kept start read (IsPlainKey.bare bare) =
      bare_in indent blank kept start
      (record { bare = bare; no_note = read.no_note; read_back = read.read_back })
  key_in {b} indent blank kept start read (IsPlainKey.after_spaces {key} spaces on off all bare) =
      let plain = IsPlainKey.after_spaces spaces on off all bare in
      let front : KeyFront o [] (escaped policy (spaces ++ key) ++ pad) (m ∷ r) (spaces ++ key) =
      key_front pad r m refl plain (all_read {o = o} policy (spaces ++ key) read.read_back) read.no_note
      blank_pad sep in
      let agree : Agree o [] b (escaped policy (spaces ++ key) ++ pad) = record {
        line = λ _. sym start;
        column = λ h. no_key front
            (begins_front is_comment_mark (escaped policy (spaces ++ key) ++ pad) (m ∷ r) h);
        comment = λ _ h. no_key front
            (begins_front is_comment_mark (escaped policy (spaces ++ key) ++ pad) (m ∷ r) h);
      } in
      subst (λ i. KeyFront o b (i ++ (escaped policy (spaces ++ key) ++ pad)) (m ∷ r) (spaces ++ key))
      (sym (kept on)) (KeyFront-like agree front)

  -- where values are multiline it may follow a value
  key_may_follow : {key : Text} → o.enabled_indented_mutiline_value ≡ true → IsReadKey o policy key
      → IsPlainKey o policy key → Follows o ((escaped policy key ++ pad) ++ m ∷ r)
  key_may_follow on read (IsPlainKey.bare bare) =
      follows (record { bare = bare; no_note = read.no_note; read_back = read.read_back }) pad
      (blanks_key_white o.line_without_separator pad blank_pad) (m ∷ r)
      (EndsKey.at_key_end (separator_closes o.line_without_separator m sep))
  key_may_follow on read (IsPlainKey.after_spaces spaces kept off all bare) =
      absurd (both_ways o.enabled_indented_mutiline_value off on)

-- the pair of a plain key, in a plain style, of a source that is read as the value
module _ {o : ParseOption} {policy : EscapePolicy} {key value source : Text} {style : Style}
    (plain : IsPlainKey o policy key) (read_back : IsReadKey o policy key) (is : IsPlainStyle o style)
    (given : IsSourceFor o source value) where
  abbrev made_so : (indented : Bool) → (lines gap : Text) → PairPiece
  made_so indented lines gap = new_pair o policy style indented key value source lines gap

  front_in : {c : ℕ} (indented : Bool) → starts_line (c ∷ []) ≡ true
      → KeyFront o (c ∷ []) ((if indented then style.indent else []) ++ (escaped policy key ++ style.pad))
      (style.separator ∷ []) key
  front_in true start = key_in style.pad is.pad style.separator is.separates [] style.indent is.indent
      is.kept start read_back plain
  front_in false start = key_in style.pad is.pad style.separator is.separates [] [] refl (λ _. refl)
      start read_back plain

  pub new_pair_is : {c : ℕ} {r : Text} (indented : Bool) (lines gap : Text) → starts_line (c ∷ []) ≡ true
      → TrailingLines o (made_so indented lines gap).stretches.trailing_lines r
      → IsPair o c (made_so indented lines gap).stretches key value r
  new_pair_is indented lines gap start trailing = IsPair.has_value (record {
    separator = style.separator;
    separator_is = refl;
    key_front = front_in indented start;
    some = key_some plain;
    separates = is.separates;
    gives = given.gives style.space_before _ _ (inline_blanks style.space_before is.space_before) trailing;
    white_before = inline_blanks style.space_before is.space_before;
    starts = given.starts;
    white_after = refl;
    are_trailing = trailing;
    own_lines = given.own _ _ trailing;
    note = LineTail.none (tail_closes trailing);
    closed = λ _. refl;
    unnoted = λ _. refl;
  })

  -- where values are multiline it may follow a value, if nothing indents it
  pub new_pair_follows : (lines gap x : Text) → o.enabled_indented_mutiline_value ≡ true
      → Follows o (pair_source (made_so false lines gap).stretches ++ x)
  new_pair_follows lines gap x on =
      let v = value_source (made_so false lines gap).stretches in
      subst (Follows o) (sym (append_assoc (escaped policy key ++ style.pad) (style.separator ∷ v) x))
      (key_may_follow style.pad is.pad style.separator is.separates (v ++ x) on read_back plain)
