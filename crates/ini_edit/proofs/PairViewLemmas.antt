-- What holds of every pair of a text in pieces, of one with a separator and of a key alone.
use Rattle.std.proofs.Common.{◌≡◌, ◌≢◌, ◌∙◌, ◌||◌, ◌&&◌, ◌==◌, ℕ, Bool, true, false, [], ◌∷◌, ◌++◌}
use Rattle.std.proofs.Common.{inl, inr, refl, subst, sym}
use Rattle.std.proofs.lemmas.Bool.{and_parts, false≢true}
use Rattle.std.specs.Prelude.{is_some}
use Rattle.ini_text.specs.Grammar.CharacterKinds.{BeginsWithNo, carriage_return, is_line_end, is_separator}
use Rattle.ini_text.specs.Grammar.CharacterKinds.{line_feed}
use Rattle.ini_text.specs.Grammar.Keys.{KeyFront}
use Rattle.ini_text.specs.Grammar.Places.{IsLone, Stretches, TrailingLines, after_key_source}
use Rattle.ini_text.specs.Grammar.Strings.{Closes, ends_with_line, is_endpoint, key_ends, noted_key_ends}
use Rattle.ini_text.specs.Grammar.Strings.{plain_ends}
use Rattle.ini_text.specs.declared.option.LoneLine.TheVariants.{Key}
use Rattle.ini_text.specs.declared.option.ParseOption.{ParseOption}
use Rattle.ini_text.proofs.LawLemmas.OneAheadLemmas.{Alike, KeyFront-alike}
use Rattle.ini_text.proofs.ReaderLemmas.KeyReaderLemmas.{KeyFront-ends, MayFollow, key_end_separates}
use Rattle.ini_text.proofs.ReaderLemmas.LineReaderLemmas.{TextEnds}
use Rattle.ini.specs.Texts.{Text}
use Rattle.ini_edit.specs.Inside.Spans.{IsLonePair, IsPair, IsValuePair}

-- of two texts that are none together, each is none
no_front : (s t : Text) → s ++ t ≡ [] → s ≡ []
no_front [] t h = refl
no_front (c ∷ s) t h = cc

no_rest : (s t : Text) → s ++ t ≡ [] → t ≡ []
no_rest [] t h = h
no_rest (c ∷ s) t h = cc

-- the stretches of a key alone
pub record NoValue (p : Stretches) : Type 0 where
  pub space_before : p.space_before ≡ []
  pub raw_value : p.raw_value ≡ []
  pub space_after : p.space_after ≡ []
  pub note : p.note ≡ []
  pub trailing_lines : p.trailing_lines ≡ []

pub lone_parts : {o : ParseOption} {p : Stretches} {r value : Text} → IsLone o p r value → NoValue p
lone_parts {p = p} h =
    let after : p.raw_value ++ (p.space_after ++ (p.note ++ p.trailing_lines)) ≡ [] =
    no_rest p.space_before _ h.nothing in
    let next : p.space_after ++ (p.note ++ p.trailing_lines) ≡ [] = no_rest p.raw_value _ after in
    let last : p.note ++ p.trailing_lines ≡ [] = no_rest p.space_after _ next in
    record {
      space_before = no_front p.space_before _ h.nothing;
      raw_value = no_front p.raw_value _ after;
      space_after = no_front p.space_after _ next;
      note = no_front p.note _ last;
      trailing_lines = no_rest p.note _ last;
    }

-- what follows a key alone ends a line, or begins a note
ends_line : (c : ℕ) → is_endpoint (key_ends Key) c ≡ true → is_separator c ≡ false → is_endpoint plain_ends c ≡ true
ends_line c ends other = at (is_endpoint plain_ends c) refl
  where
    line_end : is_endpoint plain_ends c ≡ false → is_line_end c ≡ false
    line_end h = by (c == line_feed) (c == carriage_return) h
      where
        by : (x y : Bool) → (x || (y || false)) ≡ false → (x || y) ≡ false
        by true y h = h
        by false true h = h
        by false false h = h

    at : (b : Bool) → is_endpoint plain_ends c ≡ b → b ≡ true
    at true is = refl
    at false is = absurd (false≢true (sym other ∙ key_end_separates Key c ends (line_end is)))

pub closes_line : (r : Text) → Closes (key_ends Key) r → BeginsWithNo is_separator r → Closes plain_ends r
closes_line [] closes none = refl
closes_line (c ∷ r) closes none = ends_line c closes none

module _ {o : ParseOption} where
  -- where values are in one line there are no trailing lines
  no_trailing : {t r : Text} → TrailingLines o t r → (o.enabled_indented_mutiline_value && true) ≡ false
      → (t ≡ []) × Closes plain_ends r
  no_trailing (TrailingLines.line off closes) is = (refl, closes)
  no_trailing (TrailingLines.end on) is = absurd (false≢true (sym is ∙ rw on refl))
  no_trailing (TrailingLines.lines on end more all) is = absurd (false≢true (sym is ∙ rw on refl))

module _ {o : ParseOption} {c : ℕ} {p : Stretches} {key value r : Text} where
  pub lone_ends : IsLonePair o c p key value r → TextEnds o r
  lone_ends h = at (KeyFront-ends h.key_front)
    where
      at : MayFollow (noted_key_ends o) r → TextEnds o r
      at (inl closes) =
          inl (closes_line r (subst (λ line. Closes (key_ends line) r) h.lone.may_be closes) h.lone.next)
      at (inr (on, mark)) =
          inr ((and_parts (ends_with_line o.line_without_separator) o.enabled_inline_comment on).1, mark)

  pub some_key : IsPair o c p key value r → key ≢ []
  some_key (IsPair.has_value h) = h.some
  some_key (IsPair.is_lone h) = h.some

  -- the key's source before all that follows it
  pub key_front_of : IsPair o c p key value r → KeyFront o (c ∷ []) p.key (after_key_source p ++ r) key
  key_front_of (IsPair.has_value h) =
      rw h.separator_is (KeyFront-alike Alike.same h.key_front)
  key_front_of (IsPair.is_lone h) =
      subst (λ t. KeyFront o (c ∷ []) p.key (t ++ r) key) (sym (lone_nothing h)) h.key_front
    where
      lone_nothing : IsLonePair o c p key value r → after_key_source p ≡ []
      lone_nothing h = rw (h.lone.no_separator, h.lone.nothing) refl

  -- what is in one line has no trailing lines, and what follows closes it, or a key alone before a note
  pub one_line : IsPair o c p key value r → (o.enabled_indented_mutiline_value && is_some p.separator) ≡ false
      → (p.trailing_lines ≡ []) × TextEnds o r
  one_line (IsPair.has_value h) off =
      let none = no_trailing h.are_trailing (rw h.separator_is at off) in (none.0, inl none.1)
  one_line (IsPair.is_lone h) off = ((lone_parts h.lone).trailing_lines, lone_ends h)

  -- and what goes on over lines has a value
  pub goes_on : IsPair o c p key value r → (o.enabled_indented_mutiline_value && is_some p.separator) ≡ true
      → IsValuePair o c p key value r
  goes_on (IsPair.has_value h) on = h
  goes_on (IsPair.is_lone h) on = absurd (at o.enabled_indented_mutiline_value (rw h.lone.no_separator at on))
    where
      at : (m : Bool) → (m && false) ≡ true → ⊥
      at true h = false≢true h
      at false h = false≢true h
