-- The white space at the end of a value's own lines, character by character from after.
use Rattle.std.proofs.Common.{◌==◌, ◌≡◌, ◌<◌, ℕ, true, false, List, [], ◌∷◌, ◌++◌, length, refl, sym, ap, ◌∙◌}
use Rattle.std.proofs.Common.{subst, subst₂, append_assoc, append-nil, length-append, arith, chars, IsUtf8}
use Rattle.std.proofs.Common.{IsCharBoundary, take, drop, eqb-true, encode_utf8_all}
use Rattle.std.proofs.lemmas.List.{append_cancel_left}
use Rattle.std.proofs.lemmas.Str.{encodes-append, encodes-chars, chars-append, IsCharBoundary-from_take}
use Rattle.std.proofs.Math.Seq.{take-append_seam, drop-append_seam}
use Rattle.std.proofs.lemmas.Bool.{and_parts}
use Rattle.std.specs.List.{list_all}
use Rattle.ini_text.specs.Grammar.CharacterKinds.{backslash, line_feed, is_inline_white}
use Rattle.ini_text.specs.Grammar.Positions.{last_or}
use Rattle.ini_text.specs.Options.Backslashes.{Backslash, begins_escape, is_special}
use Rattle.ini_text.specs.Grammar.Places.{SpaceAfter, ends_bare}
use Rattle.ini_text.specs.Inside.PlaceReader.{IsBeforeSpace}
use Rattle.ini_text.proofs.StringLemmas.ScanLemmas.{last_or_append}

-- after `own` white space alone is left of the lines
pub record SpaceSoFar (lines raw_value : List ℕ) : Type 0 where
  pub white : List ℕ
  pub whole : lines ≡ raw_value ++ white
  pub all : list_all is_inline_white white ≡ true

pub space_none : (lines : List ℕ) → SpaceSoFar lines lines
space_none lines = record { white = []; whole = sym (append-nil lines); all = refl }

pub space_more : {lines raw_value before : List ℕ} (c : ℕ) → SpaceSoFar lines raw_value
    → raw_value ≡ before ++ c ∷ []
    → is_inline_white c ≡ true → SpaceSoFar lines before
space_more {before = before} c p is white = record {
  white = c ∷ p.white;
  whole = p.whole ∙ ap (λ x. x ++ p.white) is ∙ append_assoc before (c ∷ []) p.white;
  all = rw (white, p.all) refl;
}

pub space_escaped : {b : Backslash} {lines raw_value : List ℕ} (before : List ℕ) (c : ℕ)
    → SpaceSoFar lines raw_value → raw_value ≡ before ++ c ∷ [] → begins_escape b c ≡ true
    → IsBeforeSpace b lines lines
space_escaped {b} {lines} before c p is slash =
    let parts = and_parts (c == backslash) (is_special b) slash in
    let whole =
    p.whole ∙ ap (λ x. x ++ p.white) is ∙ append_assoc before (c ∷ []) p.white
    ∙ ap (λ x. before ++ x ∷ p.white) (eqb-true c 92 parts.0) in (
      [],
      sym (append-nil lines),
      subst (λ x. SpaceAfter b x []) (sym whole)
          (SpaceAfter.escaped before p.white parts.1 p.all),
    )

pub space_bare : {b : Backslash} {lines raw_value : List ℕ} (before : List ℕ) (c : ℕ)
    → SpaceSoFar lines raw_value → raw_value ≡ before ++ c ∷ []
    → begins_escape b c ≡ false → is_inline_white c ≡ false → IsBeforeSpace b lines raw_value
space_bare {b} before c p is other ink =
    let last : last_or line_feed (before ++ c ∷ []) ≡ c = last_or_append line_feed c before in
    let bare : ends_bare b (before ++ c ∷ []) ≡ true = rw (last, ink, other) refl in
    (p.white, p.whole, subst (λ x. SpaceAfter b x p.white) (sym is) (SpaceAfter.bare bare p.all))

-- all lines are white space
pub space_all : {b : Backslash} {lines raw_value : List ℕ} → SpaceSoFar lines raw_value → raw_value ≡ []
    → IsBeforeSpace b lines raw_value
space_all {b} p is = (
  p.white,
  p.whole,
  subst (λ x. SpaceAfter b x p.white) (sym is)
      (SpaceAfter.bare {raw_value = []} refl p.all),
)

pub shorter_before : {raw_value : List ℕ} (before : List ℕ) (c : ℕ) → raw_value ≡ before ++ c ∷ []
    → length before < length raw_value
shorter_before before c is = omega (arith, ap length is, length-append before (c ∷ []))

-- the bytes of a text after a front of it
after_bytes : (t f w : List ℕ) → IsUtf8 t → IsUtf8 f → chars t ≡ chars f ++ w → t ≡ f ++ encode_utf8_all w
after_bytes t f w u v h =
    sym (encodes-chars t u) ∙ ap encode_utf8_all h ∙ encodes-append (chars f) w
    ∙ ap (λ x. x ++ encode_utf8_all w) (encodes-chars f v)

module _ {e : Backslash} (t f : List ℕ) (u : IsUtf8 t) (v : IsUtf8 f)
    (before : IsBeforeSpace e (chars t) (chars f)) where
  bytes : t ≡ f ++ encode_utf8_all before.0
  bytes = after_bytes t f before.0 u v before.1

  front_bytes : take (length f) t ≡ f
  front_bytes = ap (take (length f)) bytes ∙ take-append_seam f (encode_utf8_all before.0)

  pub space_boundary : IsCharBoundary t (length f)
  space_boundary =
      IsCharBoundary-from_take t (length f) u
      (omega (arith, ap length bytes, length-append f (encode_utf8_all before.0)))
      (subst IsUtf8 (sym front_bytes) v)

module _ {e : Backslash} (t f a b : List ℕ) (u : IsUtf8 t) (v : IsUtf8 f)
    (before : IsBeforeSpace e (chars t) (chars f))
    (front : a ≡ take (length f) t) (back : b ≡ drop (length f) t) where
  front_is : a ≡ f
  front_is = front ∙ front_bytes t f u v before

  back_is : b ≡ encode_utf8_all before.0
  back_is =
      back ∙ ap (drop (length f)) (bytes t f u v before) ∙ drop-append_seam f (encode_utf8_all before.0)

  pub space_whole : chars t ≡ chars a ++ chars b
  space_whole =
      ap chars (bytes t f u v before) ∙ chars-append f (encode_utf8_all before.0) v
      ∙ ap (λ x. chars f ++ chars x) (sym back_is) ∙ ap (λ x. chars x ++ chars b) (sym front_is)

  pub space_parts : SpaceAfter e (chars a) (chars b)
  space_parts =
      let following : chars b ≡ before.0 =
      append_cancel_left (chars f) (chars b) before.0 (ap (λ x. chars x ++ chars b) (sym front_is)
      ∙ sym space_whole ∙ before.1) in
      subst₂ (λ x y. SpaceAfter e (chars x) y) (sym front_is) (sym following) before.2
