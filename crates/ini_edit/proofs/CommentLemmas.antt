-- Comments among the elements: an element that begins as a comment does is one, and gives nothing.
use Rattle.std.proofs.Common.{◌≡◌, ℕ, Bool, true, false, not, ◌||◌, List, [], ◌∷◌, ◌++◌, refl, sym, ap}
use Rattle.std.proofs.Common.{subst, append_assoc, append-nil}
use Rattle.std.proofs.lemmas.Bool.{both_ways, false≢true, false_from_ne_true, or_left, or_right}
use Rattle.std.specs.Char.{is_whitespace}
use Rattle.ini_text.specs.Grammar.CharacterKinds.{is_blank, is_comment_mark, BeginsWith}
use Rattle.ini_text.specs.Grammar.Elements.{Given, Element}
use Rattle.ini_text.specs.Grammar.Keys.{Indentation, KeyFront, begins_key}
use Rattle.ini_text.specs.Grammar.CharacterKinds.{begins}
use Rattle.ini_text.specs.declared.option.ParseOption.{ParseOption}
use Rattle.ini_text.proofs.GrammarLemmas.KindLemmas.{comment_mark-apart}
use Rattle.ini.specs.Texts.{Text}
use Rattle.ini_edit.proofs.QuietLemmas.{IsComment, IsHeader, QuietFront, Shape, quiet_front, shape}

-- no blank, no white space and no key begins as a comment does
no_mark_blank : {X : Type 0} (c : ℕ) → is_comment_mark c ≡ true → is_blank c ≡ true → X
no_mark_blank c mark blank = absurd (both_ways (is_blank c) (comment_mark-apart c mark).0 blank)

first_two : (test : ℕ → Bool) (w x : Text) → BeginsWith test w → BeginsWith is_comment_mark (w ++ x)
    → (c : ℕ) × ((test c ≡ true) × (is_comment_mark c ≡ true))
first_two test [] x h m = absurd (false≢true (sym h))
first_two test (c ∷ w) x h m = (c, (h, m))

no_indent : {X : Type 0} {b w : Text} (x : Text) → Indentation b w → BeginsWith is_comment_mark (w ++ x) → X
no_indent {w = w} x i m = let two = first_two is_blank w x i.some m in no_mark_blank two.0 two.1.1 two.1.0

pub no_key : {X : Type 0} {o : ParseOption} {b k y key : Text} → KeyFront o b k y key
    → BeginsWith is_comment_mark (k ++ y) → X
no_key (KeyFront.unindented {s = k} {r = y} begins str) m =
    let two = first_two begins_key (k ++ y) [] begins
    (subst (BeginsWith is_comment_mark) (sym (append-nil (k ++ y))) m) in
    let c = two.0 in
    absurd (both_ways (begins_key c)
    (ap not (or_left (is_whitespace c || is_comment_mark c) _ (or_right (is_whitespace c) _ two.1.1)))
    two.1.0)
no_key (KeyFront.indented {w = w} {s = k} {r = y} i begins str) m =
    no_indent (k ++ y) i (subst (BeginsWith is_comment_mark) (append_assoc w k y) m)

pub begins_with : (test : ℕ → Bool) (x : Text) → begins test x ≡ true → BeginsWith test x
begins_with test [] h = absurd (false≢true h)
begins_with test (c ∷ x) h = h

pub begins_front : (test : ℕ → Bool) (s r : Text) → BeginsWith test s → BeginsWith test (s ++ r)
begins_front test [] r h = absurd (false≢true (sym h))
begins_front test (c ∷ s) r h = h

front_comment : {o : ParseOption} {b s r : Text} → QuietFront o b s r → BeginsWith is_comment_mark (s ++ r)
    → IsComment o b s r []
front_comment {r = r} (QuietFront.blanks {w = w} t i) m =
    no_indent (t ++ r) i (subst (BeginsWith is_comment_mark) (append_assoc w t r) m)
front_comment (QuietFront.white {c = c} q n) m =
    absurd (both_ways (is_whitespace c) (comment_mark-apart c m).1 q)
front_comment (QuietFront.comment mark is) m = is

module _ {o : ParseOption} {b : Text} where
  pub is_comment : {s r : Text} {gives : List Given} → BeginsWith is_comment_mark (s ++ r)
      → Element o b s r gives → IsComment o b s r gives
  is_comment m e = at (shape e) m
    where
      at : {s r : Text} {gives : List Given} → Shape o b s r gives → BeginsWith is_comment_mark (s ++ r)
          → IsComment o b s r gives
      at (Shape.quiet q) m = front_comment (quiet_front q) m
      at (Shape.header (IsHeader.plain off str)) m = absurd (false≢true m)
      at (Shape.header (IsHeader.bracketed on str i)) m = absurd (false≢true m)
      at {r = r} (Shape.pair {k = k} {s = s} {m = x} front some sep value) m =
          no_key front (subst (BeginsWith is_comment_mark) (append_assoc k (x ∷ s) r) m)
      at (Shape.lone_key may_be front some next) m = no_key front m

  pub marked_comment : {s r : Text} {gives : List Given} → BeginsWith is_comment_mark s
      → Element o b s r gives
      → IsComment o b s r gives
  marked_comment {s} {r} m element = is_comment (begins_front is_comment_mark s r m) element

  -- an element that gives an item is none
  pub item_no_comment : {s r : Text} {item : Given} → Element o b s r (item ∷ [])
      → begins is_comment_mark s ≡ false
  item_no_comment {s} {r} {item} element =
      false_from_ne_true (begins is_comment_mark s) (λ h.
      let no : item ∷ [] ≡ [] = at (marked_comment (begins_with is_comment_mark s h) element) in cc)
    where
      at : {s r : Text} {gives : List Given} → IsComment o b s r gives → gives ≡ []
      at (IsComment.whole s one mark all) = refl
      at (IsComment.last one mark all) = refl
      at (IsComment.alone may late remark) = refl
