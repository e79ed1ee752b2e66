-- Where the elements of a text in pieces begin: positions that are passed on are those after the front.
use Rattle.std.proofs.Common.{◌≡◌, ◌∙◌, ◌+◌, ◌||◌, ℕ, Bool, true, false, cond, List, [], ◌∷◌, ◌++◌, Option}
use Rattle.std.proofs.Common.{ap, append_assoc, append-nil, arith, count_by, length, refl, sym}
use Rattle.std.proofs.lemmas.Bool.{cond-false, cond-true}
use Rattle.std.proofs.lemmas.List.{length-append}
use Rattle.std.specs.List.{list_any}
use Rattle.ini_text.specs.Grammar.CharacterKinds.{is_line_feed, line_feed}
use Rattle.ini_text.specs.Grammar.Places.{Stretches, pair_source, separator_text, value_source}
use Rattle.ini_text.specs.Grammar.Positions.{column_of, last_line, line_of}
use Rattle.ini_text.proofs.LawLemmas.MovedLemmas.{column_of-after, line_of-after}
use Rattle.ini_text.proofs.StringLemmas.ScanLemmas.{last_or_append}
use Rattle.ini.specs.Texts.{Text}
use Rattle.ini_edit.specs.Inside.SourceElementWalks.{passed, passed_character, placed_from}
use Rattle.ini_edit.specs.SourceElements.{ContentPiece, ElementPiece, content_text, counted}
use Rattle.ini_edit.specs.SourceElements.{placed_contents, position_of}
use Rattle.ini_edit.specs.SourceLines.{is_empty}
use Rattle.ini_edit.specs.Sources.{PairPiece}
use Rattle.ini_edit.specs.declared.source.elements.Position.{Position}

abbrev position : ℕ → ℕ → Position
position line column = record { line = line; column = column }

same_position : {a b c d : ℕ} → a ≡ b → c ≡ d → position a c ≡ position b d
same_position {a} {d = d} line column = ap (λ n. position a n) column ∙ ap (λ n. position n d) line

counted_more : (n : ℕ) → counted (counted n + 1) ≡ counted (n + 1)
counted_more n = omega arith

module _ (c : ℕ) (other : is_line_feed c ≡ false) where
  any_more : (front : Text) → list_any is_line_feed (front ++ c ∷ []) ≡ list_any is_line_feed front
  any_more [] = ap (λ b. b || false) other
  any_more (d ∷ front) = ap (λ b. is_line_feed d || b) (any_more front)

  put_in : (b : Bool) (s t : Text) → cond b (s ++ c ∷ []) (t ++ c ∷ []) ≡ cond b s t ++ c ∷ []
  put_in true s t = refl
  put_in false s t = refl

  last_line-more : (front : Text) → last_line (front ++ c ∷ []) ≡ last_line front ++ c ∷ []
  last_line-more [] = cond-false (list_any is_line_feed (c ∷ [])) [] (c ∷ []) (any_more [])
  last_line-more (d ∷ front) =
      ap (λ b. cond b (last_line (front ++ c ∷ [])) (d ∷ (front ++ c ∷ []))) (any_more (d ∷ front))
      ∙ ap (λ t. cond (list_any is_line_feed (d ∷ front)) t (d ∷ (front ++ c ∷ []))) (last_line-more front)
      ∙ put_in (list_any is_line_feed (d ∷ front)) (last_line front) (d ∷ front)

-- one character more
after_character : (front : Text) (c : ℕ) (b : Bool) → is_line_feed c ≡ b
    → passed_character (position_of front) c ≡ position_of (front ++ c ∷ [])
after_character front c true is =
    let fed = front ++ c ∷ [] in
    let line : line_of fed ≡ line_of front + 1 =
    line_of-after front (c ∷ []) ∙ ap (λ b. 1 + (0 + cond b 1 0) + count_by is_line_feed front) is
    ∙ omega arith in
    let column : column_of fed ≡ 1 =
    ap column_of (sym (append-nil fed))
    ∙ column_of-after fed [] (ap is_line_feed (last_or_append line_feed c front) ∙ is) in
    cond-true (is_line_feed c) (position (counted (counted (line_of front) + 1)) 1)
    (position (counted (line_of front)) (counted (counted (column_of front) + 1))) is
    ∙ same_position (counted_more (line_of front) ∙ ap counted (sym line)) (ap counted (sym column))
after_character front c false other =
    let more = front ++ c ∷ [] in
    let line : line_of more ≡ line_of front =
    line_of-after front (c ∷ []) ∙ ap (λ b. 1 + (0 + cond b 1 0) + count_by is_line_feed front) other
    ∙ omega arith in
    let column : column_of more ≡ column_of front + 1 =
    ap (λ t. 1 + length t) (last_line-more c other front) ∙ ap (λ n. 1 + n) (length-append (last_line front)
    (c ∷ [])) ∙ omega arith in
    cond-false (is_line_feed c) (position (counted (counted (line_of front) + 1)) 1)
    (position (counted (line_of front)) (counted (counted (column_of front) + 1))) other
    ∙ same_position (ap counted (sym line)) (counted_more (column_of front) ∙ ap counted (sym column))

pub passed-position : (front text : Text) → passed (position_of front) text ≡ position_of (front ++ text)
passed-position front [] = ap position_of (sym (append-nil front))
passed-position front (c ∷ cs) =
    ap (λ p. passed p cs) (after_character front c (is_line_feed c) refl)
    ∙ passed-position (front ++ c ∷ []) cs ∙ ap position_of (append_assoc front (c ∷ []) cs)

pub passed-append : (p : Position) (s t : Text) → passed p (s ++ t) ≡ passed (passed p s) t
passed-append p [] t = refl
passed-append p (c ∷ s) t = passed-append (passed_character p c) s t

pub placed_after : (front : Text) (cs : List (Option Text × ContentPiece))
    → placed_from (position_of front) cs ≡ placed_contents front cs
placed_after front [] = refl
placed_after front (c ∷ cs) =
    let at : ElementPiece = record { section = c.0; content = c.1; position = position_of front } in
    ap (λ p. at ∷ placed_from p cs) (passed-position front (content_text c.1))
    ∙ ap (λ es. at ∷ es) (placed_after (front ++ content_text c.1) cs)

pub onward : {p q : Position} {s t : Text} → p ≡ q → s ≡ t → passed p s ≡ passed q t
onward {q = q} {s = s} same alike = ap (λ p. passed p s) same ∙ ap (passed q) alike

-- a pair is gone over part by part
pub passed_pair : (p : Position) (s : Stretches) → passed (passed (passed (passed (passed
    (passed p (s.key ++ separator_text s.separator)) s.space_before) s.raw_value) s.space_after) s.note)
    s.trailing_lines
    ≡ passed p (pair_source s)
passed_pair p s =
    let key = s.key ++ separator_text s.separator in
    let at = passed p key in
    let white = passed at s.space_before in
    sym (ap (passed p) (sym (append_assoc s.key (separator_text s.separator) (value_source s)))
    ∙ passed-append p key (value_source s)
    ∙ passed-append at s.space_before (s.raw_value ++ (s.space_after ++ (s.note ++ s.trailing_lines)))
    ∙ passed-append white s.raw_value (s.space_after ++ (s.note ++ s.trailing_lines))
    ∙ passed-append (passed white s.raw_value) s.space_after (s.note ++ s.trailing_lines)
    ∙ passed-append (passed (passed white s.raw_value) s.space_after) s.note s.trailing_lines)
