-- The last comment of elements that give nothing, or the last white space that is neither blank nor a line
-- end: they are cut there.
use Rattle.std.proofs.Common.{◌≡◌, ◌≢◌, ◌∙◌, ◌≤◌, ◌==◌, ◌&&◌, arith, inl, inr, length, ℕ, true, false, not}
use Rattle.std.proofs.Common.{List, [], ◌∷◌, ◌++◌, None, Option, Some, ap, append_assoc, refl, subst, sym}
use Rattle.std.specs.Prelude.{◌⊎◌}
use Rattle.std.proofs.lemmas.Bool.{and_from, and_left, and_parts, and_right, both_ways, cases_Bool}
use Rattle.std.proofs.lemmas.Bool.{cond-false, cond-true, false≢true, or_from, or_left, or_parts, or_right}
use Rattle.std.specs.List.{list_all}
use Rattle.std.specs.Option.{option_or}
use Rattle.ini_text.specs.Grammar.CharacterKinds.{BeginsWith, BeginsWithNo, is_blank, is_comment_mark}
use Rattle.ini_text.specs.Grammar.CharacterKinds.{is_line_end, is_line_feed, line_feed, open_bracket}
use Rattle.ini_text.specs.Grammar.Lines.{Note}
use Rattle.ini_text.specs.Grammar.Pieces.{ArePieces, Piece, pieces_items, pieces_text}
use Rattle.ini_text.specs.Grammar.Positions.{last_or}
use Rattle.ini_text.specs.Grammar.Strings.{Closes, plain_ends}
use Rattle.ini_text.specs.declared.option.ParseOption.{ParseOption}
use Rattle.ini_text.proofs.GrammarLemmas.ItemLemmas.{element-some}
use Rattle.ini_text.proofs.GrammarLemmas.KindLemmas.{comment_mark-apart}
use Rattle.ini_text.proofs.LawLemmas.PieceLemmas.{last_or-append}
use Rattle.ini.specs.Texts.{Text}
use Rattle.ini_edit.specs.SourceLines.{is_blank_or_line_end, CommentState, begins_solid, from_last_solid}
use Rattle.ini_edit.specs.SourceLines.{is_outside, last_solid_from, next_comment}
use Rattle.ini_edit.proofs.DroppedKeyLemmas.{AreKeyless, blank_no_mark, blanks_no_feed_last, closes_front}
use Rattle.ini_edit.proofs.DroppedKeyLemmas.{comment_begins, comment_goes_on, note_begins, note_ends}
use Rattle.ini_edit.proofs.DroppedKeyLemmas.{note_goes_on, pieces_no_bracket, stays_outside, white_no_mark}
use Rattle.ini_edit.proofs.GapLemmas.{empty_front}
use Rattle.ini_edit.proofs.GapPartLemmas.{some_before}
use Rattle.ini_edit.proofs.QuietLemmas.{Free, NoteFront, Quiet, as_quiet, line_end_no_mark}
use Rattle.ini_edit.proofs.QuietLemmas.{mark_no_end, note_closes}

or_none : (x : Option Text) → option_or x None ≡ x
or_none None = refl
or_none (Some t) = refl

abbrev from : CommentState → (before : ℕ) → Text → Option Text
from = last_solid_from

-- past a character with which nothing solid begins
one_past : (state : CommentState) (before c : ℕ) (t : Text)
    → (is_outside state && begins_solid before c) ≡ false
    → from state before (c ∷ t) ≡ from (next_comment state before c) c t
one_past state before c t apart =
    ap (option_or (from (next_comment state before c) c t)) (cond-false _ _ _ apart)
    ∙ or_none (from (next_comment state before c) c t)

-- past blanks and line ends
blank_past : (before c : ℕ) (t : Text) → is_blank_or_line_end c ≡ true → is_comment_mark c ≡ false
    → from_last_solid before (c ∷ t) ≡ from_last_solid c t
blank_past before c t blank unmarked =
    one_past CommentState.outside before c t (ap not (or_left (is_blank_or_line_end c) _ blank))
    ∙ ap (λ state. from state c t) (stays_outside before c unmarked)

blanks_past : (before : ℕ) (w t : Text) → list_all is_blank w ≡ true
    → from_last_solid before (w ++ t) ≡ from_last_solid (last_or before w) t
blanks_past before [] t all = refl
blanks_past before (c ∷ w) t all =
    let parts = and_parts (is_blank c) (list_all is_blank w) all in
    blank_past before c (w ++ t) (or_left (is_blank c) (is_line_end c) parts.0) (blank_no_mark c parts.0)
    ∙ blanks_past c w t parts.1

-- in a comment
comment_past : (before : ℕ) (s t : Text) → list_all (λ c. not (is_line_feed c)) s ≡ true
    → from CommentState.comment before (s ++ line_feed ∷ t) ≡ from_last_solid line_feed t
comment_past before [] t all = or_none (from_last_solid line_feed t)
comment_past before (c ∷ s) t all =
    let parts = and_parts (not (is_line_feed c)) (list_all (λ c. not (is_line_feed c)) s) all in
    one_past CommentState.comment before c (s ++ line_feed ∷ t) refl
    ∙ ap (λ state. from state c (s ++ line_feed ∷ t)) (comment_goes_on before c parts.0)
    ∙ comment_past c s t parts.1

-- in a note
note_end : (before : ℕ) (t : Text) → (t ≡ []) ⊎ BeginsWith is_line_end t
    → from CommentState.note before t ≡ from_last_solid before t
note_end before [] ends = refl
note_end before (c ∷ t) (inl none) = absurd (let no : c ∷ t ≡ [] = none in cc)
note_end before (c ∷ t) (inr end) =
    one_past CommentState.note before c t refl
    ∙ ap (λ state. from state c t) (note_ends before c end)
    ∙ sym (blank_past before c t (or_right (is_blank c) (is_line_end c) end) (line_end_no_mark c end))

note_rest : (before : ℕ) (s t : Text) → list_all (λ c. not (is_line_end c)) s ≡ true
    → from CommentState.note before (s ++ t) ≡ from CommentState.note (last_or before s) t
note_rest before [] t all = refl
note_rest before (c ∷ s) t all =
    let parts = and_parts (not (is_line_end c)) (list_all (λ c. not (is_line_end c)) s) all in
    one_past CommentState.note before c (s ++ t) refl
    ∙ ap (λ state. from state c (s ++ t)) (note_goes_on before c parts.0)
    ∙ note_rest c s t parts.1

note_past : (before : ℕ) {s r : Text} (t : Text) → is_line_feed before ≡ false → Note s r
    → (t ≡ []) ⊎ BeginsWith is_line_end t
    → from_last_solid before (s ++ t) ≡ from_last_solid (last_or before s) t
note_past before t late (Note.note {m} {s} mark all closes) ends =
    let marked : (is_comment_mark m && not (is_line_feed before)) ≡ true =
    and_from (is_comment_mark m) _ mark (ap not late) in
    one_past CommentState.outside before m (s ++ t) (ap not (or_right (is_blank_or_line_end m) _ marked))
    ∙ ap (λ state. from state m (s ++ t)) (note_begins before m late mark)
    ∙ note_rest m s t all ∙ note_end (last_or m s) t ends

-- what begins solid
pub record IsSolid (c : ℕ) (s : Text) : Type 0 where
  pub no_blank : BeginsWithNo is_blank s
  pub no_end : BeginsWithNo is_line_end s
  pub column : BeginsWith is_comment_mark s → is_line_feed c ≡ true

-- an element before t: the last solid is not its own, or it is, if none follows
data Passes (c : ℕ) (s t : Text) : Type 0 where
  past : from_last_solid c (s ++ t) ≡ from_last_solid (last_or c s) t → Passes c s t
  solid : from_last_solid c (s ++ t) ≡ option_or (from_last_solid (last_or c s) t) (Some (s ++ t))
      → IsSolid c (s ++ t) → Passes c s t

note_passes : {o : ParseOption} {c : ℕ} {w s r : Text} (t : Text) → NoteFront o (c ∷ []) w → Note s r
    → (t ≡ []) ⊎ BeginsWith is_line_end t → Passes c (w ++ s) t
note_passes {c = c} t (NoteFront.alone may late) remark ends =
    Passes.past (note_past c t late remark ends)
note_passes {c = c} {w = w} {s = s} t (NoteFront.indented on i) remark ends =
    Passes.past (ap (from_last_solid c) (append_assoc w s t) ∙ blanks_past c w (s ++ t) i.blank
    ∙ note_past (last_or c w) t (blanks_no_feed_last c w i.some i.blank) remark ends
    ∙ ap (λ d. from_last_solid d t) (sym (last_or-append c w s)))

module _ {o : ParseOption} where
  passes : {c : ℕ} {s r : Text} (t y : Text) → r ≡ t ++ y → Quiet o (c ∷ []) s r → r ≢ []
      → BeginsWithNo (λ c. c == open_bracket) r → Passes c s t
  passes {c} t y is (Quiet.anywhere (Free.line {w = w} d i q)) some other =
      Passes.past (ap (from_last_solid c) (append_assoc w (d ∷ []) t) ∙ blanks_past c w (d ∷ t) i.blank
      ∙ blank_past (last_or c w) d t (or_right (is_blank d) (is_line_end d) q) (line_end_no_mark d q)
      ∙ ap (λ e. from_last_solid e t) (sym (last_or-append c w (d ∷ []))))
  passes t y is (Quiet.before_header i) some other = absurd (false≢true (sym other))
  passes {c} t y is (Quiet.anywhere (Free.white {c = d} q n)) some other =
      elim (cases_Bool (is_blank_or_line_end d)) [
        | inl blank ↦ Passes.past (blank_past c d t blank (white_no_mark d q))
        | inr apart ↦
            let kinds = or_parts (is_blank d) (is_line_end d) apart in
            let unmarked = white_no_mark d q in
            let begins : begins_solid c d ≡ true =
            ap not (or_from (is_blank_or_line_end d) _ apart (and_left (is_comment_mark d) _ unmarked)) in
            Passes.solid
            (ap (option_or (from (next_comment CommentState.outside c d) d t))
            (cond-true (begins_solid c d) _ _ begins)
            ∙ ap (λ state. option_or (from state d t) (Some (d ∷ t))) (stays_outside c d unmarked))
            (record {
              no_blank = kinds.0;
              no_end = kinds.1;
              column = λ mark. absurd (both_ways (is_comment_mark d) unmarked mark);
            })
      ]
  passes {c} t y is (Quiet.anywhere (Free.comment {m = m} s one mark all)) some other =
      let apart = comment_mark-apart m mark in
      let line = mark_no_end m mark in
      let begins : begins_solid c m ≡ true =
      ap not (or_from (is_blank_or_line_end m) _ (or_from (is_blank m) (is_line_end m) apart.0 line)
      (and_right (is_comment_mark m) _ (ap not one))) in
      Passes.solid
      (ap (λ z. from_last_solid c (m ∷ z)) (append_assoc s (line_feed ∷ []) t)
      ∙ ap (option_or (from (next_comment CommentState.outside c m) m (s ++ line_feed ∷ t)))
      (cond-true (begins_solid c m) _ _ begins)
      ∙ ap (λ state. option_or (from state m (s ++ line_feed ∷ t)) (Some (m ∷ (s ++ line_feed ∷ t))))
      (comment_begins c m one mark)
      ∙ ap (λ x. option_or x (Some (m ∷ (s ++ line_feed ∷ t)))) (comment_past m s t all)
      ∙ ap (λ z. option_or (from_last_solid line_feed t) (Some (m ∷ z)))
      (sym (append_assoc s (line_feed ∷ []) t))
      ∙ ap (λ d. option_or (from_last_solid d t) (Some ((m ∷ (s ++ line_feed ∷ [])) ++ t)))
      (sym (last_or-append m s (line_feed ∷ []))))
      (record { no_blank = apart.0; no_end = line; column = λ _. one })
  passes t y is (Quiet.at_end tail) some other = absurd (some refl)
  passes t y is (Quiet.at_line_end front remark) some other =
      note_passes t front remark (closes_front t y (subst (Closes plain_ends) is (note_closes remark)))

source_some : (s : Text) → 1 ≤ length s → (t : Text) → s ++ t ≡ [] → ⊥
source_some [] h t is = omega arith
source_some (c ∷ s) h t is = cc

-- the elements before it, and those from it on
pub record SolidCut (o : ParseOption) (c : ℕ) (ps : List Piece) (g : Text) : Type 0 where
  pub front : List Piece
  pub rest : List Piece
  pub whole : ps ≡ front ++ rest
  pub text : g ≡ pieces_text rest
  pub some : g ≢ []
  pub keyless : AreKeyless o front
  pub solid : IsSolid (last_or c (pieces_text front)) g

module _ {o : ParseOption} {y : Text} (some : y ≢ []) (other : BeginsWithNo (λ c. c == open_bracket) y) where
  pub solid_cut : {c : ℕ} (ps : List Piece) (g : Text) → pieces_items ps ≡ [] → AreKeyless o ps
      → ArePieces o c ps y → from_last_solid c (pieces_text ps) ≡ Some g → SolidCut o c ps g
  solid_cut [] g empty keyless are is = absurd (let no : None ≡ Some g = is in cc)
  solid_cut {c} (p ∷ ps) g empty keyless (ArePieces.more e rest) is =
      let parts = empty_front p.gives (pieces_items ps) empty in
      at (passes (pieces_text ps) y refl (as_quiet e parts.0) (some_before (pieces_text ps) y some)
      (other_before (pieces_text ps) (pieces_no_bracket ps parts.1 rest)))
      (λ is. solid_cut {c = last_or c p.source} ps g parts.1 keyless.1 rest is)
    where
      other_before : (t : Text) → BeginsWithNo (λ c. c == open_bracket) t
          → BeginsWithNo (λ c. c == open_bracket) (t ++ y)
      other_before [] h = other
      other_before (d ∷ t) h = h

      later : SolidCut o (last_or c p.source) ps g → SolidCut o c (p ∷ ps) g
      later cut = record {
        front = p ∷ cut.front;
        rest = cut.rest;
        whole = ap (λ l. p ∷ l) cut.whole;
        text = cut.text;
        some = cut.some;
        keyless = (keyless.0, cut.keyless);
        solid = subst (λ d. IsSolid d g) (sym (last_or-append c p.source (pieces_text cut.front))) cut.solid;
      }

      at : Passes c p.source (pieces_text ps)
          → (from_last_solid (last_or c p.source) (pieces_text ps) ≡ Some g
          → SolidCut o (last_or c p.source) ps g)
          → SolidCut o c (p ∷ ps) g
      at (Passes.past same) more = later (more (sym same ∙ is))
      at (Passes.solid same begins) more = either
          (from_last_solid (last_or c p.source) (pieces_text ps)) refl
        where
          either : (r : Option Text) → from_last_solid (last_or c p.source) (pieces_text ps) ≡ r
              → SolidCut o c (p ∷ ps) g
          either None none =
              let here : Some (p.source ++ pieces_text ps) ≡ Some g =
              sym (same ∙ ap (λ r. option_or r (Some (p.source ++ pieces_text ps))) none) ∙ is in
              let text : p.source ++ pieces_text ps ≡ g = cc in
              record {
                front = [];
                rest = p ∷ ps;
                whole = refl;
                text = sym text;
                some = λ none. source_some p.source (element-some e) (pieces_text ps) (text ∙ none);
                keyless = tt;
                solid = subst (IsSolid c) text begins;
              }
          either (Some h) found =
              let there : Some h ≡ Some g =
              sym (same ∙ ap (λ r. option_or r (Some (p.source ++ pieces_text ps))) found) ∙ is in
              later (more (found ∙ there))
