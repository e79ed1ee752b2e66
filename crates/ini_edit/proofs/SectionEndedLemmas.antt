-- How the text before a new section is ended, and what of it is empty.
use Rattle.std.proofs.Common.{◌≡◌, ◌≢◌, ◌∙◌, ◌&&◌, ℕ, Bool, true, false, List, [], ◌∷◌}
use Rattle.std.proofs.Common.{◌++◌, ap, append_assoc, inl, inr, refl, sym}
use Rattle.std.proofs.lemmas.Bool.{and_from, and_parts, cases_Bool}
use Rattle.std.proofs.lemmas.List.Folds.{list_all-append}
use Rattle.std.specs.List.{list_all}
use Rattle.std.specs.Prelude.{◌⊎◌, is_some}
use Rattle.ini_text.specs.Grammar.CharacterKinds.{BeginsWith, BeginsWithNo, is_comment_mark, is_line_end}
use Rattle.ini_text.specs.Grammar.CharacterKinds.{is_line_feed}
use Rattle.ini_text.specs.Grammar.Places.{Stretches, pair_source}
use Rattle.ini_text.specs.Grammar.Positions.{is_column_one, last_or}
use Rattle.ini_text.specs.Laws.PieceLaws.{BeginAlike}
use Rattle.ini_text.specs.declared.option.ParseOption.{ParseOption}
use Rattle.ini.specs.Texts.{Text}
use Rattle.ini_edit.specs.Inside.InPlace.{AreInPlace}
use Rattle.ini_edit.specs.Inside.Spans.{AreSpans, BeginGeneral, IsSpan, Span, pair}
use Rattle.ini_edit.specs.SourceEditsSections.{is_ended_for, is_pair_ended}
use Rattle.ini_edit.specs.Sources.{PairPiece, SectionPiece}
use Rattle.ini_edit.proofs.AheadLemmas.{NoNoteAfter}
use Rattle.ini_edit.proofs.LineCutLemmas.{apart_closes}
use Rattle.ini_edit.proofs.PairAddedLemmas.{closes_nothing, ended_pair}
use Rattle.ini_edit.proofs.PairViewLemmas.{one_line}
use Rattle.ini_edit.proofs.SectionBeginLemmas.{has_name}

pub ended_end : (o : ParseOption) (ps : List PairPiece) (p : PairPiece)
    → is_pair_ended o (ps ++ p ∷ []) ≡ ended_pair o p
ended_end o [] p = refl
ended_end o (q ∷ []) p = refl
ended_end o (q ∷ r ∷ ps) p = ended_end o (r ∷ ps) p

-- how the text before a new section is ended
pub data IsEnded (o : ParseOption) (text k : Text) (s : SectionPiece) : Type 0 where
  nothing : text ≡ [] → IsEnded o text k s
  by_pair : k ≡ [] → is_pair_ended o s.pairs ≡ true → IsEnded o text k s
  by_gap : k ≢ [] → is_column_one k ≡ true → IsEnded o text k s

pub is_ended : (o : ParseOption) (text k : Text) (s : SectionPiece) → is_ended_for o text k s ≡ true
    → IsEnded o text k s
is_ended o [] k s h = IsEnded.nothing refl
is_ended o (c ∷ text) [] s h = IsEnded.by_pair refl h
is_ended o (c ∷ text) (d ∷ k) s h = IsEnded.by_gap (λ none. cc) h

pub ended_after : (o : ParseOption) (text : Text) (s : SectionPiece) → text ≢ []
    → is_ended_for o text [] s ≡ is_pair_ended o s.pairs
ended_after o [] s some = absurd (some refl)
ended_after o (c ∷ text) s some = refl

pub same_last : (b : ℕ) (k : Text) → k ≢ [] → is_column_one k ≡ true → is_line_feed (last_or b k) ≡ true
same_last b [] some h = absurd (some refl)
same_last b (c ∷ k) some h = h

pub begin_more : (bs : List SectionPiece) (t m n : SectionPiece) → m.name ≡ t.name → has_name n ≡ true
    → BeginGeneral (bs ++ t ∷ []) → BeginGeneral (bs ++ m ∷ n ∷ [])
begin_more [] t m n same has h = (same ∙ h.0, and_from (has_name n) true has refl)
begin_more (u ∷ bs) t m n same has h =
    let all = and_parts (list_all has_name bs) (has_name t && true)
    (sym (list_all-append has_name bs (t ∷ [])) ∙ h.1) in
    let there = (and_parts (has_name t) true all.1).0 in (
      h.0,
      list_all-append has_name bs (m ∷ n ∷ [])
          ∙ and_from (list_all has_name bs) _ all.0
          (and_from (has_name m) _ (ap is_some same ∙ there) (and_from (has_name n) true has refl)),
    )

pub some_or : (x : Text) → (x ≡ []) ⊎ (x ≢ [])
some_or [] = inl refl
some_or (c ∷ x) = inr (λ none. cc)

pub begins_same : (k x y : Text) → k ≢ [] → BeginAlike (k ++ x) (k ++ y)
begins_same [] x y some = absurd (some refl)
begins_same (c ∷ k) x y some = BeginAlike.character

pub empty_part : (x y : Text) → x ++ y ≡ [] → x ≡ []
empty_part [] y h = refl
empty_part (c ∷ x) y h = absurd (let no : c ∷ (x ++ y) ≡ [] = h in cc)

pub empty_rest : (x y : Text) → x ++ y ≡ [] → y ≡ []
empty_rest [] y h = h
empty_rest (c ∷ x) y h = absurd (let no : c ∷ (x ++ y) ≡ [] = h in cc)

pub some_front : (x y : Text) → x ≢ [] → (x ++ y) ≢ []
some_front x y some h = some (empty_part x y h)

pub and_no : (a : Bool) {b : Bool} → b ≡ false → (a && b) ≡ false
and_no true h = h
and_no false h = refl

-- a pair in one line that no line end follows ends the text
pub pair_closes : {o : ParseOption} {c : ℕ} {p : Stretches} {key value y : Text}
    → (o.enabled_indented_mutiline_value && is_some p.separator) ≡ false → BeginsWithNo is_line_end y
    → (BeginsWith is_comment_mark y → is_line_feed (last_or c (pair_source p)) ≡ true)
    → AreSpans o c (pair p key value ∷ []) y → (p.trailing_lines ≡ []) × (y ≡ [])
pair_closes {c = c} {p = p} {y = y} off no_end column (AreInPlace.more (IsSpan.is_pair h) AreInPlace.none) =
    ((one_line h off).0, closes_nothing y (apart_closes (apart y column) off h) no_end)
  where
    apart : (y : Text) → (BeginsWith is_comment_mark y → is_line_feed (last_or c (pair_source p)) ≡ true)
        → NoNoteAfter (last_or c (pair_source p) ∷ []) y
    apart [] column = inl tt
    apart (d ∷ y) column = elim
        (cases_Bool (is_comment_mark d)) [ inl mark ↦ inr (column mark) | inr other ↦ inl other ]

pub regroup_put : (a xt : List Span) (x g : Span) (tail : List Span)
    → a ++ (((xt ++ x ∷ []) ++ g ∷ []) ++ tail) ≡ ((a ++ xt) ++ x ∷ []) ++ (g ∷ tail)
regroup_put a xt x g tail = simp append_assoc

pub regroup_end : (a xt : List Span) (q g : Span) (tail : List Span)
    → a ++ ((xt ++ (q ∷ g ∷ [])) ++ tail) ≡ (a ++ xt) ++ (q ∷ g ∷ tail)
regroup_end a xt q g tail = simp append_assoc
