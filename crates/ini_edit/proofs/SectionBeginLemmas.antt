-- What begins sections: names, and the brackets of headers.
use Rattle.std.proofs.Common.{◌≡◌, ◌≢◌, ◌∙◌, ◌==◌, ◌&&◌, ℕ, Bool, true, false, not, List, [], ◌∷◌, ◌++◌, None}
use Rattle.std.proofs.Common.{Option, Some, ap, append_assoc, eqb-true, inl, inr, refl, subst, sym}
use Rattle.std.proofs.lemmas.Bool.{and_from, and_parts, both_ways, cases_Bool, false_from_ne_true, false≢true}
use Rattle.std.proofs.lemmas.List.Folds.{list_all-append}
use Rattle.std.specs.List.{list_all}
use Rattle.std.specs.Prelude.{◌⊎◌, is_some}
use Rattle.ini_text.specs.Grammar.CharacterKinds.{BeginsWith, BeginsWithNo, is_blank, is_comment_mark}
use Rattle.ini_text.specs.Grammar.CharacterKinds.{is_line_end, open_bracket}
use Rattle.ini_text.specs.declared.option.ParseOption.{ParseOption}
use Rattle.ini_text.proofs.GrammarLemmas.KindLemmas.{comment_mark-apart, line_end_no_blank}
use Rattle.ini.specs.Texts.{Text}
use Rattle.ini_edit.specs.Inside.InPlace.{AreInPlace}
use Rattle.ini_edit.specs.Inside.Spans.{AreSpans, BeginGeneral, IsSpan, Span, gap}
use Rattle.ini_edit.specs.Inside.Spans.{opening, pairs_spans, section_spans, sections_spans, span_source}
use Rattle.ini_edit.specs.Sources.{SectionPiece, joined}
use Rattle.ini_edit.proofs.AheadLemmas.{FollowsFront}
use Rattle.ini_edit.proofs.HeaderLemmas.{EmptyOrHeader, header_bracket}
use Rattle.ini_edit.proofs.QuietLemmas.{as_header}

-- names
abbrev pub has_name : SectionPiece → Bool
has_name s = is_some s.name

pub names_after : (bs : List SectionPiece) (t : SectionPiece) (rest : List SectionPiece)
    → BeginGeneral (bs ++ t ∷ rest) → list_all has_name rest ≡ true
names_after [] t rest h = h.1
names_after (u ∷ bs) t rest h =
    (and_parts (has_name t) (list_all has_name rest)
    (and_parts (list_all has_name bs) _ (sym (list_all-append has_name bs (t ∷ rest)) ∙ h.1)).1).1

pub name_after : (bs : List SectionPiece) (t : SectionPiece) (rest : List SectionPiece)
    → BeginGeneral (bs ++ t ∷ rest) → (bs ≡ []) ⊎ (has_name t ≡ true)
name_after [] t rest h = inl refl
name_after (u ∷ bs) t rest h =
    inr (and_parts (has_name t) (list_all has_name rest)
    (and_parts (list_all has_name bs) _ (sym (list_all-append has_name bs (t ∷ rest)) ∙ h.1)).1).0

pub begin_without : (bs : List SectionPiece) (t s : SectionPiece) (rest : List SectionPiece)
    → BeginGeneral (bs ++ t ∷ s ∷ rest) → BeginGeneral (bs ++ t ∷ rest)
begin_without [] t s rest h = (h.0, (and_parts (has_name s) (list_all has_name rest) h.1).1)
begin_without (u ∷ bs) t s rest h =
    let all = and_parts (list_all has_name bs) _
    (sym (list_all-append has_name bs (t ∷ s ∷ rest)) ∙ h.1) in
    let more = and_parts (has_name t) (has_name s && list_all has_name rest) all.1 in (
      h.0,
      list_all-append has_name bs (t ∷ rest)
          ∙ and_from (list_all has_name bs) _ all.0
          (and_from (has_name t) _ more.0 (and_parts (has_name s) (list_all has_name rest) more.1).1),
    )

-- a section of a name begins with a bracket
module _ {o : ParseOption} where
  bracket_of : {c : ℕ} {t r : Text} (name : Option Text) → is_some name ≡ true
      → IsSpan o c (opening name t) r → BeginsWith (λ c. c == open_bracket) t
  bracket_of None has is = absurd (false≢true has)
  bracket_of (Some name) has (IsSpan.header e) = header_bracket (as_header e)

  pub header_begins : {c : ℕ} {r : Text} (s : SectionPiece) (zs : List Span) → has_name s ≡ true
      → AreSpans o c (section_spans s ++ zs) r → BeginsWith (λ c. c == open_bracket) s.header
  header_begins s zs has (AreInPlace.more one rest) = bracket_of s.name has one

pub bracket_some : (h y : Text) → BeginsWith (λ c. c == open_bracket) h → (h ++ y) ≢ []
bracket_some [] y b is = false≢true (sym b)
bracket_some (c ∷ h) y b is = cc

pub bracket_header : (h y : Text) → BeginsWith (λ c. c == open_bracket) h → EmptyOrHeader (h ++ y)
bracket_header [] y b = absurd (false≢true (sym b))
bracket_header (c ∷ h) y b =
    subst (λ c. EmptyOrHeader (c ∷ (h ++ y))) (sym (eqb-true c open_bracket b))
    (EmptyOrHeader.header (h ++ y))

pub bracket_front : (w h y : Text) → list_all is_blank w ≡ true → BeginsWith (λ c. c == open_bracket) h
    → FollowsFront [] (w ++ (h ++ y))
bracket_front [] [] y blank b = absurd (false≢true (sym b))
bracket_front [] (c ∷ h) y blank b = record {
  some = subst (λ c. not (is_line_end c) ≡ true) (sym (eqb-true c open_bracket b)) refl;
  bracket = inr refl;
  note = inr refl;
}
bracket_front (c ∷ w) h y blank b = record {
  some = at (cases_Bool (is_line_end c)) (and_parts (is_blank c) (list_all is_blank w) blank).0;
  bracket = inr refl;
  note = inr refl;
}
  where
    at : (is_line_end c ≡ true) ⊎ (is_line_end c ≡ false) → is_blank c ≡ true → not (is_line_end c) ≡ true
    at (inl end) is = absurd (both_ways (is_blank c) (line_end_no_blank c end) is)
    at (inr other) is = ap not other

-- and no note
pub bracket_no_note : (w h y : Text) → list_all is_blank w ≡ true → BeginsWith (λ c. c == open_bracket) h
    → BeginsWithNo is_comment_mark (w ++ (h ++ y))
bracket_no_note [] [] y blank b = absurd (false≢true (sym b))
bracket_no_note [] (c ∷ h) y blank b =
    subst (λ c. is_comment_mark c ≡ false) (sym (eqb-true c open_bracket b)) refl
bracket_no_note (c ∷ w) h y blank b =
    false_from_ne_true (is_comment_mark c) (λ mark. both_ways (is_blank c) (comment_mark-apart c mark).0
    (and_parts (is_blank c) (list_all is_blank w) blank).0)

pub sections_begin : {o : ParseOption} {c : ℕ} (ss : List SectionPiece) → list_all has_name ss ≡ true
    → AreSpans o c (sections_spans ss) []
    → EmptyOrHeader (joined span_source (sections_spans ss))
    × (ss ≢ [] → joined span_source (sections_spans ss) ++ [] ≢ [])
sections_begin [] has h = (EmptyOrHeader.empty, λ n. absurd (n refl))
sections_begin (a ∷ more) has h =
    let b = header_begins a (sections_spans more)
    (and_parts (has_name a) (list_all has_name more) has).0 h in
    let y = joined span_source ((gap a.after ∷ pairs_spans a.pairs) ++ sections_spans more) in (
      bracket_header a.header y b,
      λ _. subst (λ t. t ≢ []) (sym (append_assoc a.header y [])) (bracket_some a.header (y ++ []) b),
    )
