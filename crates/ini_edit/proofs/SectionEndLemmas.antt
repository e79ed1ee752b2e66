-- The last parts of a section: what an edit there makes of it, and of its spans.
use Rattle.std.proofs.Common.{◌≡◌, ◌∙◌, List, [], ◌∷◌, ◌++◌, ap, append_assoc, append-nil, refl, sym}
use Rattle.ini_text.specs.Grammar.CharacterKinds.{line_feed}
use Rattle.ini_text.specs.Grammar.Positions.{last_or}
use Rattle.ini_text.specs.declared.option.ParseOption.{ParseOption}
use Rattle.ini_text.proofs.LawLemmas.PieceLemmas.{last_or-append}
use Rattle.ini.specs.Texts.{Text}
use Rattle.ini_edit.specs.Inside.SourceEnds.{put_after_kept}
use Rattle.ini_edit.specs.Inside.Spans.{Span, gap, pair, pairs_spans, section_spans, span_source}
use Rattle.ini_edit.specs.SourceEdits.{with_pairs}
use Rattle.ini_edit.specs.SourceEditsDelete.{rest_put, with_rest}
use Rattle.ini_edit.specs.SourcePlaces.{gap_put, last_gap, with_after}
use Rattle.ini_edit.specs.Sources.{PairPiece, SectionPiece, joined}
use Rattle.ini_edit.proofs.InPlaceLemmas.{joined-append}
use Rattle.ini_edit.proofs.SourcePlaceLemmas.{gap_put-end, rest_put-end}
use Rattle.ini_edit.proofs.SourceSpanLemmas.{spans_at_gap, spans_to_gap, spans_up_to_gap}

-- a list is empty, or has a last one
pub data LastOf {A : Type 0} (xs : List A) : Type 0 where
  nothing : xs ≡ [] → LastOf xs
  one : (front : List A) (last : A) → xs ≡ front ++ last ∷ [] → LastOf xs

pub last_of : {A : Type 0} (xs : List A) → LastOf xs
last_of [] = LastOf.nothing refl
last_of (x ∷ xs) = at (last_of xs)
  where
    at : LastOf xs → LastOf (x ∷ xs)
    at (LastOf.nothing is) = LastOf.one [] x (ap (λ l. x ∷ l) is)
    at (LastOf.one front last is) = LastOf.one (x ∷ front) last (ap (λ l. x ∷ l) is)

-- a section with other last parts, without pairs and with a last one
module _ (o : ParseOption) (k l r : Text) (s : SectionPiece) where
  abbrev put_with : List PairPiece → SectionPiece
  put_with ps = let bare = gap_put k s ps [] in rest_put o l r bare bare.pairs []

  pub put_nothing : s.pairs ≡ [] → put_after_kept o k l r s ≡ with_after (k ++ (l ++ r)) (with_pairs s [])
  put_nothing is = ap put_with is

  pub put_one : (ps : List PairPiece) (p : PairPiece) → s.pairs ≡ ps ++ p ∷ []
      → put_after_kept o k l r s ≡ with_pairs s (ps ++ with_rest o l r (record p { after = k }) ∷ [])
  put_one ps p is =
      let q = record p { after = k } in
      ap put_with is
      ∙ ap (λ b. rest_put o l r b b.pairs []) (gap_put-end s ps p [] k)
      ∙ rest_put-end (with_pairs s (ps ++ q ∷ [])) ps q [] o l r

  pub put_name : (put_after_kept o k l r s).name ≡ s.name
  put_name = at (last_of s.pairs)
    where
      at : LastOf s.pairs → (put_after_kept o k l r s).name ≡ s.name
      at (LastOf.nothing is) = ap (λ t. t.name) (put_nothing is)
      at (LastOf.one ps p is) = ap (λ t. t.name) (put_one ps p is)

-- its spans
pub spans_last : (s : SectionPiece) → section_spans s ≡ spans_to_gap s s.pairs ++ gap (last_gap s) ∷ []
spans_last s =
    ap (λ ps. section_spans (with_pairs s ps)) (sym (append-nil s.pairs)) ∙ spans_at_gap s s.pairs []

pub up_to_last : (first : Span) (after : Text) (ps : List PairPiece) (p : PairPiece)
    → spans_up_to_gap first after (ps ++ p ∷ [])
    ≡ (first ∷ gap after ∷ pairs_spans ps) ++ pair p.stretches p.key p.value ∷ []
up_to_last first after [] p = refl
up_to_last first after (q ∷ ps) p =
    ap (λ l. first ∷ gap after ∷ l) (up_to_last (pair q.stretches q.key q.value) q.after ps p)

pub first_text : (first : Span) (after : Text) (ps : List PairPiece)
    → (y : Text) × (joined span_source (spans_up_to_gap first after ps) ≡ span_source first ++ y)
first_text first after [] = ([], refl)
first_text first after (p ∷ ps) =
    (after ++ joined span_source (spans_up_to_gap (pair p.stretches p.key p.value) p.after ps), refl)

pub regroup : (a xt : List Span) (x g y : Span) (ys zs : List Span)
    → a ++ (((xt ++ x ∷ []) ++ g ∷ []) ++ ((ys ++ y ∷ []) ++ zs))
    ≡ ((a ++ xt) ++ x ∷ []) ++ (g ∷ (ys ++ y ∷ zs))
regroup a xt x g y ys zs = simp append_assoc

pub regroup_put : (a xt : List Span) (x g : Span) (zs : List Span)
    → a ++ (((xt ++ x ∷ []) ++ g ∷ []) ++ zs) ≡ ((a ++ xt) ++ x ∷ []) ++ (g ∷ zs)
regroup_put a xt x g zs = simp append_assoc

pub last_through : (xs ys : List Span) (g : Text)
    → last_or line_feed (joined span_source ((xs ++ gap g ∷ []) ++ ys))
    ≡ last_or (last_or (last_or line_feed (joined span_source xs)) g) (joined span_source ys)
last_through xs ys g =
    ap (last_or line_feed) (joined-append span_source (xs ++ gap g ∷ []) ys)
    ∙ last_or-append line_feed (joined span_source (xs ++ gap g ∷ [])) (joined span_source ys)
    ∙ ap (λ c. last_or c (joined span_source ys))
    (ap (last_or line_feed) (joined-append span_source xs (gap g ∷ [])
    ∙ ap (λ t. joined span_source xs ++ t) (append-nil g))
    ∙ last_or-append line_feed (joined span_source xs) g)

pub regroup_last : (a xt : List Span) (x g : Span)
    → a ++ ((xt ++ x ∷ []) ++ g ∷ []) ≡ ((a ++ xt) ++ x ∷ []) ++ g ∷ []
regroup_last a xt x g = simp append_assoc

pub regroup_lines : (a xt : List Span) (q g : Span) (zs : List Span)
    → a ++ ((xt ++ (q ∷ g ∷ [])) ++ zs) ≡ (a ++ xt) ++ (q ∷ g ∷ zs)
regroup_lines a xt q g zs = simp append_assoc
