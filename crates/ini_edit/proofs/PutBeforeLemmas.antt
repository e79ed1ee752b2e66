-- A new pair put in before the comment lines directly above a pair: its spans.
use Rattle.std.proofs.Common.{◌≡◌, ◌≢◌, ◌∙◌, ℕ, true, false, List, [], ◌∷◌, ◌++◌, append_assoc, refl, subst}
use Rattle.std.proofs.Common.{sym}
use Rattle.ini_text.specs.Grammar.CharacterKinds.{is_line_feed, line_feed}
use Rattle.ini_text.specs.Grammar.Places.{Stretches, pair_source}
use Rattle.ini_text.specs.Grammar.Positions.{last_or}
use Rattle.ini_text.specs.Laws.PieceLaws.{Agree, BeginAlike}
use Rattle.ini_text.specs.declared.option.ParseOption.{ParseOption}
use Rattle.ini_text.proofs.LawLemmas.PieceLemmas.{last_or-append}
use Rattle.ini.specs.Texts.{Text}
use Rattle.ini_edit.specs.Inside.InPlace.{AreInPlace}
use Rattle.ini_edit.specs.Inside.Spans.{AreSpans, IsGap, IsPair, IsSpan, Span, gap, pair, span_source}
use Rattle.ini_edit.specs.SourceLines.{are_comments}
use Rattle.ini_edit.specs.Sources.{PairPiece, joined}
use Rattle.ini_edit.proofs.AheadLemmas.{FollowsFront}
use Rattle.ini_edit.proofs.CommentPutLemmas.{comments_parted, pair_agrees, pair_some, sees}
use Rattle.ini_edit.proofs.GapLemmas.{gap_join}
use Rattle.ini_edit.proofs.InPlaceLemmas.{in_place-before, in_place-join, in_place-like, in_place-split}
use Rattle.ini_edit.proofs.SpanFrontLemmas.{gap_free}
use Rattle.ini_edit.proofs.SpanLemmas.{spans_local}

module _ (o : ParseOption) (xs zs : List Span) (q : Stretches) (key value kept comments glue : Text)
    (n : PairPiece) where
  abbrev front_last : ℕ
  front_last = last_or line_feed (joined span_source xs)

  abbrev there : List Span
  there = pair q key value ∷ zs

  abbrev following : Text
  following = joined span_source there ++ []

  abbrev with_new : List Span
  with_new = pair n.stretches n.key n.value ∷ gap n.after ∷ there

  abbrev new_text : Text
  new_text = joined span_source with_new ++ []

  abbrev glued : ℕ
  glued = last_or (last_or front_last kept) glue

  -- The new pair is in its place, after what ends the line before it, and before the comments.
  pub record IsNewThere : Type 0 where
    pub glues : IsGap o (last_or front_last kept) glue new_text
    pub is : IsPair o glued n.stretches n.key n.value (n.after ++ following)
    pub is_gap : IsGap o (last_or glued (pair_source n.stretches)) n.after following
    pub column : is_line_feed (last_or (last_or glued (pair_source n.stretches)) n.after) ≡ true
    pub ahead : kept ≡ [] → FollowsFront (front_last ∷ []) (comments ++ following)
        → AreSpans o line_feed xs (comments ++ following) → AreSpans o line_feed xs (glue ++ new_text)

  pub spans_put_before : AreSpans o line_feed (xs ++ (gap (kept ++ comments) ∷ there)) []
      → are_comments false comments ≡ true → (comments ≢ [] → is_line_feed (last_or front_last kept) ≡ true)
      → IsNewThere → AreSpans o line_feed (xs ++ (gap (kept ++ glue) ∷ with_new)) []
  spans_put_before h are column new =
      let split = in_place-split span_source xs (gap (kept ++ comments) ∷ there) h in
      at split.0 split.1
    where
      front : (k : Text) → FollowsFront (last_or front_last k ∷ []) (comments ++ following)
          → (k ≡ [] → FollowsFront (front_last ∷ []) (comments ++ following)
          → AreSpans o line_feed xs (comments ++ following) → AreSpans o line_feed xs (glue ++ new_text))
          → AreSpans o line_feed xs (((k ++ comments) ++ joined span_source there) ++ [])
          → AreSpans o line_feed xs (((k ++ glue) ++ joined span_source with_new) ++ [])
      front [] f ahead before =
          subst (AreSpans o line_feed xs) (sym (append_assoc glue (joined span_source with_new) []))
          (ahead refl f
          (subst (AreSpans o line_feed xs) (append_assoc comments (joined span_source there) []) before))
      front (c ∷ k) f ahead before = in_place-before span_source spans_local BeginAlike.character before

      at : AreSpans o line_feed xs (((kept ++ comments) ++ joined span_source there) ++ [])
          → AreSpans o front_last (gap (kept ++ comments) ∷ there) []
          → AreSpans o line_feed (xs ++ (gap (kept ++ glue) ∷ with_new)) []
      at before (AreInPlace.more (IsSpan.is_gap g) (AreInPlace.more (IsSpan.is_pair is) later)) =
          let f = sees o xs zs q key value kept comments glue comments are column is in
          let some : following ≢ [] = λ none. pair_some is
          (sym (append_assoc (pair_source q) (joined span_source zs) []) ∙ none) in
          let parts = comments_parted kept comments some column g in
          let last = last_or (last_or glued (pair_source n.stretches)) n.after in
          let agrees : Agree o (last_or front_last (kept ++ comments) ∷ []) (last ∷ [])
          (joined span_source there) =
          pair_agrees (joined span_source zs) is new.column in
          in_place-join span_source xs (gap (kept ++ glue) ∷ with_new)
          (front kept f new.ahead before)
          (AreInPlace.more
          (IsSpan.is_gap (gap_join (gap_free (glue ++ new_text) f parts.front) new.glues))
          (subst (λ z. AreSpans o z with_new []) (sym (last_or-append front_last kept glue))
          (AreInPlace.more
          (IsSpan.is_pair (subst (IsPair o glued n.stretches n.key n.value)
          (sym (append_assoc n.after (joined span_source there) [])) new.is))
          (AreInPlace.more (IsSpan.is_gap new.is_gap)
          (in_place-like span_source spans_local agrees (AreInPlace.more (IsSpan.is_pair is) later))))))
