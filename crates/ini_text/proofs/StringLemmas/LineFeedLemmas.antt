-- Line feeds taken off the ends of a text one by one.
use Rattle.std.proofs.Common.{◌≡◌, ◌≢◌, ◌<◌, ℕ, true, false, ◌&&◌, ◌==◌, cond, eqb, List, [], ◌∷◌, ◌++◌}
use Rattle.std.proofs.Common.{length, refl, sym, ap, ◌∙◌, arith, length-append, ne_eqb}
use Rattle.std.proofs.lemmas.Bool.{and_right, cond-false}
use Rattle.ini_text.specs.Grammar.CharacterKinds.{line_feed, is_line_feed}
use Rattle.ini_text.specs.Grammar.WhiteSpace.{skip_line_feeds, drop_line_feeds, without_outer_line_feeds}
use Rattle.ini_text.specs.Inside.Scans.{skipped}

skipped_feeds : (t : List ℕ) → skipped is_line_feed t ≡ skip_line_feeds t
skipped_feeds [] = refl
skipped_feeds (c ∷ cs) = ap (λ x. cond (eqb c 10) x (c ∷ cs)) (skipped_feeds cs)

pub feeds_skipped : (t rest : List ℕ) → rest ≡ skipped is_line_feed t
    → drop_line_feeds rest ≡ without_outer_line_feeds t
feeds_skipped t rest h = ap drop_line_feeds (h ∙ skipped_feeds t)

feed_dropped : (xs : List ℕ) → drop_line_feeds (xs ++ line_feed ∷ []) ≡ drop_line_feeds xs
feed_dropped [] = refl
feed_dropped (x ∷ xs) = ap (λ y. cond (eqb x 10 && (length y == 0)) [] (x ∷ y)) (feed_dropped xs)

pub one_feed : (t before : List ℕ) (c : ℕ) → t ≡ before ++ c ∷ [] → c ≡ line_feed
    → drop_line_feeds before ≡ drop_line_feeds t
one_feed t before c h e = sym (ap drop_line_feeds (h ∙ ap (λ x. before ++ x ∷ []) e) ∙ feed_dropped before)

kept_length : (xs : List ℕ) (c : ℕ) → (length (xs ++ c ∷ []) == 0) ≡ false
kept_length [] c = refl
kept_length (x ∷ xs) c = ne_eqb (length (x ∷ (xs ++ c ∷ []))) 0 (λ q. absurd (omega arith))

feed_kept : (xs : List ℕ) (c : ℕ) → c ≢ line_feed → drop_line_feeds (xs ++ c ∷ []) ≡ xs ++ c ∷ []
feed_kept [] c n = cond-false (eqb c 10 && true) [] (c ∷ []) (ap (λ b. b && true) (ne_eqb c 10 n))
feed_kept (x ∷ xs) c n =
    ap (λ y. cond (eqb x 10 && (length y == 0)) [] (x ∷ y)) (feed_kept xs c n)
    ∙ cond-false (eqb x 10 && (length (xs ++ c ∷ []) == 0)) [] (x ∷ (xs ++ c ∷ []))
    (and_right (eqb x 10) (length (xs ++ c ∷ []) == 0) (kept_length xs c))

pub feeds_done : (t before : List ℕ) (c : ℕ) → t ≡ before ++ c ∷ [] → c ≢ line_feed → t ≡ drop_line_feeds t
feeds_done t before c h n = h ∙ sym (feed_kept before c n) ∙ ap drop_line_feeds (sym h)

pub feeds_none : (t : List ℕ) → t ≡ [] → t ≡ drop_line_feeds t
feeds_none t h = h ∙ ap drop_line_feeds (sym h)

pub shorter_before : (t before : List ℕ) (c : ℕ) → t ≡ before ++ c ∷ [] → length before < length t
shorter_before t before c h = omega (arith, length-append before (c ∷ []), ap length h)
