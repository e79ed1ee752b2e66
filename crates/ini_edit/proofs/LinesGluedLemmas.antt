-- Values with a line end put in after them: the text's end, or what followed them, is a line further down.
use Rattle.std.proofs.Common.{◌≡◌, ◌≢◌, ℕ, true, false, not, List, [], ◌∷◌, ◌++◌}
use Rattle.std.proofs.Common.{refl, sym, ap, ◌∙◌, subst, append_assoc, append-nil}
use Rattle.std.proofs.lemmas.Bool.{false≢true, both_ways}
use Rattle.std.specs.List.{list_all}
use Rattle.ini_text.specs.declared.option.ParseOption.{ParseOption}
use Rattle.ini_text.specs.declared.write.option.LineSeparator.{LineSeparator}
use Rattle.ini_text.specs.declared.write.option.LineSeparator.TheVariants.{SystemDefault, CR, CRLF}
use Rattle.ini_text.specs.Grammar.CharacterKinds.{line_feed, is_blank, is_line_feed, BeginsWith, is_line_end}
use Rattle.ini_text.specs.Grammar.WhiteSpace.{Lead, without_outer_line_feeds}
use Rattle.ini_text.specs.Grammar.Strings.{Closes, plain_ends}
use Rattle.ini_text.specs.Grammar.Lines.{Line}
use Rattle.ini_text.specs.Grammar.Values.{CommentLine, GoesOn, LineEnd, MoreLines, Value}
use Rattle.ini_text.specs.Options.WriteOptions.{line_end}
use Rattle.ini_text.proofs.LawLemmas.OneAheadLemmas.{Alike, Alike-after, CommentLine-alike, GoesOn-alike}
use Rattle.ini_text.proofs.LawLemmas.OneAheadLemmas.{Lead-alike, Line-alike}
use Rattle.ini_text.proofs.PlainLemmas.PlainPairLemmas.{line_end-is}
use Rattle.ini_edit.specs.Endings.{Ending, Closing, ending_from}
use Rattle.ini_edit.specs.Places.{Follows}
use Rattle.ini_edit.proofs.CommentedLineLemmas.{comment_begins, comment_longer}
use Rattle.ini_edit.proofs.EndingLemmas.{ending-lead, ending-white}
use Rattle.ini_edit.proofs.InsertedLemmas.{line_end-closes}
use Rattle.ini_edit.proofs.GluedLemmas.{closing_after, closing_alone, closing_end, closing_line, closing_past}
use Rattle.ini_edit.proofs.GluedLemmas.{closing_within, feeds_after, goes_on_glued, lead_glued, line_glued}

none_begins : (w z : List ℕ) → BeginsWith is_blank w → (w ++ z) ≢ []
none_begins [] z b h = false≢true (sym b)
none_begins (c ∷ w) z b h = cc

-- no lines have no value
no_lines : {o : ParseOption} {t r v : List ℕ} → MoreLines o t r v → t ≡ [] → v ≡ []
no_lines (MoreLines.done n m) h = refl
no_lines (MoreLines.empty_lf m) h = cc
no_lines (MoreLines.empty_cr_lf m) h = cc
no_lines (MoreLines.continued {w} goes ln le m) h = absurd (none_begins w _ goes.begins h)
no_lines (MoreLines.last {w} goes ln) h = absurd (none_begins w _ goes.begins h)
no_lines (MoreLines.comment {s} line le m) h = absurd (none_begins s _ (comment_begins line) h)
no_lines (MoreLines.last_comment line) h = refl

-- With g, a line end and what goes before it, after them, lines are read before x: their value has only
-- line feeds after it.
pub record MoreGlued (o : ParseOption) (t g x v : List ℕ) : Type 0 where
  pub value : List ℕ
  pub feeds : List ℕ
  pub more : MoreLines o (t ++ g) x value
  pub is : value ≡ v ++ feeds
  pub all : list_all is_line_feed feeds ≡ true

-- the same from a line end e on
pub record EndedGlued (o : ParseOption) (e t r g x v : List ℕ) : Type 0 where
  pub end : List ℕ
  pub lines : List ℕ
  pub value : List ℕ
  pub feeds : List ℕ
  pub whole : end ++ lines ≡ (e ++ t) ++ g
  pub alike : Alike (e ++ (t ++ r)) (end ++ (lines ++ x))
  pub is_end : LineEnd end (lines ++ x)
  pub more : MoreLines o lines x value
  pub is : value ≡ v ++ feeds
  pub all : list_all is_line_feed feeds ≡ true

module _ {o : ParseOption} (sep : LineSeparator) {x : List ℕ} (follows : Follows o x)
    (on : o.enabled_indented_mutiline_value ≡ true) where
  done : MoreLines o [] x []
  done = MoreLines.done (follows.no_blank on) (follows.no_line_end on)

  pub done_glued : MoreGlued o [] (line_end sep) x []
  done_glued = at sep
    where
      at : (s : LineSeparator) → MoreGlued o [] (line_end s) x []
      at SystemDefault = record {
        value = line_feed ∷ [];
        feeds = line_feed ∷ [];
        more = MoreLines.empty_lf done;
        is = refl;
        all = refl;
      }
      at CR = record {
        value = line_feed ∷ [];
        feeds = line_feed ∷ [];
        more = MoreLines.empty_lf done;
        is = refl;
        all = refl;
      }
      at CRLF = record {
        value = line_feed ∷ [];
        feeds = line_feed ∷ [];
        more = MoreLines.empty_cr_lf done;
        is = refl;
        all = refl;
      }

  module _ (c : List ℕ) where
    -- the glue
    abbrev g : List ℕ
    g = c ++ line_end sep

    nothing_before : c ≡ [] → line_end sep ≡ g
    nothing_before none = ap (λ z. z ++ line_end sep) (sym none)

    past_cr : {v r : List ℕ} → c ≡ [] → v ≡ [] → EndedGlued o (0x0D ∷ []) [] r g x v
    past_cr {v} {r} alone none =
        subst (λ z. EndedGlued o (0x0D ∷ []) [] r z x v) (nothing_before alone)
        (subst (EndedGlued o (0x0D ∷ []) [] r (line_end sep) x) (sym none) (at sep))
      where
        at : (s : LineSeparator) → EndedGlued o (0x0D ∷ []) [] r (line_end s) x []
        at SystemDefault = record {
          end = 0x0D ∷ (0x0A ∷ []);
          lines = [];
          value = [];
          feeds = [];
          whole = refl;
          alike = Alike.same;
          is_end = LineEnd.cr_lf;
          more = done;
          is = refl;
          all = refl;
        }
        at CR = record {
          end = 0x0D ∷ (0x0A ∷ []);
          lines = [];
          value = [];
          feeds = [];
          whole = refl;
          alike = Alike.same;
          is_end = LineEnd.cr_lf;
          more = done;
          is = refl;
          all = refl;
        }
        at CRLF = record {
          end = 0x0D ∷ [];
          lines = 0x0D ∷ (0x0A ∷ []);
          value = 0x0A ∷ [];
          feeds = 0x0A ∷ [];
          whole = refl;
          alike = Alike.same;
          is_end = LineEnd.cr refl;
          more = MoreLines.empty_cr_lf done;
          is = refl;
          all = refl;
        }

    pub ended_glued : {e : List ℕ} (t r v : List ℕ) → LineEnd e (t ++ r) → MoreLines o t r v
        → (t ≡ [] → c ≡ []) → MoreGlued o t g x v → EndedGlued o e t r g x v
    ended_glued t r v LineEnd.lf m k n = record {
      end = line_feed ∷ [];
      lines = t ++ g;
      value = n.value;
      feeds = n.feeds;
      whole = refl;
      alike = Alike.same;
      is_end = LineEnd.lf;
      more = n.more;
      is = n.is;
      all = n.all;
    }
    ended_glued t r v LineEnd.cr_lf m k n = record {
      end = 0x0D ∷ (0x0A ∷ []);
      lines = t ++ g;
      value = n.value;
      feeds = n.feeds;
      whole = refl;
      alike = Alike.same;
      is_end = LineEnd.cr_lf;
      more = n.more;
      is = n.is;
      all = n.all;
    }
    ended_glued [] r v (LineEnd.cr h) m k n = past_cr (k refl) (no_lines m refl)
    ended_glued (a ∷ t) r v (LineEnd.cr h) m k n = record {
      end = 0x0D ∷ [];
      lines = (a ∷ t) ++ g;
      value = n.value;
      feeds = n.feeds;
      whole = refl;
      alike = Alike.same;
      is_end = LineEnd.cr h;
      more = n.more;
      is = n.is;
      all = n.all;
    }

    -- how the lines after a line end end
    pub closing_lines : {e : List ℕ} (t y : List ℕ) → LineEnd e y
        → Closing o (ending_from o Ending.inside (e ++ t)) c
        → Closing o (ending_from o Ending.line t) c
    closing_lines t y LineEnd.lf k = k
    closing_lines t y LineEnd.cr_lf k = k
    closing_lines t y (LineEnd.cr n) k = closing_after t k

    -- the glue closes a line
    closes : Closes plain_ends (line_end sep ++ ([] ++ x))
    closes = line_end-closes sep x

    seam : (w l : List ℕ) → w ++ ((l ++ c) ++ (line_end sep ++ [])) ≡ (w ++ l) ++ g
    seam w l =
        ap (λ z. w ++ ((l ++ c) ++ z)) (append-nil (line_end sep))
        ∙ ap (λ z. w ++ z) (append_assoc l c (line_end sep))
        ∙ sym (append_assoc w l g)

    seam_lines : (w l y z : List ℕ) → y ≡ z ++ g → w ++ (l ++ y) ≡ (w ++ (l ++ z)) ++ g
    seam_lines w l y z h =
        ap (λ y. w ++ (l ++ y)) h ∙ ap (λ y. w ++ y) (sym (append_assoc l z g))
        ∙ sym (append_assoc w (l ++ z) g)

    -- line by line
    pub feed_more : {t v : List ℕ} → MoreGlued o t g x v → MoreGlued o (line_feed ∷ t) g x (line_feed ∷ v)
    feed_more n = record {
      value = line_feed ∷ n.value;
      feeds = n.feeds;
      more = MoreLines.empty_lf n.more;
      is = ap (λ z. line_feed ∷ z) n.is;
      all = n.all;
    }

    pub return_feed_more : {t v : List ℕ} → MoreGlued o t g x v
        → MoreGlued o (0x0D ∷ line_feed ∷ t) g x (line_feed ∷ v)
    return_feed_more n = record {
      value = line_feed ∷ n.value;
      feeds = n.feeds;
      more = MoreLines.empty_cr_lf n.more;
      is = ap (λ z. line_feed ∷ z) n.is;
      all = n.all;
    }

    pub line_more : {w l e t r u v : List ℕ} → GoesOn o w (l ++ (e ++ (t ++ r)))
        → Line o false l (e ++ (t ++ r)) u → EndedGlued o e t r g x v
        → MoreGlued o (w ++ (l ++ (e ++ t))) g x (line_feed ∷ (u ++ v))
    line_more {w} {l} {e} {t} {u = u} {v} goes ln n = record {
      value = line_feed ∷ (u ++ n.value);
      feeds = n.feeds;
      more =
          subst (λ z. MoreLines o z x (line_feed ∷ (u ++ n.value)))
          (seam_lines w l (n.end ++ n.lines) (e ++ t) n.whole)
          (MoreLines.continued (GoesOn-alike (Alike-after l n.alike) goes) (Line-alike n.alike ln)
          n.is_end n.more);
      is = ap (λ z. line_feed ∷ (u ++ z)) n.is ∙ ap (λ z. line_feed ∷ z) (sym (append_assoc u v n.feeds));
      all = n.all;
    }

    pub comment_more : {s e t r v : List ℕ} → CommentLine o s (e ++ (t ++ r)) → EndedGlued o e t r g x v
        → MoreGlued o (s ++ (e ++ t)) g x v
    comment_more {s} {e} {t} line n = record {
      value = n.value;
      feeds = n.feeds;
      more =
          subst (λ z. MoreLines o z x n.value) (ap (λ z. s ++ z) n.whole ∙ sym (append_assoc s (e ++ t) g))
          (MoreLines.comment (CommentLine-alike n.alike line) n.is_end n.more);
      is = n.is;
      all = n.all;
    }

    pub last_more : {w l u : List ℕ} → GoesOn o w l → Line o false l [] u
        → Closing o (ending_from o Ending.inside l) c → MoreGlued o (w ++ l) g x (line_feed ∷ u)
    last_more {w} {l} {u} goes ln k = record {
      value = line_feed ∷ (u ++ []);
      feeds = [];
      more =
          subst (λ z. MoreLines o z x (line_feed ∷ (u ++ []))) (seam w l)
          (MoreLines.continued
          (goes_on_glued (line_end sep ++ ([] ++ x)) closes l [] (subst (GoesOn o w) (sym (append-nil l))
          goes) k)
          (line_glued (line_end sep ++ ([] ++ x)) closes ln k) (line_end-is sep x) done);
      is = refl;
      all = refl;
    }

    pub last_comment_more : {s : List ℕ} → list_all (λ c. not (is_line_end c)) c ≡ true → CommentLine o s []
        → MoreGlued o s g x []
    last_comment_more {s} within line = record {
      value = [];
      feeds = [];
      more =
          subst (λ z. MoreLines o z x []) (seam [] s)
          (MoreLines.comment (comment_longer c (line_end sep ++ ([] ++ x)) within closes line)
          (line_end-is sep x) done);
      is = refl;
      all = refl;
    }

    pub more_glued : {t r v : List ℕ} → MoreLines o t r v → Closing o (ending_from o Ending.line t) c
        → MoreGlued o t g x v
    more_glued (MoreLines.done n m) k =
        subst (λ z. MoreGlued o [] z x []) (nothing_before (closing_line k)) done_glued
    more_glued (MoreLines.empty_lf m) k = feed_more (more_glued m k)
    more_glued (MoreLines.empty_cr_lf m) k = return_feed_more (more_glued m k)
    more_glued (MoreLines.continued {w} {l} {e} {t} {r} {v = v} goes ln le m) k =
        let following : Closing o (ending_from o Ending.inside (e ++ t)) c =
        closing_past Ending.line (w ++ l) t le
        (subst (λ z. Closing o (ending_from o Ending.line z) c) (sym (append_assoc w l (e ++ t))) k) in
        line_more goes ln (ended_glued t r v le m (closing_alone t le following)
        (more_glued m (closing_lines t (t ++ r) le following)))
    more_glued (MoreLines.last {w} {l} goes ln) k =
        last_more goes ln
        (subst (λ z. Closing o z c) (ending-lead o Ending.line w l goes.begins goes.lead.white) k)
    more_glued (MoreLines.comment {s} {e} {t} {r} {v} line le m) k =
        let following = closing_end s t le k in
        comment_more line (ended_glued t r v le m (closing_alone t le following)
        (more_glued m (closing_lines t (t ++ r) le following)))
    more_glued (MoreLines.last_comment line) k = last_comment_more (closing_within k) line

    -- a multiline value
    pub lines_glued : {s r v : List ℕ} → Value o s r v → Closing o (ending_from o Ending.inside s) c
        → Value o (s ++ g) x v
    lines_glued (Value.one_line off lead ln) k = absurd (both_ways o.enabled_indented_mutiline_value off on)
    lines_glued (Value.to_end {w} {l} {v} _ lead ln) k =
        let following : Closing o (ending_from o Ending.inside l) c =
        subst (λ z. Closing o z c) (ending-white o w l lead.white) k in
        let new_lead = lead_glued (line_end sep ++ ([] ++ x)) closes l []
        (subst (Lead w) (sym (append-nil l)) lead) following in
        subst (λ z. Value o z x (without_outer_line_feeds v)) (seam w l)
        (subst (λ z. Value o (w ++ ((l ++ c) ++ (line_end sep ++ []))) x (without_outer_line_feeds z))
        (append-nil v)
        (Value.lines on new_lead (line_glued (line_end sep ++ ([] ++ x)) closes ln following)
        (line_end-is sep x) done))
    lines_glued (Value.lines {w} {l} {e} {t} {r} {u} {v} _ lead ln le m) k =
        let following : Closing o (ending_from o Ending.inside (e ++ t)) c =
        closing_past Ending.inside (w ++ l) t le
        (subst (λ z. Closing o (ending_from o Ending.inside z) c) (sym (append_assoc w l (e ++ t))) k) in
        let n = ended_glued t r v le m (closing_alone t le following)
        (more_glued m (closing_lines t (t ++ r) le following)) in
        let same : without_outer_line_feeds (u ++ n.value) ≡ without_outer_line_feeds (u ++ v) =
        ap (λ z. without_outer_line_feeds (u ++ z)) n.is
        ∙ ap without_outer_line_feeds (sym (append_assoc u v n.feeds))
        ∙ feeds_after (u ++ v) n.feeds n.all in
        subst (λ z. Value o z x (without_outer_line_feeds (u ++ v)))
        (seam_lines w l (n.end ++ n.lines) (e ++ t) n.whole)
        (subst (Value o (w ++ (l ++ (n.end ++ n.lines))) x) same
        (Value.lines on (Lead-alike (Alike-after l n.alike) lead) (Line-alike n.alike ln) n.is_end n.more))
