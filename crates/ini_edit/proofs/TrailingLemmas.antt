-- Quiet lines put after the lines of a multiline value: they are its own then, and change nothing of it.
use Rattle.std.proofs.Common.{◌≡◌, ◌≢◌, ◌∙◌, ◌≤◌, ℕ, Bool, true, false, [], ◌∷◌, ◌++◌, ap, ◌==◌, ◌||◌}
use Rattle.std.proofs.Common.{append_assoc, append-nil, arith, eqb-true, length, length-append, refl, subst}
use Rattle.std.proofs.Common.{sym}
use Rattle.std.proofs.lemmas.Bool.{both_ways, false_from_ne_true, false≢true}
use Rattle.std.proofs.lemmas.List.Folds.{list_all-append}
use Rattle.std.specs.List.{list_all}
use Rattle.ini_text.specs.Grammar.CharacterKinds.{BeginsWith, BeginsWithNo, carriage_return, is_blank}
use Rattle.ini_text.specs.Grammar.CharacterKinds.{is_line_end, is_line_feed, line_feed}
use Rattle.ini_text.specs.Grammar.Lines.{LineTail}
use Rattle.ini_text.specs.Grammar.Places.{OwnLines, TrailingLines}
use Rattle.ini_text.specs.Grammar.Values.{CommentLine, LineEnd, MoreLines, Value}
use Rattle.ini_text.specs.Grammar.WhiteSpace.{without_outer_line_feeds}
use Rattle.ini_text.specs.declared.option.ParseOption.{ParseOption}
use Rattle.ini_text.proofs.LawLemmas.OneAheadLemmas.{Alike, Alike-after, Alike-some, CommentLine-alike}
use Rattle.ini_text.proofs.LawLemmas.OneAheadLemmas.{GoesOn-alike, Lead-alike, Line-alike, LineEnd-alike}
use Rattle.ini_text.proofs.LawLemmas.OneAheadLemmas.{LineTail-alike}
use Rattle.ini_text.proofs.ReaderLemmas.ValueReaderLemmas.{line_end-some}
use Rattle.ini.specs.Texts.{Text}
use Rattle.ini_edit.proofs.GluedLemmas.{feeds_after}
use Rattle.ini_edit.proofs.OwnBeforeLemmas.{own_alike}

-- a text that begins with a blank has some length, and begins with no LF
blank_some : (w z : Text) → BeginsWith is_blank w → 1 ≤ length (w ++ z)
blank_some [] z h = absurd (false≢true (sym h))
blank_some (c ∷ w) z h = omega arith

no_feed : (c : ℕ) → is_line_end c ≡ false → is_line_feed c ≡ false
no_feed c h = at (is_line_feed c) (c == carriage_return) h
  where
    at : (x y : Bool) → (x || y) ≡ false → x ≡ false
    at true y h = h
    at false y h = refl

no_feed_begins : (x : Text) → BeginsWithNo is_line_end x → BeginsWithNo is_line_feed x
no_feed_begins [] h = tt
no_feed_begins (c ∷ x) h = no_feed c h

blank_no_feed : (w z : Text) → BeginsWith is_blank w → BeginsWithNo is_line_feed (w ++ z)
blank_no_feed [] z h = absurd (false≢true (sym h))
blank_no_feed (c ∷ w) z h =
    false_from_ne_true (is_line_feed c)
    (λ q. false≢true (subst (λ d. is_blank d ≡ true) (eqb-true c line_feed q) h))

comment_some : {o : ParseOption} {s r : Text} (z : Text) → CommentLine o s r → 1 ≤ length (s ++ z)
comment_some z (CommentLine.comment {w} {n} on some lead noted) =
    subst (λ t. 1 ≤ length t) (sym (append_assoc w n z)) (blank_some w (n ++ z) some)

comment_no_feed : {o : ParseOption} {s r : Text} (z : Text) → CommentLine o s r
    → BeginsWithNo is_line_feed (s ++ z)
comment_no_feed z (CommentLine.comment {w} {n} on some lead noted) =
    subst (BeginsWithNo is_line_feed) (sym (append_assoc w n z)) (blank_no_feed w (n ++ z) some)

-- the line end e and the lines t, with the lines m after them, before x; u is the value of t
record Lengthened (o : ParseOption) (e t u m x : Text) : Type 0 where
  end : Text
  lines : Text
  feeds : Text
  whole : (e ++ t) ++ m ≡ end ++ lines
  is_end : LineEnd end (lines ++ x)
  are : MoreLines o lines x (u ++ feeds)
  all : list_all is_line_feed feeds ≡ true
  alike : (r s : Text) → Alike (e ++ r) (end ++ s)

-- the lines t with the lines m after them
record LinesLengthened (o : ParseOption) (t u m x : Text) : Type 0 where
  feeds : Text
  are : MoreLines o (t ++ m) x (u ++ feeds)
  all : list_all is_line_feed feeds ≡ true

module _ {o : ParseOption} where
  -- after a line end itself: a CR alone takes the LF that begins the lines
  end_lengthened : {e y m x v : Text} → LineEnd e y → o.enabled_indented_mutiline_value ≡ true
      → MoreLines o m x v → list_all is_line_feed v ≡ true → Lengthened o e [] [] m x
  end_lengthened {m = m} {v = v} LineEnd.lf on more all = record {
    end = line_feed ∷ [];
    lines = m;
    feeds = v;
    whole = refl;
    is_end = LineEnd.lf;
    are = more;
    all = all;
    alike = λ r s. Alike.same;
  }
  end_lengthened {m = m} {v = v} LineEnd.cr_lf on more all = record {
    end = carriage_return ∷ line_feed ∷ [];
    lines = m;
    feeds = v;
    whole = refl;
    is_end = LineEnd.cr_lf;
    are = more;
    all = all;
    alike = λ r s. Alike.same;
  }
  end_lengthened (LineEnd.cr n) on more all = at more all
    where
      stays : {m x v : Text} → BeginsWithNo is_line_feed (m ++ x) → MoreLines o m x v
          → list_all is_line_feed v ≡ true → Lengthened o (carriage_return ∷ []) [] [] m x
      stays {m} {v = v} none more all = record {
        end = carriage_return ∷ [];
        lines = m;
        feeds = v;
        whole = refl;
        is_end = LineEnd.cr none;
        are = more;
        all = all;
        alike = λ r s. Alike.same;
      }

      at : {m x v : Text} → MoreLines o m x v → list_all is_line_feed v ≡ true
          → Lengthened o (carriage_return ∷ []) [] [] m x
      at (MoreLines.done {r = x} blank end) all =
          stays (no_feed_begins x end) (MoreLines.done blank end) all
      at (MoreLines.empty_lf {t = t} {v = v} more) all = record {
        end = carriage_return ∷ line_feed ∷ [];
        lines = t;
        feeds = v;
        whole = refl;
        is_end = LineEnd.cr_lf;
        are = more;
        all = all;
        alike = λ r s. Alike.same;
      }
      at (MoreLines.empty_cr_lf more) all = stays refl (MoreLines.empty_cr_lf more) all
      at (MoreLines.continued {w = w} {l} {e} {t} {r} goes ln end more) all =
          stays (subst (BeginsWithNo is_line_feed) (sym (append_assoc w (l ++ (e ++ t)) r))
          (blank_no_feed w ((l ++ (e ++ t)) ++ r) goes.begins))
          (MoreLines.continued goes ln end more) all
      at (MoreLines.last {w = w} {l} goes ln) all =
          stays (subst (BeginsWithNo is_line_feed) (sym (append_assoc w l []))
          (blank_no_feed w (l ++ []) goes.begins)) (MoreLines.last goes ln) all
      at (MoreLines.comment {s} {e} {t} {r} noted end more) all =
          stays (subst (BeginsWithNo is_line_feed) (sym (append_assoc s (e ++ t) r))
          (comment_no_feed ((e ++ t) ++ r) noted))
          (MoreLines.comment noted end more) all
      at (MoreLines.last_comment noted) all =
          stays (comment_no_feed [] noted) (MoreLines.last_comment noted) all

  -- after a line end and lines that are there
  kept_end : {e t u m x : Text} (y : Text) → 1 ≤ length t → LineEnd e (t ++ y) → LinesLengthened o t u m x
      → Lengthened o e t u m x
  kept_end {e} {t} {m = m} {x} y some end l = record {
    end = e;
    lines = t ++ m;
    feeds = l.feeds;
    whole = append_assoc e t m;
    is_end =
        subst (LineEnd e) (sym (append_assoc t m x)) (LineEnd-alike (Alike-some t y (m ++ x) some) end);
    are = l.are;
    all = l.all;
    alike = λ r s. begins e r s end;
  }
    where
      begins : (e r s : Text) {z : Text} → LineEnd e z → Alike (e ++ r) (e ++ s)
      begins e r s LineEnd.lf = Alike.same
      begins e r s LineEnd.cr_lf = Alike.same
      begins e r s (LineEnd.cr n) = Alike.same

  any_lengthened : {e t u y m x v : Text} → LineEnd e (t ++ y) → MoreLines o t y u
      → o.enabled_indented_mutiline_value ≡ true → MoreLines o m x v → list_all is_line_feed v ≡ true
      → LinesLengthened o t u m x → Lengthened o e t u m x
  any_lengthened end (MoreLines.done blank none) on more all l = end_lengthened end on more all
  any_lengthened {y = y} end (MoreLines.empty_lf there) on more all l = kept_end y (omega arith) end l
  any_lengthened {y = y} end (MoreLines.empty_cr_lf there) on more all l = kept_end y (omega arith) end l
  any_lengthened end (MoreLines.continued {w = w} {l = l} {e} {t} {r} goes ln there_end there) on more all
      long =
      kept_end r (blank_some w (l ++ (e ++ t)) goes.begins) end long
  any_lengthened end (MoreLines.last {w = w} {l = l} goes ln) on more all long =
      kept_end [] (blank_some w l goes.begins) end long
  any_lengthened end (MoreLines.comment {e = e} {t} {r} noted there_end there) on more all long =
      kept_end r (comment_some (e ++ t) noted) end long
  any_lengthened end (MoreLines.last_comment {s} noted) on more all long =
      kept_end [] (subst (λ t. 1 ≤ length t) (append-nil s) (comment_some [] noted)) end long

  module _ (on : o.enabled_indented_mutiline_value ≡ true) {m x v : Text} (more : MoreLines o m x v)
      (all : list_all is_line_feed v ≡ true) where
    lines_put : (w l e t end lines : Text) → (e ++ t) ++ m ≡ end ++ lines
        → w ++ (l ++ (end ++ lines)) ≡ (w ++ (l ++ (e ++ t))) ++ m
    lines_put w l e t end lines whole =
        ap (λ z. w ++ (l ++ z)) (sym whole) ∙ ap (λ z. w ++ z) (sym (append_assoc l (e ++ t) m))
        ∙ sym (append_assoc w (l ++ (e ++ t)) m)

    lines_lengthened : {t y u : Text} → y ≢ [] → MoreLines o t y u → LinesLengthened o t u m x
    lines_lengthened some (MoreLines.done blank none) = record { feeds = v; are = more; all = all }
    lines_lengthened some (MoreLines.empty_lf there) =
        let l = lines_lengthened some there in
        record { feeds = l.feeds; are = MoreLines.empty_lf l.are; all = l.all }
    lines_lengthened some (MoreLines.empty_cr_lf there) =
        let l = lines_lengthened some there in
        record { feeds = l.feeds; are = MoreLines.empty_cr_lf l.are; all = l.all }
    lines_lengthened some (MoreLines.continued {w = w} {l = l} {e} {t} {r} {u} {v = g} goes ln end there) =
        let n = any_lengthened end there on more all (lines_lengthened some there) in
        record {
          feeds = n.feeds;
          are =
              subst (λ z. MoreLines o z x (line_feed ∷ ((u ++ g) ++ n.feeds)))
              (lines_put w l e t n.end n.lines n.whole)
              (subst (λ z. MoreLines o (w ++ (l ++ (n.end ++ n.lines))) x (line_feed ∷ z))
              (sym (append_assoc u g n.feeds))
              (MoreLines.continued (GoesOn-alike (Alike-after l (n.alike (t ++ r) (n.lines ++ x))) goes)
              (Line-alike (n.alike (t ++ r) (n.lines ++ x)) ln) n.is_end n.are));
          all = n.all;
        }
    lines_lengthened some (MoreLines.last goes ln) = absurd (some refl)
    lines_lengthened some (MoreLines.comment {s} {e} {t} {r} {v = g} noted end there) =
        let n = any_lengthened end there on more all (lines_lengthened some there) in
        record {
          feeds = n.feeds;
          are =
              subst (λ z. MoreLines o z x (g ++ n.feeds))
              (ap (λ z. s ++ z) (sym n.whole) ∙ sym (append_assoc s (e ++ t) m))
              (MoreLines.comment (CommentLine-alike (n.alike (t ++ r) (n.lines ++ x)) noted) n.is_end n.are);
          all = n.all;
        }
    lines_lengthened some (MoreLines.last_comment noted) = absurd (some refl)

    -- a value with these lines after its own
    pub value_lengthened : {s y u : Text} → y ≢ [] → Value o s y u → Value o (s ++ m) x u
    value_lengthened some (Value.one_line off lead ln) =
        absurd (both_ways o.enabled_indented_mutiline_value off on)
    value_lengthened some (Value.to_end _ lead ln) = absurd (some refl)
    value_lengthened some (Value.lines {w} {l} {e} {t} {r} {u} {v = g} _ lead ln end there) =
        let n = any_lengthened end there on more all (lines_lengthened some there) in
        let same : without_outer_line_feeds (u ++ (g ++ n.feeds)) ≡ without_outer_line_feeds (u ++ g) =
        ap without_outer_line_feeds (sym (append_assoc u g n.feeds)) ∙ feeds_after (u ++ g) n.feeds n.all in
        subst (λ z. Value o z x (without_outer_line_feeds (u ++ g)))
        (lines_put w l e t n.end n.lines n.whole)
        (subst (Value o (w ++ (l ++ (n.end ++ n.lines))) x) same
        (Value.lines on (Lead-alike (Alike-after l (n.alike (t ++ r) (n.lines ++ x))) lead)
        (Line-alike (n.alike (t ++ r) (n.lines ++ x)) ln) n.is_end n.are))

    -- and its trailing lines with them
    pub trailing_lengthened : {t y : Text} → y ≢ [] → TrailingLines o t y → TrailingLines o (t ++ m) x
    trailing_lengthened some (TrailingLines.line off closes) =
        absurd (both_ways o.enabled_indented_mutiline_value off on)
    trailing_lengthened some (TrailingLines.end _) = absurd (some refl)
    trailing_lengthened some (TrailingLines.lines {e} {t} {u = u} _ end there feeds) =
        let n = any_lengthened end there on more all (lines_lengthened some there) in
        subst (λ z. TrailingLines o z x) (sym n.whole)
        (TrailingLines.lines on n.is_end n.are (rw
        (list_all-append is_line_feed u n.feeds, feeds, n.all) refl))

    -- its own lines and their note stay what they are
    lengthened_alike : {t y : Text} → y ≢ [] → TrailingLines o t y → Alike (t ++ y) ((t ++ m) ++ x)
    lengthened_alike some (TrailingLines.line off closes) =
        absurd (both_ways o.enabled_indented_mutiline_value off on)
    lengthened_alike some (TrailingLines.end _) = absurd (some refl)
    lengthened_alike {y = y} some (TrailingLines.lines {e} {t} _ end there feeds) =
        subst (Alike ((e ++ t) ++ y)) (sym (append_assoc (e ++ t) m x))
        (Alike-some (e ++ t) y (m ++ x) (omega (arith, length-append e t, line_end-some end)))

    pub own_lengthened : {l t y : Text} (n : Text) → y ≢ [] → TrailingLines o t y
        → OwnLines o l (n ++ (t ++ y)) → OwnLines o l (n ++ ((t ++ m) ++ x))
    own_lengthened n some lines own = own_alike (Alike-after n (lengthened_alike some lines)) own

    pub note_lengthened : {n t y : Text} → y ≢ [] → TrailingLines o t y → LineTail n (t ++ y)
        → LineTail n ((t ++ m) ++ x)
    note_lengthened some lines tail = LineTail-alike (lengthened_alike some lines) tail
