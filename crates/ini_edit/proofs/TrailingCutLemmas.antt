-- The lines after a multiline value without the quiet ones at their end: they are its lines before all that
-- may follow it.
use Rattle.std.proofs.Common.{◌≡◌, ◌∙◌, Bool, true, false, if◌then◌else◌, [], ◌∷◌, ◌++◌, ap, append_assoc, ℕ}
use Rattle.std.proofs.Common.{refl, subst, sym}
use Rattle.std.specs.List.{list_all}
use Rattle.ini_text.specs.Grammar.CharacterKinds.{BeginsWithNo, carriage_return, is_line_feed, line_feed}
use Rattle.ini_text.specs.Grammar.Lines.{Line}
use Rattle.ini_text.specs.Grammar.Values.{CommentLine, GoesOn, LineEnd, MoreLines}
use Rattle.ini_text.specs.declared.option.ParseOption.{ParseOption}
use Rattle.ini_text.proofs.LawLemmas.OneAheadLemmas.{CommentLine-before, EndedLine-before, GoesOn-before}
use Rattle.ini.specs.Texts.{Text}
use Rattle.ini_edit.specs.Places.{Follows}
use Rattle.ini_edit.specs.SourceLines.{LinePlace, are_quiet, is_line_from, quiet_lines_from}
use Rattle.ini_edit.proofs.AheadLemmas.{no_line_feed}
use Rattle.ini_edit.proofs.QuietWalkLemmas.{PassedLast, PassedLine, feeds_left, feeds_right, passed_comment}
use Rattle.ini_edit.proofs.QuietWalkLemmas.{passed_last, passed_last_comment, passed_line}

-- lines t that give v, without the lines b at their end
pub record LinesFront (o : ParseOption) (t v b : Text) : Type 0 where
  pub front : Text
  pub value : Text
  pub feeds : Text
  pub whole : t ≡ front ++ b
  pub is : v ≡ value ++ feeds
  pub all : list_all is_line_feed feeds ≡ true
  pub ends : is_line_from o LinePlace.line front ≡ true
  pub are : (y : Text) → Follows o y → MoreLines o front y value

-- lines are cut before those; or there are none, and the last line ends with the text
pub data LinesCut (o : ParseOption) (t x v b : Text) : Type 0 where
  cut : LinesFront o t v b → LinesCut o t x v b
  unended : b ≡ [] → x ≡ [] → is_line_from o LinePlace.line t ≡ false → LinesCut o t x v b

pub line_end_moved : {o : ParseOption} {e y : Text} (t r b front : Text)
    → o.enabled_indented_mutiline_value ≡ true
    → LineEnd e (t ++ r) → t ≡ front ++ b → Follows o y → LineEnd e (front ++ y)
line_end_moved t r b front on LineEnd.lf whole follows = LineEnd.lf
line_end_moved t r b front on LineEnd.cr_lf whole follows = LineEnd.cr_lf
line_end_moved {y = y} t r b [] on (LineEnd.cr n) whole follows =
    LineEnd.cr (no_line_feed y (follows.no_line_end on))
line_end_moved t r b (c ∷ front) on (LineEnd.cr n) whole follows =
    LineEnd.cr (subst (λ z. BeginsWithNo is_line_feed (z ++ r)) whole n)

module _ {o : ParseOption} (on : o.enabled_indented_mutiline_value ≡ true) where
  all_cut : {t x v : Text} → MoreLines o t x v → list_all is_line_feed v ≡ true → LinesFront o t v t
  all_cut {v = v} more all = record {
    front = [];
    value = [];
    feeds = v;
    whole = refl;
    is = refl;
    all = all;
    ends = refl;
    are = λ y follows. MoreLines.done (follows.no_blank on) (follows.no_line_end on);
  }

  -- all of the lines are quiet, or those after a line are cut
  all_or : {x v : Text} (c : ℕ) (cs rest : Text) → MoreLines o (c ∷ cs) x v → list_all is_line_feed v ≡ true
      → LinesCut o (c ∷ cs) x v rest
      → LinesCut o (c ∷ cs) x v (if are_quiet o LinePlace.line (c ∷ cs) then c ∷ cs else rest)
  all_or {x} {v} c cs rest more all later = at (are_quiet o LinePlace.line (c ∷ cs))
    where
      at : (b : Bool) → LinesCut o (c ∷ cs) x v (if b then c ∷ cs else rest)
      at true = LinesCut.cut (all_cut more all)
      at false = later

  past_line : {s t x v : Text} → PassedLine o s t → MoreLines o s x v → list_all is_line_feed v ≡ true
      → LinesCut o s x v (quiet_lines_from o LinePlace.line t)
      → LinesCut o s x v (quiet_lines_from o LinePlace.line s)
  past_line {s} {t} {x} {v} p more all later =
      subst (λ z. LinesCut o z x v (quiet_lines_from o LinePlace.line z)) (sym p.whole)
      (all_or p.head p.tail _ (subst (λ z. MoreLines o z x v) p.whole more) all
      (subst (LinesCut o (p.head ∷ p.tail) x v) (sym p.blank)
      (subst (λ z. LinesCut o z x v (quiet_lines_from o LinePlace.line t)) p.whole later)))

  past_last : {s v : Text} → PassedLast o s → MoreLines o s [] v → list_all is_line_feed v ≡ true
      → LinesCut o s [] v (quiet_lines_from o LinePlace.line s)
  past_last {s} {v} p more all =
      subst (λ z. LinesCut o z [] v (quiet_lines_from o LinePlace.line z)) (sym p.whole)
      (all_or p.head p.tail _ (subst (λ z. MoreLines o z [] v) p.whole more) all
      (LinesCut.unended p.blank refl
      (subst (λ z. is_line_from o LinePlace.line z ≡ false) p.whole p.line)))

  after_feed : {t x v b : Text} → LinesCut o t x v b → LinesCut o (line_feed ∷ t) x (line_feed ∷ v) b
  after_feed (LinesCut.cut f) = LinesCut.cut (record {
    front = line_feed ∷ f.front;
    value = line_feed ∷ f.value;
    feeds = f.feeds;
    whole = ap (λ z. line_feed ∷ z) f.whole;
    is = ap (λ z. line_feed ∷ z) f.is;
    all = f.all;
    ends = f.ends;
    are = λ y follows. MoreLines.empty_lf (f.are y follows);
  })
  after_feed (LinesCut.unended none nothing inside) = LinesCut.unended none nothing inside

  after_return_feed : {t x v b : Text} → LinesCut o t x v b
      → LinesCut o (carriage_return ∷ line_feed ∷ t) x (line_feed ∷ v) b
  after_return_feed (LinesCut.cut f) = LinesCut.cut (record {
    front = carriage_return ∷ line_feed ∷ f.front;
    value = line_feed ∷ f.value;
    feeds = f.feeds;
    whole = ap (λ z. carriage_return ∷ line_feed ∷ z) f.whole;
    is = ap (λ z. line_feed ∷ z) f.is;
    all = f.all;
    ends = f.ends;
    are = λ y follows. MoreLines.empty_cr_lf (f.are y follows);
  })
  after_return_feed (LinesCut.unended none nothing inside) = LinesCut.unended none nothing inside

  nothing_follows : Follows o []
  nothing_follows = record { no_blank = λ _. tt; no_line_end = λ _. tt }

  after_one : {w l e t r u v b : Text} → GoesOn o w (l ++ (e ++ (t ++ r)))
      → Line o false l (e ++ (t ++ r)) u → list_all is_line_feed u ≡ true → LineEnd e (t ++ r)
      → LinesCut o t r v b
      → LinesCut o (w ++ (l ++ (e ++ t))) r (line_feed ∷ (u ++ v)) b
  after_one {w} {l} {e} {t} {r} {u} {b = b} goes ln all end (LinesCut.cut f) =
      let moved : (y : Text) → Follows o y → LineEnd e (f.front ++ y) = λ y follows.
      line_end_moved t r b f.front on end f.whole follows in
      let none = EndedLine-before (moved [] nothing_follows)
      (record { lead = goes.lead; line = ln; end = end }) in
      LinesCut.cut (record {
        front = w ++ (l ++ (e ++ f.front));
        value = line_feed ∷ (u ++ f.value);
        feeds = f.feeds;
        whole = ap (λ z. w ++ (l ++ (e ++ z))) f.whole ∙ simp append_assoc;
        is = ap (λ z. line_feed ∷ (u ++ z)) f.is
            ∙ ap (λ z. line_feed ∷ z) (sym (append_assoc u f.value f.feeds));
        all = f.all;
        ends = (passed_line w l f.front [] (GoesOn-before l (f.front ++ []) end goes) none.line all
            none.end).line ∙ f.ends;
        are = λ y follows.
            let n = EndedLine-before (moved y follows) (record { lead = goes.lead; line = ln; end = end }) in
            MoreLines.continued (GoesOn-before l (f.front ++ y) end goes) n.line n.end (f.are y follows);
      })
  after_one {w} {l} {t = t} {r} goes ln all end (LinesCut.unended none nothing inside) =
      LinesCut.unended none nothing ((passed_line w l t r goes ln all end).line ∙ inside)

  after_comment : {s e t r v b : Text} → CommentLine o s (e ++ (t ++ r)) → LineEnd e (t ++ r)
      → LinesCut o t r v b → LinesCut o (s ++ (e ++ t)) r v b
  after_comment {s} {e} {t} {r} {b = b} noted end (LinesCut.cut f) =
      let moved : (y : Text) → Follows o y → LineEnd e (f.front ++ y) = λ y follows.
      line_end_moved t r b f.front on end f.whole follows in
      LinesCut.cut (record {
        front = s ++ (e ++ f.front);
        value = f.value;
        feeds = f.feeds;
        whole = ap (λ z. s ++ (e ++ z)) f.whole ∙ simp append_assoc;
        is = f.is;
        all = f.all;
        ends = (passed_comment f.front [] (CommentLine-before (f.front ++ []) end noted)
            (moved [] nothing_follows)).line ∙ f.ends;
        are = λ y follows.
            MoreLines.comment (CommentLine-before (f.front ++ y) end noted) (moved y follows)
            (f.are y follows);
      })
  after_comment {t = t} {r} noted end (LinesCut.unended none nothing inside) =
      LinesCut.unended none nothing ((passed_comment t r noted end).line ∙ inside)

  pub lines_cut : {t x v : Text} → MoreLines o t x v → list_all is_line_feed v ≡ true
      → LinesCut o t x v (quiet_lines_from o LinePlace.line t)
  lines_cut (MoreLines.done n m) all = LinesCut.cut (all_cut (MoreLines.done n m) refl)
  lines_cut (MoreLines.empty_lf {t} more) all =
      all_or line_feed t (quiet_lines_from o LinePlace.line t) (MoreLines.empty_lf more) all
      (after_feed (lines_cut more all))
  lines_cut (MoreLines.empty_cr_lf {t} more) all =
      all_or carriage_return (line_feed ∷ t) (quiet_lines_from o LinePlace.line t)
      (MoreLines.empty_cr_lf more) all
      (after_return_feed (lines_cut more all))
  lines_cut (MoreLines.continued {w} {l} {e} {t} {r} {u} {v} goes ln end more) all =
      let here = feeds_left u v all in
      past_line (passed_line w l t r goes ln here end) (MoreLines.continued goes ln end more) all
      (after_one goes ln here end (lines_cut more (feeds_right u v all)))
  lines_cut (MoreLines.last {w} {l} goes ln) all =
      past_last (passed_last w l goes ln all) (MoreLines.last goes ln) all
  lines_cut (MoreLines.comment {t = t} {r} noted end more) all =
      past_line (passed_comment t r noted end) (MoreLines.comment noted end more) all
      (after_comment noted end (lines_cut more all))
  lines_cut (MoreLines.last_comment noted) all =
      past_last (passed_last_comment noted) (MoreLines.last_comment noted) all
