-- Lines after a value that give line feeds alone: one more line end may follow them. A comment, or a note,
-- that ends with a backslash needs nothing before it.
use Rattle.std.proofs.Common.{◌≡◌, ◌≢◌, ◌∙◌, ℕ, false, true, not, [], ◌∷◌, ◌++◌, ap, append-nil}
use Rattle.std.proofs.Common.{append_assoc, refl, subst, sym}
use Rattle.std.proofs.lemmas.Bool.{and_parts, false≢true}
use Rattle.std.proofs.lemmas.List.Folds.{list_all-append}
use Rattle.std.specs.List.{list_all}
use Rattle.ini_text.specs.Grammar.CharacterKinds.{backslash, is_comment_mark, is_line_end, is_line_feed}
use Rattle.ini_text.specs.Grammar.CharacterKinds.{line_feed}
use Rattle.ini_text.specs.Grammar.Lines.{Line, LineTail, LineText, Note}
use Rattle.ini_text.specs.Grammar.Strings.{Str, noted, plain_ends}
use Rattle.ini_text.specs.Grammar.Values.{GoesOn, MoreLines}
use Rattle.ini_text.specs.Options.WriteOptions.{line_end}
use Rattle.ini_text.specs.declared.option.ParseOption.{ParseOption}
use Rattle.ini_text.specs.declared.write.option.LineSeparator.{LineSeparator}
use Rattle.ini_text.proofs.LawLemmas.OneAheadLemmas.{Alike, LineText-alike}
use Rattle.ini_text.proofs.PlainLemmas.PlainPairLemmas.{line_end-is}
use Rattle.ini_text.proofs.PlainLemmas.PlainTrimLemmas.{end_trimmed-after}
use Rattle.ini.specs.Texts.{Text}
use Rattle.ini_edit.specs.Endings.{Closing, Ending, ending_from}
use Rattle.ini_edit.specs.Places.{Follows}
use Rattle.ini_edit.proofs.CommentedLineLemmas.{end_closes}
use Rattle.ini_edit.proofs.EndingLemmas.{ending-quoted, ending-row}
use Rattle.ini_edit.proofs.LinesGluedLemmas.{MoreGlued, comment_more, done_glued, ended_glued, feed_more}
use Rattle.ini_edit.proofs.LinesGluedLemmas.{last_comment_more, last_more, line_more, return_feed_more}
use Rattle.ini_edit.proofs.PadLemmas.{no_note_follows}

feeds_after : (u v : Text) → list_all is_line_feed (u ++ v) ≡ true → list_all is_line_feed v ≡ true
feeds_after u v h =
    (and_parts (list_all is_line_feed u) _ (sym (list_all-append is_line_feed u v) ∙ h)).1

some_note : (t : Text) (m : ℕ) (s : Text) → t ++ m ∷ s ≢ []
some_note [] m s none = cc
some_note (c ∷ t) m s none = let no : c ∷ (t ++ m ∷ s) ≡ [] = none in cc

module _ {o : ParseOption} where
  -- the text of a line that is line feeds alone takes nothing that follows
  text_closing : {l u : Text} → LineText o false l [] u → list_all is_line_feed u ≡ true
      → Closing o (ending_from o Ending.inside l) []
  text_closing (LineText.text {q = q} {p = p} quoted plain (Str.closed row h)) all =
      subst (λ e. Closing o e [])
      (sym (ending-quoted p quoted ∙ ap (ending_from o Ending.inside) (sym (append-nil p))
      ∙ ending-row o [] refl row))
      Closing.within
  text_closing (LineText.text quoted plain (Str.before_note c row n inside note)) all =
      absurd (false≢true (sym (no_note_follows (noted o plain_ends) c [] refl) ∙ note))
  text_closing (LineText.text {w = w} quoted plain (Str.lone {v = v} special row h)) all =
      let kept = end_trimmed-after v (backslash ∷ []) (λ e. cc) refl in
      let given : list_all is_line_feed (w ++ (v ++ backslash ∷ [])) ≡ true =
      subst (λ z. list_all is_line_feed (w ++ z) ≡ true) kept all in
      absurd (false≢true (feeds_after v (backslash ∷ []) (feeds_after w _ given)))

  goes_more : {w : Text} (l y : Text) → l ≢ [] → GoesOn o w l → GoesOn o w (l ++ y)
  goes_more [] y some goes = absurd (some refl)
  goes_more (c ∷ l) y some goes = record {
    begins = goes.begins;
    lead = record { white = goes.lead.white; ends = goes.lead.ends };
    text = goes.text;
  }

module _ {o : ParseOption} (sep : LineSeparator) {x : Text} (follows : Follows o x)
    (on : o.enabled_indented_mutiline_value ≡ true) where
  -- a line with a note, which may end with a backslash
  noted_more : {w t m_s u : Text} (m : ℕ) (s : Text) → m_s ≡ m ∷ s → is_comment_mark m ≡ true
      → list_all (λ c. not (is_line_end c)) s ≡ true → GoesOn o w (t ++ m_s)
      → LineText o false t (m_s ++ []) u → MoreGlued o (w ++ (t ++ m_s)) (line_end sep) x (line_feed ∷ u)
  noted_more {w} {t} {m_s} {u} m s is mark within goes front =
      let after = line_end sep ++ ([] ++ x) in
      let l = t ++ m ∷ s in
      let whole : w ++ (l ++ (line_end sep ++ [])) ≡ (w ++ (t ++ m_s)) ++ line_end sep =
      ap (λ z. w ++ (l ++ z)) (append-nil (line_end sep)) ∙ sym (append_assoc w l (line_end sep))
      ∙ ap (λ z. (w ++ (t ++ z)) ++ line_end sep) (sym is) in
      let ln : Line o false l after u =
      Line.line (LineText-alike Alike.same (subst (λ z. LineText o false t (z ++ []) u) is front))
      (LineTail.note (Note.note mark within (end_closes (line_end-is sep x)))) in
      record {
        value = line_feed ∷ (u ++ []);
        feeds = [];
        more = subst (λ z. MoreLines o z x (line_feed ∷ (u ++ []))) whole
            (MoreLines.continued (goes_more l after (some_note t m s)
            (subst (λ z. GoesOn o w (t ++ z)) is goes)) ln (line_end-is sep x)
            (MoreLines.done (follows.no_blank on) (follows.no_line_end on)));
        is = refl;
        all = refl;
      }

  last_fed : {w l u : Text} → GoesOn o w l → Line o false l [] u → list_all is_line_feed u ≡ true
      → MoreGlued o (w ++ l) (line_end sep) x (line_feed ∷ u)
  last_fed goes (Line.line {t} front (LineTail.none h)) all =
      last_more sep follows on [] goes (Line.line front (LineTail.none h))
      (subst (λ z. Closing o (ending_from o Ending.inside z) []) (sym (append-nil t)) (text_closing front all))
  last_fed goes (Line.line front (LineTail.note (Note.note {m} {s} mark within h))) all =
      noted_more m s refl mark within goes front

  pub feeds_glued : {t r u : Text} → MoreLines o t r u → list_all is_line_feed u ≡ true
      → MoreGlued o t (line_end sep) x u
  feeds_glued (MoreLines.done n m) all = done_glued sep follows on
  feeds_glued (MoreLines.empty_lf m) all = feed_more sep follows on [] (feeds_glued m all)
  feeds_glued (MoreLines.empty_cr_lf m) all = return_feed_more sep follows on [] (feeds_glued m all)
  feeds_glued (MoreLines.continued {t = t} {r} {u} {v} goes ln le m) all =
      line_more sep follows on [] goes ln
      (ended_glued sep follows on [] t r v le m (λ h. refl) (feeds_glued m (feeds_after u v all)))
  feeds_glued (MoreLines.last goes ln) all = last_fed goes ln all
  feeds_glued (MoreLines.comment {t = t} {r} {v} line le m) all =
      comment_more sep follows on [] line
      (ended_glued sep follows on [] t r v le m (λ h. refl) (feeds_glued m all))
  feeds_glued (MoreLines.last_comment line) all = last_comment_more sep follows on [] refl line
