-- A pair of a text in pieces made comments: each of its lines after a mark, up to its line end.
use Rattle.std.proofs.Common.{◌≡◌, ◌≢◌, ◌∙◌, ◌==◌, ◌&&◌, ℕ, Bool, true, false, not, [], ◌∷◌, ◌++◌, ap}
use Rattle.std.proofs.Common.{append_assoc, append-nil, eqb-true, if◌then◌else◌, inl, inr, refl, subst, sym}
use Rattle.std.proofs.lemmas.Bool.{and_parts, both_ways, false≢true, or_cases}
use Rattle.ini_text.specs.Grammar.CharacterKinds.{BeginsWithNo, carriage_return, is_comment_mark, is_line_end}
use Rattle.ini_text.specs.Grammar.CharacterKinds.{is_line_feed, line_feed, semicolon, space}
use Rattle.ini_text.specs.Grammar.Places.{Stretches, TrailingLines, pair_source}
use Rattle.ini_text.specs.Grammar.Positions.{last_or}
use Rattle.ini_text.specs.Grammar.Strings.{Closes, plain_ends}
use Rattle.ini_text.specs.Grammar.Values.{LineEnd}
use Rattle.ini_text.specs.Inside.LineReader.{past_note}
use Rattle.ini_text.specs.Laws.PieceLaws.{Agree}
use Rattle.ini_text.specs.Parsing.Fronts.{front_of}
use Rattle.ini_text.specs.declared.option.ParseOption.{ParseOption}
use Rattle.ini_text.proofs.LawLemmas.PieceLemmas.{last_or-append}
use Rattle.ini_text.proofs.ReaderLemmas.LineReaderLemmas.{TextEnds}
use Rattle.ini_text.proofs.StringLemmas.FrontLemmas.{front_is}
use Rattle.ini.specs.Texts.{Text, is_text}
use Rattle.ini_edit.specs.Inside.Spans.{IsGap, IsPair}
use Rattle.ini_edit.specs.SourceEditsComments.{marked, pair_line, pair_lines}
use Rattle.ini_edit.specs.SourceEditsDelete.{after_own, gap_after, line_end_after, lines_after}
use Rattle.ini_edit.specs.SourceLines.{LinePlace, after_line_end, ends_in_line, line_end_at_end}
use Rattle.ini_edit.specs.SourceLines.{quiet_lines_at_end}
use Rattle.ini_edit.specs.Sources.{PairPiece, has_separator, is_multiline}
use Rattle.ini_edit.proofs.BlankLineLemmas.{line_last, trailing_ends}
use Rattle.ini_edit.proofs.CommentLineLemmas.{longer_pair}
use Rattle.ini_edit.proofs.CommentRowLemmas.{AreRows, IsNewLine, ends_row, marked_gap}
use Rattle.ini_edit.proofs.DeletedLinesLemmas.{IsLineEnd, end_is, end_last, none_unended, own_of, quiet_after}
use Rattle.ini_edit.proofs.GapLemmas.{gap_join}
use Rattle.ini_edit.proofs.LineCutLemmas.{OwnCut, own_cut, past_nothing, text_closes}
use Rattle.ini_edit.proofs.PairViewLemmas.{goes_on, one_line}
use Rattle.ini_edit.proofs.SourceLineLemmas.{front_of_none, line_end_at_end-rest, quiet_lines_at_end-rest}
use Rattle.ini_edit.proofs.SourceSetLemmas.{before_nothing, last_agrees}
use Rattle.ini_edit.proofs.ValueLemmas.{closes_line_end}

-- Before r a pair and the gap after it are lines, a line end, and a gap; or the text ends with the lines.
pub data CommentedOut (o : ParseOption) (p : Stretches) (b r : Text) : Text → Text → Type 0 where
  with_end : {ls R : Text} (e : Text) → pair_source p ++ b ≡ ls ++ (e ++ R) → IsNewLine e
      → IsGap o line_feed R r
      → CommentedOut o p b r ls (e ++ R)
  to_end : {ls : Text} → r ≡ [] → pair_source p ++ b ≡ ls → CommentedOut o p b r ls []

abbrev pub comment_of : (ls rest : Text) → Text
comment_of ls rest = semicolon ∷ (space ∷ (marked ls ++ rest))

new_line_last : {e : Text} (c : ℕ) → IsNewLine e → last_or c e ≡ line_feed
new_line_last c IsNewLine.lf = refl
new_line_last c IsNewLine.cr_lf = refl

-- The comments are a gap where column one begins, and what follows is read as before.
pub record IsOut (o : ParseOption) (d : ℕ) (p : Stretches) (b following C : Text) : Type 0 where
  pub is : IsGap o d C (following ++ [])
  pub agrees : Agree o (last_or (last_or d (pair_source p)) b ∷ []) (last_or d C ∷ []) following

pub commented_is : {o : ParseOption} {d : ℕ} {p : Stretches} {b ls rest : Text} (following : Text)
    → is_line_feed d ≡ true → CommentedOut o p b (following ++ []) ls rest
    → IsOut o d p b following (comment_of ls rest)
commented_is {o} {d} {p} {b} {ls} following one (CommentedOut.with_end {R = R} e whole end is) =
    let comments = comment_of ls e in
    let last : last_or d comments ≡ line_feed =
    last_or-append space (marked ls) e ∙ new_line_last (last_or space (marked ls)) end in
    let whole_new : comments ++ R ≡ comment_of ls (e ++ R) =
    ap (λ t. semicolon ∷ (space ∷ t)) (append_assoc (marked ls) e R) in
    let last_old : last_or (last_or d (pair_source p)) b ≡ last_or line_feed R =
    sym (last_or-append d (pair_source p) b) ∙ ap (last_or d) whole ∙ last_or-append d ls (e ++ R)
    ∙ last_or-append (last_or d ls) e R ∙ ap (λ c. last_or c R) (new_line_last (last_or d ls) end) in
    let last_new : last_or d (comment_of ls (e ++ R)) ≡ last_or line_feed R =
    ap (last_or d) (sym whole_new) ∙ last_or-append d comments R ∙ ap (λ c. last_or c R) last in
    record {
      is = subst (λ t. IsGap o d t (following ++ [])) whole_new
          (gap_join (marked_gap ls one (ends_row end))
          (subst (λ c. IsGap o c R (following ++ [])) (sym last) is));
      agrees = last_agrees (last_old ∙ sym last_new);
    }
commented_is {o} {d} {p} {b} {ls} following one (CommentedOut.to_end none whole) =
    let nothing : following ≡ [] = sym (append-nil following) ∙ none in
    record {
      is = subst (λ r. IsGap o d (comment_of ls []) r) (sym none) (marked_gap ls one AreRows.to_end);
      agrees = subst (Agree o (last_or (last_or d (pair_source p)) b ∷ []) (last_or d (comment_of ls []) ∷ []))
          (sym nothing) before_nothing;
    }

-- the line end of lines that is no CR alone is written as one
new_line_of : {e r : Text} → LineEnd e r → is_text e (carriage_return ∷ []) ≡ false → IsNewLine e
new_line_of LineEnd.lf apart = IsNewLine.lf
new_line_of LineEnd.cr_lf apart = IsNewLine.cr_lf
new_line_of (LineEnd.cr n) apart = absurd (false≢true (sym apart))

-- what closes a line and doesn't begin with its end is nothing
nothing_closes : (r : Text) → Closes plain_ends r → BeginsWithNo is_line_end r → r ≡ []
nothing_closes [] closes none = refl
nothing_closes (c ∷ r) closes none = absurd (both_ways (is_line_end c) none (closes_line_end c closes))

-- the line end of lines after a value: the text ends without one
abbrev end_of_lines : (o : ParseOption) → Text → Text
end_of_lines o own = if not (ends_in_line o own) then [] else line_end_at_end own

-- the line end at the end of lines that one ends
data LinesEnd (o : ParseOption) (t r : Text) : Text → Type 0 where
  nothing : quiet_lines_at_end o t ≡ [] → r ≡ [] → LinesEnd o t r []
  line_end : {e : Text} → front_of (own_of o t) e ++ e ≡ own_of o t → IsNewLine e → LinesEnd o t r e

module _ {o : ParseOption} (on : o.enabled_indented_mutiline_value ≡ true) {t r : Text}
    (trailing : TrailingLines o t r) where
  own_whole : own_of o t ++ quiet_lines_at_end o t ≡ t
  own_whole = quiet_lines_at_end-rest o t

  -- nothing follows lines that no line end ends
  unended : ends_in_line o (own_of o t) ≡ false → (quiet_lines_at_end o t ≡ []) × (r ≡ [])
  unended off =
      let none = none_unended on [] r trailing line_feed off in
      (none, nothing_after r trailing none)
    where
      nothing_after : (r : Text) → TrailingLines o t r → quiet_lines_at_end o t ≡ [] → r ≡ []
      nothing_after [] trailing none = refl
      nothing_after (c ∷ r) trailing none =
          let all : own_of o t ≡ t = sym (append-nil (own_of o t)) ∙ ap (λ x. own_of o t ++ x) (sym none)
          ∙ own_whole in
          absurd (both_ways (ends_in_line o (own_of o t)) off
          (ap (ends_in_line o) all ∙ trailing_ends (λ h. let no : c ∷ r ≡ [] = h in cc) on trailing))

  -- the line end there is written as one, but for a CR alone
  ended : ends_in_line o (own_of o t) ≡ true
      → is_text (line_end_at_end (own_of o t)) (carriage_return ∷ []) ≡ false
      → LinesEnd o t r (line_end_at_end (own_of o t))
  ended ends apart =
      by (line_end_at_end (own_of o t)) (end_is (own_of o t)) (line_end_at_end-rest (own_of o t)) some apart
    where
      some : line_end_at_end (own_of o t) ≢ []
      some none =
          let there : own_of o t ≢ [] = λ h. false≢true (subst (λ x. ends_in_line o x ≡ true) h ends) in
          let is_end : is_line_end (last_or space (own_of o t)) ≡ true =
          line_last o LinePlace.within space (own_of o t) (λ h. absurd (false≢true h)) ends in
          let last : space ≡ last_or space (own_of o t) =
          sym (ap (last_or space) none) ∙ end_last space space (own_of o t) there is_end in
          false≢true (subst (λ c. is_line_end c ≡ true) (sym last) is_end)

      by : (e : Text) → IsLineEnd e → front_of (own_of o t) e ++ e ≡ own_of o t → e ≢ []
          → is_text e (carriage_return ∷ []) ≡ false → LinesEnd o t r e
      by [] IsLineEnd.none whole some apart = absurd (some refl)
      by e IsLineEnd.lf whole some apart = LinesEnd.line_end whole IsNewLine.lf
      by e IsLineEnd.cr_lf whole some apart = LinesEnd.line_end whole IsNewLine.cr_lf
      by e IsLineEnd.cr whole some apart = absurd (false≢true (sym apart))

  lines_end_there : is_text (end_of_lines o (own_of o t)) (carriage_return ∷ []) ≡ false
      → LinesEnd o t r (end_of_lines o (own_of o t))
  lines_end_there apart = at (ends_in_line o (own_of o t)) refl apart
    where
      at : (b : Bool) → ends_in_line o (own_of o t) ≡ b
          → is_text (if not b then [] else line_end_at_end (own_of o t)) (carriage_return ∷ []) ≡ false
          → LinesEnd o t r (if not b then [] else line_end_at_end (own_of o t))
      at true is apart = ended is apart
      at false is apart = let none = unended is in LinesEnd.nothing none.0 none.1

  -- the quiet lines are a gap
  quiet_lines_gap : {c : ℕ} → is_line_end c ≡ true → IsGap o c (quiet_lines_at_end o t) r
  quiet_lines_gap starts = quiet_after on [] r trailing line_feed starts

-- a pair up to its trailing lines, and these
line_then : (p : Stretches) → pair_line p ++ p.trailing_lines ≡ pair_source p
line_then p = longer_pair p.trailing_lines (record p { trailing_lines = [] })

-- the parts of what follows a pair's value, where it goes on over lines, and where it is in one line
module _ (o : ParseOption) (on multiline : Bool) (p : PairPiece) where
  abbrev lines_of : Text
  lines_of =
      if on then quiet_lines_at_end o p.stretches.trailing_lines
      else (if multiline then [] else after_own o p)

  abbrev gap_part : Text
  gap_part = if on then p.after else (if multiline then after_own o p else [])

  abbrev own_part : Text
  own_part = if on then front_of p.stretches.trailing_lines lines_of else front_of p.after (after_own o p)

  abbrev end_part : Text
  end_part = if on && not (ends_in_line o own_part) then [] else line_end_at_end own_part

  abbrev line_part : Text
  line_part = pair_line p.stretches ++ front_of own_part end_part

-- a pair in its place, with the gap after it, is made comments
pub pair_commented : {o : ParseOption} {d : ℕ} (p : PairPiece) (r : Text)
    → IsPair o d p.stretches p.key p.value (p.after ++ r)
    → IsGap o (last_or d (pair_source p.stretches)) p.after r → BeginsWithNo is_line_end r
    → BeginsWithNo is_comment_mark r → is_text (line_end_after o p) (carriage_return ∷ []) ≡ false
    → CommentedOut o p.stretches p.after r (pair_lines o p)
    (line_end_after o p ++ (lines_after o p ++ gap_after o p))
pair_commented {o} {d} p r is g none unmarked apart =
    at (is_multiline o p) refl o.enabled_indented_mutiline_value apart
  where
    t : Text
    t = p.stretches.trailing_lines

    b : Text
    b = p.after

    Made : (ls rest : Text) → Type 0
    Made ls rest = CommentedOut o p.stretches p.after r ls rest

    -- in one line, with a note behind a key alone
    after : Text
    after = after_own o p

    own : Text
    own = front_of b after

    line : Text
    line = pair_line p.stretches

    cut_lines : p.stretches.trailing_lines ≡ [] → OwnCut o (last_or d (pair_source p.stretches)) b r
        → (b ≡ [] → r ≡ []) → is_text (line_end_at_end own) (carriage_return ∷ []) ≡ false
        → Made (line ++ front_of own (line_end_at_end own)) (line_end_at_end own ++ (after ++ []))
    cut_lines no_lines cut bare apart = by cut
      where
        whole : line ≡ pair_source p.stretches
        whole = sym (append-nil line) ∙ ap (λ x. line ++ x) (sym no_lines) ∙ line_then p.stretches

        -- the text ends with these
        at_end : own ≡ b → line_end_at_end own ≡ [] → after ≡ [] → r ≡ []
            → Made (line ++ front_of own (line_end_at_end own)) (line_end_at_end own ++ (after ++ []))
        at_end own_is no_end no_rest last =
            let lines : pair_source p.stretches ++ b ≡ line ++ front_of own (line_end_at_end own) =
            ap (λ x. x ++ b) (sym whole)
            ∙ ap (λ x. line ++ x) (sym (ap (front_of own) no_end ∙ front_of_none own ∙ own_is)) in
            subst (Made (line ++ front_of own (line_end_at_end own)))
            (sym (ap (λ x. x ++ (after ++ [])) no_end ∙ ap (λ x. x ++ []) no_rest))
            (CommentedOut.to_end last lines)

        by : OwnCut o (last_or d (pair_source p.stretches)) b r
            → Made (line ++ front_of own (line_end_at_end own)) (line_end_at_end own ++ (after ++ []))
        by (OwnCut.cut f e rest same head le one last is_rest) =
            let own_is : own ≡ f = ap (front_of b) is_rest ∙ front_is f rest b (sym same) in
            let end_is : line_end_at_end own ≡ e = ap line_end_at_end own_is ∙ one in
            let new : IsNewLine e =
            new_line_of le (subst (λ x. is_text x (carriage_return ∷ []) ≡ false) end_is apart) in
            let front : front_of own (line_end_at_end own) ++ e ≡ f =
            ap (λ x. front_of own (line_end_at_end own) ++ x) (sym end_is) ∙ line_end_at_end-rest own ∙ own_is in
            let ls = line ++ front_of own (line_end_at_end own) in
            let source : pair_source p.stretches ++ b ≡ ls ++ (e ++ (rest ++ [])) =
            ap (λ x. x ++ b) (sym whole) ∙ ap (λ x. line ++ x) (same ∙ ap (λ x. x ++ rest) (sym front)
            ∙ append_assoc (front_of own (line_end_at_end own)) e rest
            ∙ ap (λ x. front_of own (line_end_at_end own) ++ (e ++ x)) (sym (append-nil rest)))
            ∙ sym (append_assoc line (front_of own (line_end_at_end own)) (e ++ (rest ++ []))) in
            let feed : last_or (last_or d (pair_source p.stretches)) f ≡ line_feed =
            last (last_or d (pair_source p.stretches)) line_feed ∙ new_line_last line_feed new in
            let left : IsGap o line_feed (rest ++ []) r =
            subst (λ x. IsGap o line_feed x r) (sym (append-nil rest))
            (subst (λ c. IsGap o c rest r) feed
            (head.rest r (subst (λ x. IsGap o (last_or d (pair_source p.stretches)) x r) same g))) in
            subst (Made ls) (ap (λ x. x ++ (rest ++ [])) (sym end_is)
            ∙ ap (λ x. line_end_at_end own ++ (x ++ [])) (sym is_rest))
            (CommentedOut.with_end e source new left)
        by (OwnCut.noted some closes no_end is_rest heads) =
            let own_is : own ≡ b = ap (front_of b) is_rest ∙ front_of_none b in
            at_end own_is (ap line_end_at_end own_is ∙ no_end) is_rest (nothing_closes r closes none)
        by (OwnCut.nothing empty) =
            let no_rest : after ≡ [] =
            ap (λ x. after_line_end (past_note o x)) empty ∙ ap after_line_end (past_nothing o) in
            let own_is : own ≡ b = ap (front_of b) no_rest ∙ front_of_none b in
            at_end own_is (ap line_end_at_end (own_is ∙ empty)) no_rest (bare empty)

    many_lines : {e : Text} → o.enabled_indented_mutiline_value ≡ true → TrailingLines o t (b ++ r)
        → LinesEnd o t (b ++ r) e
        → Made (pair_line p.stretches ++ front_of (own_of o t) e) (e ++ (quiet_lines_at_end o t ++ b))
    many_lines on trailing_lines (LinesEnd.nothing empty last) =
        let parts = no_parts b r last in
        let own : own_of o t ≡ t =
        sym (append-nil (own_of o t)) ∙ ap (λ x. own_of o t ++ x) (sym empty)
        ∙ quiet_lines_at_end-rest o t in
        let front : front_of (own_of o t) [] ≡ t =
        front_is (own_of o t) [] (own_of o t) (append-nil (own_of o t))
        ∙ own in
        let lines : pair_source p.stretches ++ b ≡ pair_line p.stretches ++ front_of (own_of o t) [] =
        ap (λ b. pair_source p.stretches ++ b) parts.0 ∙ append-nil (pair_source p.stretches)
        ∙ sym (line_then p.stretches) ∙ ap (λ x. pair_line p.stretches ++ x) (sym front) in
        subst (Made (pair_line p.stretches ++ front_of (own_of o t) []))
        (sym (ap (λ x. x ++ b) empty ∙ parts.0))
        (CommentedOut.to_end parts.1 lines)
      where
        no_parts : (b r : Text) → b ++ r ≡ [] → (b ≡ []) × (r ≡ [])
        no_parts [] r h = (refl, h)
        no_parts (c ∷ b) r h = absurd (let no : c ∷ (b ++ r) ≡ [] = h in cc)
    many_lines on trailing_lines (LinesEnd.line_end {e} whole end) =
        let lines = quiet_lines_at_end o t in
        let own = front_of (own_of o t) e in
        let trailing : own ++ (e ++ lines) ≡ t =
        sym (append_assoc own e lines) ∙ ap (λ x. x ++ lines) whole ∙ quiet_lines_at_end-rest o t in
        let source : (pair_line p.stretches ++ own) ++ (e ++ lines) ≡ pair_source p.stretches =
        append_assoc (pair_line p.stretches) own (e ++ lines) ∙ ap (λ x. pair_line p.stretches ++ x) trailing
        ∙ line_then p.stretches in
        let last : last_or d (pair_source p.stretches) ≡ last_or line_feed lines =
        ap (last_or d) (sym source) ∙ last_or-append d (pair_line p.stretches ++ own) (e ++ lines)
        ∙ last_or-append (last_or d (pair_line p.stretches ++ own)) e lines
        ∙ ap (λ c. last_or c lines) (new_line_last (last_or d (pair_line p.stretches ++ own)) end) in
        CommentedOut.with_end e
        (ap (λ x. x ++ b) (sym source) ∙ append_assoc (pair_line p.stretches ++ own) (e ++ lines) b
        ∙ ap (λ x. (pair_line p.stretches ++ own) ++ x) (append_assoc e lines b))
        end
        (gap_join (quiet_lines_gap on trailing_lines refl) (subst (λ c. IsGap o c b r) last g))

    in_line : is_multiline o p ≡ false → is_text (line_end_at_end own) (carriage_return ∷ []) ≡ false
        → Made (line ++ front_of own (line_end_at_end own)) (line_end_at_end own ++ (after ++ []))
    in_line off apart =
        let parts = one_line is off in
        cut_lines parts.0 (own_cut is off g)
        (λ empty. nothing_closes r
        (text_closes o r (subst (λ x. TextEnds o (x ++ r)) empty parts.1) unmarked) none) apart

    at : (on : Bool) → is_multiline o p ≡ on → (multiline : Bool)
        → is_text (end_part o on multiline p) (carriage_return ∷ []) ≡ false
        → Made (line_part o on multiline p)
        (end_part o on multiline p ++ (lines_of o on multiline p ++ gap_part o on multiline p))
    at false off true apart =
        subst (λ x. Made (line ++ front_of own (line_end_at_end own)) (line_end_at_end own ++ x))
        (append-nil after) (in_line off apart)
    at false off false apart = in_line off apart
    at true on multiline apart =
        let trailing_lines = (goes_on is on).are_trailing in
        let enabled = (and_parts o.enabled_indented_mutiline_value (has_separator p) on).0 in
        many_lines enabled trailing_lines (lines_end_there enabled trailing_lines apart)
