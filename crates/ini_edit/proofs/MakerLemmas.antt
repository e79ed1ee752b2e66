-- New pairs, as they are made, in their place: where a line starts, before lines and a gap.
use Rattle.std.proofs.Common.{◌≡◌, ◌∙◌, ℕ, Bool, true, false, cond, [], ◌∷◌, ◌++◌, ap}
use Rattle.std.proofs.Common.{inl, inr, refl, subst, sym}
use Rattle.std.proofs.lemmas.Bool.{and_parts, cases_Bool, cond-false, cond-true}
use Rattle.std.specs.List.{list_all}
use Rattle.ini_text.specs.Grammar.CharacterKinds.{is_line_end, is_line_feed}
use Rattle.ini_text.specs.Grammar.Places.{TrailingLines, pair_source}
use Rattle.ini_text.specs.Grammar.Positions.{last_or}
use Rattle.ini_text.specs.Grammar.Values.{LineEnd}
use Rattle.ini_text.specs.Laws.Plain.{IsPlainKey}
use Rattle.ini_text.specs.declared.option.ParseOption.{ParseOption}
use Rattle.ini_text.specs.declared.write.policy.EscapePolicy.{EscapePolicy}
use Rattle.ini_text.proofs.LawLemmas.PieceLemmas.{last_or-append}
use Rattle.ini_text.proofs.PlainLemmas.PlainPairLemmas.{line_end_closes}
use Rattle.ini.specs.Texts.{Text}
use Rattle.ini_edit.specs.Inside.SourceEnds.{MakesPairs}
use Rattle.ini_edit.specs.Inside.Spans.{IsGap, IsPair}
use Rattle.ini_edit.specs.Places.{Follows}
use Rattle.ini_edit.specs.SourceEditsAdd.{Maker}
use Rattle.ini_edit.specs.SourceLines.{are_comments}
use Rattle.ini_edit.specs.SourceWritten.{Style, new_pair}
use Rattle.ini_edit.proofs.BlankLineLemmas.{AreBlank}
use Rattle.ini_edit.proofs.CommentRowLemmas.{comments_column, comments_gap}
use Rattle.ini_edit.proofs.DeletedPairLemmas.{tail_last}
use Rattle.ini_edit.proofs.GapLemmas.{gap_join}
use Rattle.ini_edit.proofs.NewPairLemmas.{IsPlainStyle, IsReadKey, IsSourceFor, new_pair_follows, new_pair_is}
use Rattle.ini_edit.proofs.SourceAddLemmas.{IsNewEnd, line_ends_gap}
use Rattle.ini_edit.proofs.SourceSetLemmas.{before_tail}

-- pairs of a maker are read where a line starts, and they may follow a value, if nothing indents them
pub record MakesReadPairs (o : ParseOption) (make : Maker) : Type 0 where
  pub makes : MakesPairs o make
  pub follows : (lines gap x : Text) → o.enabled_indented_mutiline_value ≡ true
      → Follows o (pair_source (make false lines gap).stretches ++ x)

-- those of a plain key and style, and of a source that is read as the value, are such
pub new_pairs_read : {o : ParseOption} {policy : EscapePolicy} {key value source : Text} {style : Style}
    → IsPlainKey o policy key → IsReadKey o policy key → IsPlainStyle o style → IsSourceFor o source value
    → MakesReadPairs o (λ indented lines gap. new_pair o policy style indented key value source lines gap)
new_pairs_read plain read_back is given = record {
  makes = record {
    trailing = λ indented lines gap. refl;
    after = λ indented lines gap. refl;
    pair = λ indented lines gap start trailing.
        new_pair_is plain read_back is given indented lines gap start trailing;
  };
  follows = λ lines gap x on. new_pair_follows plain read_back is given lines gap x on;
}

-- a gap that ends with LF
pub record AreAfter (o : ParseOption) (c : ℕ) (g r : Text) : Type 0 where
  pub is : IsGap o c g r
  pub column : is_line_feed (last_or c g) ≡ true

module _ {o : ParseOption} {d : ℕ} {ds : Text} (all : list_all is_line_end (d ∷ ds) ≡ true) where
  -- a line end, and the blank lines after it
  trailing_put : {lines : Text} (gap r : Text) → LineEnd (d ∷ ds) (lines ++ (gap ++ r))
      → (o.enabled_indented_mutiline_value ≡ true → AreBlank o lines (gap ++ r))
      → TrailingLines o (cond o.enabled_indented_mutiline_value ((d ∷ ds) ++ lines) [])
      (cond o.enabled_indented_mutiline_value gap (((d ∷ ds) ++ lines) ++ gap) ++ r)
  trailing_put {lines} gap r end blank =
      let e = (d ∷ ds) ++ lines in
      elim (cases_Bool o.enabled_indented_mutiline_value) [
        | inl on ↦
            let b = blank on in
            subst (λ t. TrailingLines o t (cond o.enabled_indented_mutiline_value gap (e ++ gap) ++ r))
            (sym (cond-true o.enabled_indented_mutiline_value e [] on))
            (subst (λ g. TrailingLines o e (g ++ r))
            (sym (cond-true o.enabled_indented_mutiline_value gap (e ++ gap) on))
            (TrailingLines.lines on end b.are b.all))
        | inr off ↦
            subst (λ t. TrailingLines o t (cond o.enabled_indented_mutiline_value gap (e ++ gap) ++ r))
            (sym (cond-false o.enabled_indented_mutiline_value e [] off))
            (subst (λ g. TrailingLines o [] (g ++ r))
            (sym (cond-false o.enabled_indented_mutiline_value gap (e ++ gap) off))
            (TrailingLines.line off
            (line_end_closes d (and_parts (is_line_end d) (list_all is_line_end ds) all).0)))
      ]

  module _ {make : Maker} (makes : MakesReadPairs o make) (indented : Bool) where
    -- a new pair before its lines and a gap
    pub made_put : {c : ℕ} {e gap : Text} (r lines : Text) → LineEnd (d ∷ ds) (lines ++ (gap ++ r))
        → e ≡ (d ∷ ds) ++ lines → is_line_end c ≡ true
        → (o.enabled_indented_mutiline_value ≡ true → AreBlank o lines (gap ++ r))
        → IsPair o c (make indented e gap).stretches (make indented e gap).key (make indented e gap).value
        ((make indented e gap).after ++ r)
    made_put {c} {e} {gap} r lines end is start blank =
        let all : (t : Text) → t ≡ (d ∷ ds) ++ lines
        → TrailingLines o (cond o.enabled_indented_mutiline_value t [])
        (cond o.enabled_indented_mutiline_value gap (t ++ gap) ++ r) =
        λ t is. subst (λ t. TrailingLines o (cond o.enabled_indented_mutiline_value t [])
        (cond o.enabled_indented_mutiline_value gap (t ++ gap) ++ r)) (sym is)
        (trailing_put gap r end blank) in
        makes.makes.pair indented e gap start
        (subst (λ t. TrailingLines o t ((make indented e gap).after ++ r))
        (sym (makes.makes.trailing indented e gap))
        (subst (λ a. TrailingLines o (cond o.enabled_indented_mutiline_value e []) (a ++ r))
        (sym (makes.makes.after indented e gap)) (all e is)))

module _ {o : ParseOption} {d : ℕ} {ds : Text} (end : IsNewEnd d ds) where
  module _ {make : Maker} (makes : MakesReadPairs o make) (indented : Bool) where
    -- the same of a new line's end
    pub made_there : {c : ℕ} {e gap : Text} (r lines : Text) → e ≡ (d ∷ ds) ++ lines → is_line_end c ≡ true
        → (o.enabled_indented_mutiline_value ≡ true → AreBlank o lines (gap ++ r))
        → IsPair o c (make indented e gap).stretches (make indented e gap).key (make indented e gap).value
        ((make indented e gap).after ++ r)
    made_there r lines is start blank = made_put end.all makes indented r lines (end.is_end _) is start blank

    -- where values are multiline its lines end it
    pub made_last : (c : ℕ) (e gap : Text) → o.enabled_indented_mutiline_value ≡ true
        → last_or c (pair_source (make indented e gap).stretches)
        ≡ last_or (last_or c (before_tail (make indented e gap).stretches)) e
    made_last c e gap on =
        let p = (make indented e gap).stretches in
        tail_last c p
        ∙ ap (last_or (last_or c (before_tail p)))
        (makes.makes.trailing indented e gap ∙ cond-true o.enabled_indented_mutiline_value e [] on)

  -- comment lines after a new pair's line
  pub comments_after : {make : Maker} (makes : MakesReadPairs o make) (indented : Bool) (c : ℕ) {r : Text}
      (comments : Text) → are_comments false comments ≡ true
      → AreAfter o (last_or c (pair_source (make indented (d ∷ ds) comments).stretches))
      (make indented (d ∷ ds) comments).after r
  comments_after {make} makes indented c {r} comments are =
      let x = last_or c (pair_source (make indented (d ∷ ds) comments).stretches) in
      elim (cases_Bool o.enabled_indented_mutiline_value) [
        | inl on ↦
            let feed : is_line_feed x ≡ true =
            ap is_line_feed (made_last makes indented c (d ∷ ds) comments on) ∙ end.feed in
            subst (λ g. AreAfter o x g r)
            (sym (makes.makes.after indented (d ∷ ds) comments
            ∙ cond-true o.enabled_indented_mutiline_value comments ((d ∷ ds) ++ comments) on))
            (record { is = comments_gap comments feed are; column = comments_column x comments feed are })
        | inr off ↦
            subst (λ g. AreAfter o x g r)
            (sym (makes.makes.after indented (d ∷ ds) comments
            ∙ cond-false o.enabled_indented_mutiline_value comments ((d ∷ ds) ++ comments) off))
            (record {
              is = gap_join (line_ends_gap (d ∷ ds) end.all) (comments_gap comments end.feed are);
              column = ap is_line_feed (last_or-append x (d ∷ ds) comments)
                  ∙ comments_column (last_or d ds) comments end.feed are;
            })
      ]
