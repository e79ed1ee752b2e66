-- Where a new section goes in a text's last gap: the elements before it, and the gap that follows it.
use Rattle.std.proofs.Common.{◌≡◌, ◌≢◌, ◌∙◌, ◌==◌, ◌&&◌, ◌||◌, ℕ, Bool, true, false, cond, not, List, [], ◌∷◌}
use Rattle.std.proofs.Common.{◌++◌, None, Option, Some, ap, append_assoc, append-nil, eqb-true, inl, inr}
use Rattle.std.proofs.Common.{refl, subst, sym}
use Rattle.std.proofs.lemmas.Bool.{both_ways, false≢true, false_from_ne_true}
use Rattle.std.specs.Option.{option_map}
use Rattle.ini_text.specs.Grammar.CharacterKinds.{BeginsWith, BeginsWithNo, is_blank, is_comment_mark}
use Rattle.ini_text.specs.Grammar.CharacterKinds.{is_line_end, is_line_feed, open_bracket}
use Rattle.ini_text.specs.Grammar.Pieces.{ArePieces, Piece, pieces_items, pieces_text}
use Rattle.ini_text.specs.Grammar.Positions.{last_or}
use Rattle.ini_text.specs.Parsing.Fronts.{front_of}
use Rattle.ini_text.specs.declared.option.ParseOption.{ParseOption}
use Rattle.ini_text.proofs.GrammarLemmas.KindLemmas.{comment_mark-apart, line_end_no_blank}
use Rattle.ini_text.proofs.LawLemmas.PieceLemmas.{last_or-append, pieces_items-append, pieces_split}
use Rattle.ini_text.proofs.LawLemmas.PieceLemmas.{pieces_text-append}
use Rattle.ini_text.proofs.StringLemmas.FrontLemmas.{front_is}
use Rattle.ini.specs.Texts.{Text}
use Rattle.ini_edit.specs.Inside.Spans.{IsGap}
use Rattle.ini_edit.specs.SourceEditsSections.{after_new_section}
use Rattle.ini_edit.specs.SourceLines.{dropped_key, from_last_solid, is_empty}
use Rattle.ini_edit.proofs.DroppedKeyLemmas.{AreKeyless, DroppedOff, dropped_off, pieces_no_bracket}
use Rattle.ini_edit.proofs.GapLemmas.{empty_front, gap_join}
use Rattle.ini_edit.proofs.SolidLemmas.{solid_cut}

-- a gap at the text's end, in two parts
pub record IsCutFor (o : ParseOption) (has_pair : Bool) (b : ℕ) (a g : Text) : Type 0 where
  pub front : List Piece
  pub whole : a ≡ pieces_text front ++ g
  pub nothing : pieces_items front ≡ []
  pub keyless : AreKeyless o front
  pub are : ArePieces o b front g
  pub rest : IsGap o (last_or b (pieces_text front)) g []
  pub line : BeginsWith is_blank g → is_line_end (last_or b (pieces_text front)) ≡ true
  pub column : BeginsWith is_comment_mark g → is_line_feed (last_or b (pieces_text front)) ≡ true
  pub other : BeginsWithNo (λ c. c == open_bracket) g
  pub no_end : BeginsWithNo is_line_end g
  pub no_blank : has_pair ≡ true → o.enabled_indented_mutiline_value ≡ true → BeginsWithNo is_blank g

blank_no_bracket : (t : Text) → BeginsWith is_blank t → BeginsWithNo (λ c. c == open_bracket) t
blank_no_bracket [] h = tt
blank_no_bracket (c ∷ t) h =
    false_from_ne_true (c == open_bracket)
    (λ q. false≢true (subst (λ z. is_blank z ≡ true) (eqb-true c open_bracket q) h))

blank_no_mark : (t : Text) → BeginsWith is_blank t → BeginsWith is_comment_mark t → ⊥
blank_no_mark [] h m = false≢true (sym h)
blank_no_mark (c ∷ t) h m = both_ways (is_blank c) (comment_mark-apart c m).0 h

blank_no_end : (t : Text) → BeginsWith is_blank t → BeginsWithNo is_line_end t
blank_no_end [] h = tt
blank_no_end (c ∷ t) h =
    false_from_ne_true (is_line_end c) (λ end. both_ways (is_blank c) (line_end_no_blank c end) h)

-- what begins two texts
begins_no : (test : ℕ → Bool) (s t : Text) → s ≢ [] → BeginsWithNo test s → BeginsWithNo test (s ++ t)
begins_no test [] t some h = absurd (some refl)
begins_no test (c ∷ s) t some h = h

begins_first : (test : ℕ → Bool) (s t : Text) → s ≢ [] → BeginsWith test (s ++ t) → BeginsWith test s
begins_first test [] t some h = absurd (some refl)
begins_first test (c ∷ s) t some h = h

nothing_there : (test : ℕ → Bool) {X : Type 0} → BeginsWith test [] → X
nothing_there test h = absurd (false≢true (sym h))

module _ {o : ParseOption} (has_pair : Bool) {b : ℕ} {a : Text} (h : IsGap o b a []) where
  abbrev dropped : Text
  dropped = dropped_key o b a

  -- before the key that the text's end cuts short, or at the end
  at_key : (key : Text) → DroppedOff o b a key → (has_pair ≡ true → o.enabled_indented_mutiline_value ≡ true
      → key ≡ [])
      → IsCutFor o has_pair b a key
  at_key key off alone = elim off.line [
    | inl empty ↦ subst (IsCutFor o has_pair b a) (sym empty) (record {
      front = off.before;
      whole = off.whole ∙ ap (λ t. pieces_text off.before ++ t) empty;
      nothing = off.nothing;
      keyless = off.keyless;
      are = subst (ArePieces o b off.before) empty off.are;
      rest = subst (λ t. IsGap o (last_or b (pieces_text off.before)) t []) empty off.is;
      line = nothing_there is_blank;
      column = nothing_there is_comment_mark;
      other = tt;
      no_end = tt;
      no_blank = λ _ _. tt;
    })
    | inr there ↦ record {
      front = off.before;
      whole = off.whole;
      nothing = off.nothing;
      keyless = off.keyless;
      are = off.are;
      rest = off.is;
      line = λ _. there.0;
      column = λ m. absurd (blank_no_mark key there.1 m);
      other = blank_no_bracket key there.1;
      no_end = blank_no_end key there.1;
      no_blank = λ has on. subst (BeginsWithNo is_blank) (sym (alone has on)) tt;
    }
  ]

  -- before the last comment, where the key is taken by a value
  at_solid : (key solid : Text) → DroppedOff o b a key → key ≢ []
      → BeginsWithNo (λ c. c == open_bracket) key
      → from_last_solid b (front_of a key) ≡ Some solid → IsCutFor o has_pair b a (solid ++ key)
  at_solid key solid off some other is =
      let front : front_of a key ≡ pieces_text off.before =
      front_is (pieces_text off.before) key a (sym off.whole) in
      let cut = solid_cut some other off.before solid off.nothing off.keyless off.are
      (ap (from_last_solid b) (sym front) ∙ is) in
      let parts = pieces_split cut.front cut.rest (subst (λ ps. ArePieces o b ps key) cut.whole off.are) in
      let nothing = empty_front (pieces_items cut.front) (pieces_items cut.rest)
      (sym (pieces_items-append cut.front cut.rest) ∙ ap pieces_items (sym cut.whole) ∙ off.nothing) in
      let text : pieces_text off.before ≡ pieces_text cut.front ++ solid =
      ap pieces_text cut.whole ∙ pieces_text-append cut.front cut.rest
      ∙ ap (λ t. pieces_text cut.front ++ t) (sym cut.text) in
      let last : last_or b (pieces_text off.before) ≡ last_or (last_or b (pieces_text cut.front)) solid =
      ap (last_or b) text ∙ last_or-append b (pieces_text cut.front) solid in
      record {
        front = cut.front;
        whole = off.whole ∙ ap (λ t. t ++ key) text ∙ append_assoc (pieces_text cut.front) solid key;
        nothing = nothing.0;
        keyless = cut.keyless;
        are = subst (λ t. ArePieces o b cut.front (t ++ key)) (sym cut.text) parts.0;
        rest = gap_join
            (subst (λ t. IsGap o (last_or b (pieces_text cut.front)) t (key ++ [])) (sym cut.text)
            (record {
              pieces = cut.rest;
              whole = refl;
              nothing = nothing.1;
              are = subst (ArePieces o (last_or b (pieces_text cut.front)) cut.rest) (sym (append-nil key))
                  parts.1;
            }))
            (subst (λ c. IsGap o c key []) last off.is);
        line = λ h. absurd (solid_no_blank solid key cut.some cut.solid.no_blank h);
        column = λ h. cut.solid.column (begins_first is_comment_mark solid key cut.some h);
        other = begins_no (λ c. c == open_bracket) solid key cut.some
            (subst (BeginsWithNo (λ c. c == open_bracket)) (sym cut.text)
            (pieces_no_bracket cut.rest nothing.1 parts.1));
        no_end = begins_no is_line_end solid key cut.some cut.solid.no_end;
        no_blank = λ has on. begins_no is_blank solid key cut.some cut.solid.no_blank;
      }
    where
      solid_no_blank : (s t : Text) → s ≢ [] → BeginsWithNo is_blank s → BeginsWith is_blank (s ++ t) → ⊥
      solid_no_blank [] t some no_blank h = some refl
      solid_no_blank (c ∷ s) t some no_blank h = both_ways (is_blank c) no_blank h

  -- where a new section goes
  pub cut_for : (g : Text) → after_new_section o has_pair b a ≡ Some g → IsCutFor o has_pair b a g
  cut_for g is = at (is_empty dropped || not (has_pair && o.enabled_indented_mutiline_value)) refl is
    where
      off : DroppedOff o b a (dropped_key o b a)
      off = dropped_off h

      alone : (key : Text) → (is_empty key || not (has_pair && o.enabled_indented_mutiline_value)) ≡ true
          → has_pair ≡ true → o.enabled_indented_mutiline_value ≡ true → key ≡ []
      alone [] h has on = refl
      alone (c ∷ key) h has on =
          absurd (false≢true (ap (λ a. not (a && true)) (sym has)
          ∙ ap (λ a. not (has_pair && a)) (sym on) ∙ h))

      some : (key : Text) → (is_empty key || not (has_pair && o.enabled_indented_mutiline_value)) ≡ false
          → key ≢ []
      some key h empty =
          false≢true (sym h
          ∙ ap (λ t. is_empty t || not (has_pair && o.enabled_indented_mutiline_value)) empty)

      key_other : (key : Text) → DroppedOff o b a key → BeginsWithNo (λ c. c == open_bracket) key
      key_other key off = elim off.line [
        | inl empty ↦ subst (BeginsWithNo (λ c. c == open_bracket)) (sym empty) tt
        | inr there ↦ blank_no_bracket key there.1
      ]

      at : (e : Bool) → (is_empty dropped || not (has_pair && o.enabled_indented_mutiline_value)) ≡ e
          → cond e (Some dropped)
          (option_map (λ solid. solid ++ dropped) (from_last_solid b (front_of a dropped))) ≡ Some g
          → IsCutFor o has_pair b a g
      at true e is =
          let same : dropped ≡ g = cc in
          subst (IsCutFor o has_pair b a) same (at_key dropped off (alone dropped e))
      at false e is = solid_at (from_last_solid b (front_of a dropped)) refl is
        where
          solid_at : (s : Option Text) → from_last_solid b (front_of a dropped) ≡ s
              → option_map (λ solid. solid ++ dropped) s ≡ Some g → IsCutFor o has_pair b a g
          solid_at None found is = absurd (let no : None ≡ Some g = is in cc)
          solid_at (Some solid) found is =
              let same : solid ++ dropped ≡ g = cc in
              subst (IsCutFor o has_pair b a) same
              (at_solid dropped solid off (some dropped e) (key_other dropped off) found)
