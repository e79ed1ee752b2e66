-- The line end with which a text ends, by its last characters; and the first line end on the way to it.
use Rattle.std.proofs.Common.{◌≡◌, ◌∙◌, ◌&&◌, ℕ, Bool, true, false, cond, eqb, eqb-true, [], ◌∷◌, ◌++◌}
use Rattle.std.proofs.Common.{Option, None, Some, ap, append_assoc, append-nil, arith, is_some, refl}
use Rattle.std.proofs.Common.{unwrap_or, subst, sym}
use Rattle.std.proofs.lemmas.Bool.{and_from, and_left, and_right, cond-false, cond-true, cond_both}
use Rattle.std.proofs.lemmas.Bool.{false≢true, or_from}
use Rattle.ini.specs.Texts.{Text}
use Rattle.ini_text.specs.Grammar.CharacterKinds.{carriage_return, is_line_end, is_line_feed, line_feed}
use Rattle.ini_text.specs.Grammar.Positions.{last_or}
use Rattle.ini_text.specs.Grammar.CharacterKinds.{begins}
use Rattle.ini_text.proofs.StringLemmas.ScanLemmas.{last_or_append}
use Rattle.ini_text.specs.declared.write.option.LineSeparator.{LineSeparator}
use Rattle.ini_text.specs.declared.write.option.LineSeparator.TheVariants.{CRLF, SystemDefault}
use Rattle.ini_edit.specs.Inside.SourceSearches.{IsSearched, first_line_end}
use Rattle.ini_edit.specs.NewLines.{line_end_of}
use Rattle.ini_edit.specs.SourceLines.{after_line_feed, is_empty, is_one_line_end, line_end_at_end}
use Rattle.ini_edit.specs.declared.source.lines.LineEndSearch.{LineEndSearch}

-- two characters that aren't CR LF are no line end, and no three are
two_line_end : (b c : ℕ) → (eqb b carriage_return && eqb c line_feed) ≡ false
    → is_one_line_end (b ∷ c ∷ []) ≡ false
two_line_end b c apart =
    and_right (is_line_end b) _ (cond_both (is_line_feed b) (c ∷ []) _ (λ x. is_empty x ≡ false) (λ e. refl)
    (λ e. cond_both (eqb b carriage_return) (after_line_feed (c ∷ [])) (b ∷ c ∷ []) (λ x. is_empty x ≡ false)
    (λ cr. cond_both (is_line_feed c) [] (c ∷ []) (λ x. is_empty x ≡ false)
    (λ lf. absurd (false≢true (sym apart ∙ and_from _ _ cr lf))) (λ e. refl)) (λ e. refl)))

long_line_end : (b c d : ℕ) (t : Text) → is_one_line_end (b ∷ c ∷ d ∷ t) ≡ false
long_line_end b c d t =
    and_right (is_line_end b) _
    (cond_both (is_line_feed b) (c ∷ d ∷ t) _ (λ x. is_empty x ≡ false) (λ e. refl)
    (λ e. cond_both (eqb b carriage_return) (after_line_feed (c ∷ d ∷ t)) (b ∷ c ∷ d ∷ t)
    (λ x. is_empty x ≡ false)
    (λ cr. cond_both (is_line_feed c) (d ∷ t) (c ∷ d ∷ t) (λ x. is_empty x ≡ false) (λ e. refl) (λ e. refl))
    (λ e. refl)))

within_long : (b c : ℕ) (X : Text) (last : ℕ)
    → line_end_at_end (b ∷ c ∷ (X ++ last ∷ [])) ≡ line_end_at_end (c ∷ (X ++ last ∷ []))
within_long b c [] last = cond-false (is_one_line_end (b ∷ c ∷ last ∷ [])) _ _ (long_line_end b c last [])
within_long b c (d ∷ X) last =
    cond-false (is_one_line_end (b ∷ c ∷ d ∷ (X ++ last ∷ []))) _ _ (long_line_end b c d (X ++ last ∷ []))

-- a last character that doesn't end CR LF
pub one_at_end : (d : ℕ) (X : Text) (c : ℕ) → (eqb (last_or d X) carriage_return && eqb c line_feed) ≡ false
    → line_end_at_end (X ++ c ∷ []) ≡ line_end_at_end (c ∷ [])
one_at_end d [] c apart = refl
one_at_end d (b ∷ []) c apart = cond-false (is_one_line_end (b ∷ c ∷ [])) _ _ (two_line_end b c apart)
one_at_end d (a ∷ b ∷ X) c apart = within_long a b X c ∙ one_at_end a (b ∷ X) c apart

crlf_after : (b : ℕ) (X : Text) → last_or b X ≡ carriage_return
    → line_end_at_end (b ∷ (X ++ line_feed ∷ [])) ≡ carriage_return ∷ line_feed ∷ []
crlf_after b [] h =
    subst (λ x. line_end_at_end (x ∷ line_feed ∷ []) ≡ carriage_return ∷ line_feed ∷ []) (sym h) refl
crlf_after a (b ∷ X) h = within_long a b X line_feed ∙ crlf_after b X h

pub crlf_at_end : (X : Text) → last_or line_feed X ≡ carriage_return
    → line_end_at_end (X ++ line_feed ∷ []) ≡ carriage_return ∷ line_feed ∷ []
crlf_at_end [] h = absurd (omega arith)
crlf_at_end (b ∷ X) h = crlf_after b X h

pub other_at_end : (X : Text) (c : ℕ) → eqb c line_feed ≡ false → eqb c carriage_return ≡ false
    → line_end_at_end (X ++ c ∷ []) ≡ []
other_at_end X c no_feed no_return =
    one_at_end line_feed X c (and_right _ _ no_feed)
    ∙ cond-false (is_one_line_end (c ∷ [])) (c ∷ []) []
    (and_left (is_line_end c) _ (or_from _ _ no_feed no_return))

-- the first line end of joined texts
record NotYet (c : ℕ) (cs : Text) : Type 0 where
  crlf : (eqb c carriage_return && begins is_line_feed cs) ≡ false
  feed : is_line_feed c ≡ false
  rest : first_line_end cs ≡ None

not_yet : (c : ℕ) (cs : Text) → first_line_end (c ∷ cs) ≡ None → NotYet c cs
not_yet c cs h = by (eqb c carriage_return && begins is_line_feed cs) (is_line_feed c) refl refl h
  where
    by : (x y : Bool) → (eqb c carriage_return && begins is_line_feed cs) ≡ x → is_line_feed c ≡ y
        → cond x (Some CRLF) (cond y (Some SystemDefault) (first_line_end cs)) ≡ None → NotYet c cs
    by true y p q e = absurd (let no : Some CRLF ≡ None = e in cc)
    by false true p q e = absurd (let no : Some SystemDefault ≡ None = e in cc)
    by false false p q e = record { crlf = p; feed = q; rest = e }

passed_on : (c : ℕ) (cs : Text) → (eqb c carriage_return && begins is_line_feed cs) ≡ false
    → is_line_feed c ≡ false → first_line_end (c ∷ cs) ≡ first_line_end cs
passed_on c cs crlf feed = cond-false _ _ _ crlf ∙ cond-false _ _ _ feed

-- LF is next, after CR or not
pub feed_found : (X Y : Text) → first_line_end X ≡ None
    → first_line_end (X ++ line_feed ∷ Y)
    ≡ Some (cond (eqb (last_or line_feed X) carriage_return) CRLF SystemDefault)
feed_found [] Y none = refl
feed_found (b ∷ []) Y none =
    let not = not_yet b [] none in
    elim (eqb b carriage_return) as (λ x. cond (x && true) (Some CRLF)
    (cond (is_line_feed b) (Some SystemDefault) (Some SystemDefault)) ≡ Some (cond x CRLF SystemDefault)) [
      | true ↦ refl
      | false ↦ ap (λ y. cond y (Some SystemDefault) (Some SystemDefault)) not.feed
    ]
feed_found (a ∷ b ∷ X) Y none =
    let not = not_yet a (b ∷ X) none in
    passed_on a (b ∷ (X ++ line_feed ∷ Y)) not.crlf not.feed ∙ feed_found (b ∷ X) Y not.rest

-- another character is next
pub none_more : (X : Text) (c : ℕ) → is_line_feed c ≡ false → first_line_end X ≡ None
    → first_line_end (X ++ c ∷ []) ≡ None
none_more [] c other none = passed_on c [] (and_right (eqb c carriage_return) false refl) other
none_more (b ∷ []) c other none =
    passed_on b (c ∷ []) (and_right (eqb b carriage_return) _ other) (not_yet b [] none).feed
    ∙ none_more [] c other refl
none_more (a ∷ b ∷ X) c other none =
    let not = not_yet a (b ∷ X) none in
    passed_on a (b ∷ (X ++ c ∷ [])) not.crlf not.feed ∙ none_more (b ∷ X) c other not.rest

-- one was found
no_return : (c : ℕ) → is_line_feed c ≡ true → eqb c carriage_return ≡ false
no_return c h = rw (eqb-true c line_feed h) refl

pub found_before : (X Y : Text) (s : LineSeparator) → first_line_end X ≡ Some s
    → first_line_end (X ++ Y) ≡ Some s
found_before [] Y s h = absurd (let no : None ≡ Some s = h in cc)
found_before (c ∷ []) Y s h = by (is_line_feed c) refl h
  where
    by : (y : Bool) → is_line_feed c ≡ y
        → cond (eqb c carriage_return && false) (Some CRLF) (cond y (Some SystemDefault) None) ≡ Some s
        → first_line_end (c ∷ Y) ≡ Some s
    by true is e =
        let no = no_return c is in
        cond-false (eqb c carriage_return && begins is_line_feed Y) _ _ (rw no refl) ∙ cond-true _ _ _ is
        ∙ sym (cond-false (eqb c carriage_return && false) _ _ (rw no refl)) ∙ e
    by false is e = absurd
        (let no : None ≡ Some s = sym (cond-false (eqb c carriage_return && false) (Some CRLF) None
        (and_right (eqb c carriage_return) false refl)) ∙ e in cc)
found_before (b ∷ c ∷ X) Y s h =
    by (eqb b carriage_return && is_line_feed c) (is_line_feed b) h (found_before (c ∷ X) Y s)
  where
    by : (x y : Bool) → cond x (Some CRLF) (cond y (Some SystemDefault) (first_line_end (c ∷ X))) ≡ Some s
        → (first_line_end (c ∷ X) ≡ Some s → first_line_end (c ∷ (X ++ Y)) ≡ Some s)
        → cond x (Some CRLF) (cond y (Some SystemDefault) (first_line_end (c ∷ (X ++ Y)))) ≡ Some s
    by true y e more = e
    by false true e more = e
    by false false e more = more e

pub search_stays : (front text : Text) (s : LineEndSearch) → is_some s.found ≡ true → IsSearched front s
    → IsSearched (front ++ text) s
search_stays front text s some searched = by s.found refl some
  where
    by : (f : Option LineSeparator) → s.found ≡ f → is_some f ≡ true → IsSearched (front ++ text) s
    by None is h = absurd (false≢true h)
    by (Some x) is h = record {
      found = is ∙ sym (found_before front text x (sym searched.found ∙ is));
      last = λ e. absurd (let no : Some x ≡ None = sym is ∙ e in cc);
    }

pub found_none : (f : Option LineSeparator) → is_some f ≡ false → f ≡ None
found_none None h = refl
found_none (Some x) h = absurd (false≢true (sym h))

-- no line end was found up to the rest of the text
pub record SearchedTo (text : Text) (last : ℕ) (rest : Text) : Type 0 where
  pub front : Text
  pub whole : front ++ rest ≡ text
  pub none : first_line_end front ≡ None
  pub is_last : last ≡ last_or line_feed front

pub searched_start : (front text : Text) (s : LineEndSearch) → is_some s.found ≡ false → IsSearched front s
    → SearchedTo (front ++ text) s.last text
searched_start front text s not searched =
    let none = found_none s.found not in
    record {
      front = front;
      whole = refl;
      none = sym searched.found ∙ none;
      is_last = searched.last none;
    }

module _ {text rest after : Text} {last : ℕ} (c : ℕ) (is : rest ≡ c ∷ after)
    (searched : SearchedTo text last rest) where
  whole_at : searched.front ++ c ∷ after ≡ text
  whole_at = ap (λ x. searched.front ++ x) (sym is) ∙ searched.whole

  pub searched_more : eqb c line_feed ≡ false → SearchedTo text c after
  searched_more other = record {
    front = searched.front ++ c ∷ [];
    whole = append_assoc searched.front (c ∷ []) after ∙ whole_at;
    none = none_more searched.front c other searched.none;
    is_last = sym (last_or_append line_feed c searched.front);
  }

  pub searched_found : {found : LineSeparator} → eqb c line_feed ≡ true
      → found ≡ cond (eqb last carriage_return) CRLF SystemDefault
      → IsSearched text (record { last = c; found = Some found })
  searched_found {found} feed is_found =
      let first : first_line_end text ≡ Some (cond (eqb last carriage_return) CRLF SystemDefault) =
      ap first_line_end (sym whole_at ∙ ap (λ x. searched.front ++ x ∷ after) (eqb-true c line_feed feed))
      ∙ feed_found searched.front after searched.none
      ∙ ap (λ l. Some (cond (eqb l carriage_return) CRLF SystemDefault)) (sym searched.is_last) in
      record {
        found = sym (first ∙ ap (λ f. Some f) (sym is_found));
        last = λ e. absurd (let no : Some found ≡ None = e in cc);
      }

pub searched_all : {text rest : Text} {last : ℕ} → rest ≡ [] → SearchedTo text last rest
    → (first_line_end text ≡ None) × (last ≡ last_or line_feed text)
searched_all is searched =
    let all = sym (append-nil searched.front) ∙ ap (λ x. searched.front ++ x) (sym is) ∙ searched.whole in
    (ap first_line_end (sym all) ∙ searched.none, searched.is_last ∙ ap (last_or line_feed) all)

-- the text's own line end
pub own_line_end : (other : LineSeparator) (T : Text)
    → line_end_of other T ≡ unwrap_or (first_line_end T) other
own_line_end other [] = refl
own_line_end other (c ∷ T) =
    ap (λ e. cond (eqb c carriage_return && begins is_line_feed T) CRLF
    (cond (is_line_feed c) SystemDefault e))
    (own_line_end other T)
    ∙ by (eqb c carriage_return && begins is_line_feed T) (is_line_feed c)
  where
    by : (x y : Bool) → cond x CRLF (cond y SystemDefault (unwrap_or (first_line_end T) other))
        ≡ unwrap_or (cond x (Some CRLF) (cond y (Some SystemDefault) (first_line_end T))) other
    by true y = refl
    by false true = refl
    by false false = refl

pub own_line_end_found : (other : LineSeparator) (front rest : Text) (s : LineEndSearch)
    → is_some s.found ≡ true → IsSearched front s
    → unwrap_or s.found other ≡ line_end_of other (front ++ rest)
own_line_end_found other front rest s some searched = by s.found refl some
  where
    by : (f : Option LineSeparator) → s.found ≡ f → is_some f ≡ true
        → unwrap_or s.found other ≡ line_end_of other (front ++ rest)
    by None is h = absurd (false≢true h)
    by (Some x) is h =
        ap (λ f. unwrap_or f other) is
        ∙ sym (own_line_end other (front ++ rest)
        ∙ ap (λ f. unwrap_or f other) (found_before front rest x (sym searched.found ∙ is)))
