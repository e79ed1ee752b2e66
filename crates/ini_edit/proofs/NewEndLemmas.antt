-- The line end of a new pair after a multiline value: where the value's own lines end with CR alone, it is
-- that, so that a comment behind them stays behind CR.
use Rattle.std.proofs.Common.{◌≡◌, ◌≢◌, ◌∙◌, ◌==◌, ◌&&◌, ℕ, Bool, true, false, not, [], ◌∷◌, ◌++◌, ap}
use Rattle.std.proofs.Common.{append-nil, arith, eqb-true, if◌then◌else◌, inl, inr, length, length-append}
use Rattle.std.proofs.Common.{refl, subst, sym}
use Rattle.std.proofs.lemmas.Bool.{and_cases, and_parts, both_ways, cases_Bool, cond-false, cond-true}
use Rattle.std.proofs.lemmas.Bool.{false≢true, not-true, or_cases, or_left, or_parts}
use Rattle.ini_text.specs.Grammar.CharacterKinds.{BeginsWith, BeginsWithNo, carriage_return, is_blank}
use Rattle.ini_text.specs.Grammar.CharacterKinds.{is_comment_mark, is_inline_white, is_line_end}
use Rattle.ini_text.specs.Grammar.CharacterKinds.{is_line_feed, line_feed}
use Rattle.ini_text.specs.Grammar.Keys.{begins_note}
use Rattle.ini_text.specs.Grammar.Places.{TrailingLines}
use Rattle.ini_text.specs.Grammar.Positions.{last_or}
use Rattle.ini_text.specs.Grammar.Values.{LineEnd}
use Rattle.ini_text.specs.Grammar.CharacterKinds.{begins}
use Rattle.ini_text.specs.Options.WriteOptions.{line_end}
use Rattle.ini_text.specs.declared.option.ParseOption.{ParseOption}
use Rattle.ini_text.specs.declared.write.option.LineSeparator.{LineSeparator}
use Rattle.ini_text.specs.declared.write.option.LineSeparator.TheVariants.{SystemDefault, CR, CRLF}
use Rattle.ini_text.proofs.LawLemmas.PieceLemmas.{last_or-append}
use Rattle.ini.specs.Texts.{Text}
use Rattle.ini_edit.specs.Places.{Follows}
use Rattle.ini_edit.specs.SourceEditsAdd.{notes_behind_return}
use Rattle.ini_edit.specs.SourceLines.{LinePlace, are_quiet, ends_in_line, ends_line, is_line}
use Rattle.ini_edit.specs.SourceLines.{line_end_at_end, next_place, next_within, quiet_lines_at_end}
use Rattle.ini_edit.specs.SourceLines.{quiet_lines_from}
use Rattle.ini_edit.proofs.BlankLineLemmas.{inside_apart, line_last, other_place, trailing_ends}
use Rattle.ini_edit.proofs.DeletedLinesLemmas.{end_last, end_of, own_of}
use Rattle.ini_edit.proofs.RestPutLemmas.{begins_not}
use Rattle.ini_edit.proofs.SourceAddLemmas.{IsNewEnd, feed_end, return_end}
use Rattle.ini_edit.proofs.SourceLineLemmas.{quiet_lines_at_end-rest, quiet_lines_from-rest, rest_le}

line_by : (b : Bool) (q : LinePlace) → is_line q ≡ false → is_line (if b then LinePlace.line else q) ≡ true
    → b ≡ true
line_by true q other h = refl
line_by false q other h = absurd (both_ways (is_line q) other h)

-- where a line starts one ends before
next_line : (o : ParseOption) (p : LinePlace) (c : ℕ) (cs : Text) → is_line (next_place o p c cs) ≡ true
    → ends_line c cs ≡ true
next_line o LinePlace.line c cs h =
    line_by (ends_line c cs) _ (other_place (is_blank c) LinePlace.lead (next_within o c) refl
    (inside_apart o c)) h
next_line o LinePlace.lead c cs h =
    line_by (ends_line c cs) _ (other_place (is_inline_white c) LinePlace.lead
    (if begins_note o c then LinePlace.note else next_within o c) refl
    (other_place (begins_note o c) LinePlace.note (next_within o c) refl (inside_apart o c))) h
next_line o LinePlace.within c cs h = line_by (ends_line c cs) _ (inside_apart o c) h
next_line o LinePlace.space c cs h =
    line_by (ends_line c cs) _ (other_place (o.enabled_inline_comment && is_comment_mark c) LinePlace.note
    (next_within o c) refl (inside_apart o c)) h
next_line o LinePlace.escape c cs h = absurd (false≢true h)
next_line o LinePlace.note c cs h =
    line_by (ends_line c cs) _ (other_place (is_line_end c) LinePlace.within LinePlace.note refl refl) h

-- quiet lines that are all of a text begin where a line starts
place_there : (o : ParseOption) (p : LinePlace) (t : Text) → quiet_lines_from o p t ≡ t → t ≢ []
    → is_line p ≡ true
place_there o p [] is some = absurd (some refl)
place_there o p (c ∷ cs) is some = by (is_line p && are_quiet o p (c ∷ cs)) refl is
  where
    later : Text
    later = quiet_lines_from o (next_place o p c cs) cs

    by : (b : Bool) → (is_line p && are_quiet o p (c ∷ cs)) ≡ b → (if b then c ∷ cs else later) ≡ c ∷ cs
        → is_line p ≡ true
    by true h is = (and_parts (is_line p) _ h).0
    by false h is =
        absurd (omega (
          arith,
          ap length is,
          rest_le cs later (quiet_lines_from-rest o (next_place o p c cs) cs),
        ))

-- no LF follows CR alone at the end of the lines before quiet ones
no_feed_after : (c : ℕ) (cs : Text) → c ≡ carriage_return → ends_line c cs ≡ true
    → BeginsWithNo is_line_feed cs
no_feed_after c cs is ends =
    elim (or_cases (is_line_feed c) (c == carriage_return && not (begins is_line_feed cs)) ends) [
      | inl feed ↦ absurd (false≢true (subst (λ x. is_line_feed x ≡ true) is feed))
      | inr both ↦
          begins_not is_line_feed cs (not-true _ (and_parts (c == carriage_return) _ both).1)
    ]

return_ahead : (o : ParseOption) (p : LinePlace) (t own : Text) → own ++ quiet_lines_from o p t ≡ t
    → quiet_lines_from o p t ≢ [] → own ≢ [] → last_or 0 own ≡ carriage_return
    → BeginsWithNo is_line_feed (quiet_lines_from o p t)
return_ahead o p [] own whole some nonempty last = absurd (some refl)
return_ahead o p (c ∷ cs) own whole some nonempty last =
    by (is_line p && are_quiet o p (c ∷ cs)) whole some
    (return_ahead o (next_place o p c cs) cs)
  where
    later : Text
    later = quiet_lines_from o (next_place o p c cs) cs

    none : (own : Text) → own ++ c ∷ cs ≡ c ∷ cs → own ≡ []
    none [] h = refl
    none (x ∷ own) h = absurd (omega (arith, ap length h, length-append own (c ∷ cs)))

    by : (b : Bool) → own ++ (if b then c ∷ cs else later) ≡ c ∷ cs → (if b then c ∷ cs else later) ≢ []
        → ((own : Text) → own ++ later ≡ cs → later ≢ [] → own ≢ [] → last_or 0 own ≡ carriage_return
        → BeginsWithNo is_line_feed later)
        → BeginsWithNo is_line_feed (if b then c ∷ cs else later)
    by true whole some more = absurd (nonempty (none own whole))
    by false whole some more = at own whole nonempty last
      where
        at : (own : Text) → own ++ later ≡ c ∷ cs → own ≢ [] → last_or 0 own ≡ carriage_return
            → BeginsWithNo is_line_feed later
        at [] whole nonempty last = absurd (nonempty refl)
        at (x ∷ []) whole nonempty last =
            let first : x ≡ c = cc in
            let all : later ≡ cs = cc in
            let there = place_there o (next_place o p c cs) cs all (λ h. some (all ∙ h)) in
            subst (BeginsWithNo is_line_feed) (sym all)
            (no_feed_after c cs (sym first ∙ last) (next_line o p c cs there))
        at (x ∷ y ∷ own) whole nonempty last =
            let rest : (y ∷ own) ++ later ≡ cs = cc in
            more (y ∷ own) rest some (λ h. let no : y ∷ own ≡ [] = h in cc) last

-- before a comment the lines after a value end with a line end
module _ {o : ParseOption} (on : o.enabled_indented_mutiline_value ≡ true) {t r : Text}
    (trailing : TrailingLines o t r) (mark : BeginsWith is_comment_mark r) where
  trailing_end : ends_in_line o t ≡ true
  trailing_end =
      trailing_ends (λ is. false≢true (sym (subst (BeginsWith is_comment_mark) is mark))) on trailing

  pub trailing_line_end : (c : ℕ) → is_line_end (last_or c t) ≡ true
  trailing_line_end c = line_last o LinePlace.within c t (λ inner. absurd (false≢true inner)) trailing_end

  pub trailing_last : (c d : ℕ) → last_or c t ≡ last_or d t
  trailing_last c d = at t trailing_end
    where
      at : (t : Text) → ends_in_line o t ≡ true → last_or c t ≡ last_or d t
      at [] ends = absurd (false≢true ends)
      at (x ∷ t) ends = refl

-- what a line end after the lines t of a value is, before r: with it comments stay where they are
pub record IsEndMore (o : ParseOption) (t r e : Text) : Type 0 where
  pub is_end : LineEnd e (quiet_lines_at_end o t ++ r)
  pub same : (c d : ℕ) → last_or c e ≡ last_or d e
  pub ends : (c : ℕ) → is_line_end (last_or c e) ≡ true
  pub column : BeginsWith is_comment_mark r → (c d : ℕ)
      → is_line_feed (last_or (last_or c e) (quiet_lines_at_end o t)) ≡ is_line_feed (last_or d t)

abbrev pub more_end : (o : ParseOption) → (end t : Text) → Text
more_end o end t =
    if notes_behind_return o && last_or line_feed (end_of o (own_of o t)) == carriage_return
    then carriage_return ∷ [] else end

some_before : (own q r : Text) (c : ℕ) → is_line_feed (last_or (last_or c own) q) ≡ is_line_feed
    (last_or c (own ++ q))
some_before own q r c = sym (ap is_line_feed (last_or-append c own q))

-- it is LF, or CR LF, or CR alone after a line that ends so
module _ {o : ParseOption} (on : o.enabled_indented_mutiline_value ≡ true) {t r : Text}
    (trailing : TrailingLines o t r) (follows : Follows o r) {d : ℕ} {ds : Text} (end : IsNewEnd d ds)
    (off_column : notes_behind_return o ≡ false → BeginsWith is_comment_mark r → (c : ℕ)
    → is_line_feed (last_or c t) ≡ true) where
  abbrev q : Text
  q = quiet_lines_at_end o t

  abbrev own : Text
  own = own_of o t

  own_whole : own ++ q ≡ t
  own_whole = quiet_lines_at_end-rest o t

  ended_last : (c : ℕ) → ends_in_line o own ≡ true → last_or line_feed (end_of o own) ≡ last_or c own
  ended_last c ends =
      let some : own ≢ [] = λ none. false≢true (subst (λ z. ends_in_line o z ≡ true) none ends) in
      ap (λ b. last_or line_feed (if not b then [] else line_end_at_end own)) ends
      ∙ end_last line_feed c own some
      (line_last o LinePlace.within c own (λ inner. absurd (false≢true inner)) ends)

  -- both last characters, where quiet lines are the last ones
  quiet_last : (e : Text) → q ≢ [] → (c d : ℕ)
      → is_line_feed (last_or (last_or c e) q) ≡ is_line_feed (last_or d t)
  quiet_last e some c d = at q refl
    where
      at : (x : Text) → q ≡ x → is_line_feed (last_or (last_or c e) q) ≡ is_line_feed (last_or d t)
      at [] is = absurd (some is)
      at (y ∷ x) is =
          ap (λ z. is_line_feed (last_or (last_or c e) z)) is
          ∙ sym (ap (λ z. is_line_feed (last_or (last_or d own) z)) is)
          ∙ some_before own q r d ∙ ap (λ z. is_line_feed (last_or d z)) own_whole

  all_own : q ≡ [] → own ≡ t
  all_own none = sym (append-nil own) ∙ ap (λ x. own ++ x) (sym none) ∙ own_whole

  cr_end : last_or line_feed (end_of o own) ≡ carriage_return → IsEndMore o t r (carriage_return ∷ [])
  cr_end is = record {
    is_end = LineEnd.cr (at q refl);
    same = λ c d. refl;
    ends = λ c. refl;
    column = λ mark c d. column q refl c d;
  }
    where
      own_ends : ends_in_line o own ≡ true
      own_ends = elim (cases_Bool (ends_in_line o own)) [
        | inl ends ↦ ends
        | inr inner ↦
            let no : line_feed ≡ carriage_return =
            sym (ap (λ b. last_or line_feed (if not b then [] else line_end_at_end own)) inner) ∙ is in
            absurd (omega (arith, no))
      ]

      at : (x : Text) → q ≡ x → BeginsWithNo is_line_feed (q ++ r)
      at [] none = subst (λ x. BeginsWithNo is_line_feed (x ++ r)) (sym none)
          (no_feed r (follows.no_line_end on))
        where
          no_feed : (r : Text) → BeginsWithNo is_line_end r → BeginsWithNo is_line_feed r
          no_feed [] h = tt
          no_feed (c ∷ r) h = (or_parts (is_line_feed c) (c == carriage_return) h).0
      at (y ∷ x) is_some =
          let there = return_ahead o LinePlace.within t own own_whole
          (λ none. let no : y ∷ x ≡ [] = sym is_some ∙ none in cc)
          (λ none. false≢true (subst (λ z. ends_in_line o z ≡ true) none own_ends))
          (sym (ended_last 0 own_ends) ∙ is) in
          subst (λ x. BeginsWithNo is_line_feed (x ++ r)) (sym is_some)
          (subst (BeginsWithNo is_line_feed) is_some there)

      column : (x : Text) → q ≡ x → (c d : ℕ)
          → is_line_feed (last_or (last_or c (carriage_return ∷ [])) q) ≡ is_line_feed (last_or d t)
      column [] none c d =
          ap (λ x. is_line_feed (last_or carriage_return x)) none
          ∙ ap is_line_feed (sym is ∙ ended_last d own_ends ∙ ap (last_or d) (all_own none))
      column (y ∷ x) is_some c d =
          quiet_last (carriage_return ∷ []) (λ none. let no : y ∷ x ≡ [] = sym is_some ∙ none in cc) c d

  given_end : (notes_behind_return o && last_or line_feed (end_of o own) == carriage_return) ≡ false
      → IsEndMore o t r (d ∷ ds)
  given_end other = record {
    is_end = end.is_end _;
    same = λ c d. refl;
    ends = λ c. or_left (is_line_feed (last_or d ds)) _ end.feed;
    column = λ mark c e. column mark q refl c e;
  }
    where
      feed : BeginsWith is_comment_mark r → q ≡ [] → (e : ℕ) → is_line_feed (last_or e t) ≡ true
      feed mark none e = elim (and_cases (notes_behind_return o) _ other) [
        | inl off ↦ off_column off mark e
        | inr apart ↦
            let ends = trailing_end on trailing mark in
            let own_ends = subst (λ z. ends_in_line o z ≡ true) (sym (all_own none)) ends in
            let last : last_or line_feed (end_of o own) ≡ last_or e t =
            ended_last e own_ends ∙ ap (last_or e) (all_own none) in
            elim (or_cases (is_line_feed (last_or e t)) (last_or e t == carriage_return)
            (trailing_line_end on trailing mark e)) [
              | inl is ↦ is
              | inr return ↦ absurd (both_ways (last_or e t == carriage_return)
                  (ap (λ c. c == carriage_return) (sym last) ∙ apart) return)
            ]
      ]

      column : BeginsWith is_comment_mark r → (x : Text) → q ≡ x → (c e : ℕ)
          → is_line_feed (last_or (last_or c (d ∷ ds)) q) ≡ is_line_feed (last_or e t)
      column mark [] none c e =
          ap (λ x. is_line_feed (last_or (last_or d ds) x)) none ∙ end.feed ∙ sym (feed mark none e)
      column mark (y ∷ x) is_some c e =
          quiet_last (d ∷ ds) (λ none. let no : y ∷ x ≡ [] = sym is_some ∙ none in cc) c e

  pub end_more : IsEndMore o t r (more_end o (d ∷ ds) t)
  end_more =
      elim (cases_Bool (notes_behind_return o && last_or line_feed (end_of o own) == carriage_return)) [
        | inl h ↦
            subst (IsEndMore o t r) (sym (cond-true _ _ _ h))
            (cr_end (eqb-true _ carriage_return (and_parts (notes_behind_return o) _ h).1))
        | inr h ↦ subst (IsEndMore o t r) (sym (cond-false _ _ _ h)) (given_end h)
      ]

-- the same of a line end as it is written
pub written_more : {o : ParseOption} (on : o.enabled_indented_mutiline_value ≡ true) {t r : Text}
    (trailing : TrailingLines o t r) (follows : Follows o r) (sep : LineSeparator)
    (off_column : notes_behind_return o ≡ false → BeginsWith is_comment_mark r → (c : ℕ)
    → is_line_feed (last_or c t) ≡ true)
    → IsEndMore o t r (more_end o (line_end sep) t)
written_more on trailing follows SystemDefault off = end_more on trailing follows feed_end off
written_more on trailing follows CR off = end_more on trailing follows feed_end off
written_more on trailing follows CRLF off = end_more on trailing follows return_end off
