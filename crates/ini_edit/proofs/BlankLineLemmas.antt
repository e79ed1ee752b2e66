-- Lines after a value, which give line feeds alone: the quiet ones at their end are lines of a value too.
use Rattle.std.proofs.Common.{◌≡◌, ◌≢◌, ◌∙◌, ◌==◌, ◌&&◌, ◌||◌, ℕ, Bool, true, false, not, [], ◌∷◌, ◌++◌, ap}
use Rattle.std.proofs.Common.{if◌then◌else◌, refl, subst, sym}
use Rattle.std.proofs.lemmas.Bool.{and_parts, both_ways, false≢true}
use Rattle.std.specs.List.{list_all}
use Rattle.ini_text.specs.Grammar.CharacterKinds.{BeginsWithNo, carriage_return, is_blank, is_comment_mark}
use Rattle.ini_text.specs.Grammar.CharacterKinds.{is_inline_white, is_line_end, is_line_feed, line_feed}
use Rattle.ini_text.specs.Grammar.Keys.{begins_note}
use Rattle.ini_text.specs.Grammar.Places.{TrailingLines}
use Rattle.ini_text.specs.Grammar.Positions.{last_or}
use Rattle.ini_text.specs.Grammar.Values.{MoreLines}
use Rattle.ini_text.specs.Grammar.CharacterKinds.{begins}
use Rattle.ini_text.specs.Options.Backslashes.{begins_escape}
use Rattle.ini_text.specs.Options.ReadOptions.{backslash_of}
use Rattle.ini_text.specs.declared.option.ParseOption.{ParseOption}
use Rattle.ini.specs.Texts.{Text}
use Rattle.ini_edit.specs.SourceLines.{LinePlace, are_quiet, ends_in_line, is_line, is_line_from, next_within}
use Rattle.ini_edit.specs.SourceLines.{next_place, quiet_lines_at_end, quiet_lines_from}
use Rattle.std.proofs.Common.{arith, length, length-append}
use Rattle.ini_edit.proofs.QuietWalkLemmas.{PassedLast, PassedLine, feeds_left, feeds_right, passed_comment}
use Rattle.ini_edit.proofs.QuietWalkLemmas.{passed_last, passed_last_comment, passed_line, past_end}
use Rattle.ini_edit.proofs.SourceLineLemmas.{quiet_lines_from-rest, rest_le}

-- lines of a value, which are line feeds alone
pub record AreBlank (o : ParseOption) (t x : Text) : Type 0 where
  pub value : Text
  pub are : MoreLines o t x value
  pub all : list_all is_line_feed value ≡ true

module _ {o : ParseOption} where
  -- where a line starts the quiet lines at the end are all, or those of what follows
  all_or_later : {x : Text} (c : ℕ) (cs : Text) → AreBlank o (c ∷ cs) x
      → AreBlank o (quiet_lines_from o (next_place o LinePlace.line c cs) cs) x
      → AreBlank o (quiet_lines_from o LinePlace.line (c ∷ cs)) x
  all_or_later {x} c cs whole later = at (are_quiet o LinePlace.line (c ∷ cs))
    where
      at : (b : Bool) → AreBlank o
          (if b then c ∷ cs else quiet_lines_from o (next_place o LinePlace.line c cs) cs) x
      at true = whole
      at false = later

  past_line : {s t x : Text} → PassedLine o s t → AreBlank o s x
      → AreBlank o (quiet_lines_from o LinePlace.line t) x
      → AreBlank o (quiet_lines_from o LinePlace.line s) x
  past_line {x = x} p whole later =
      subst (λ s. AreBlank o (quiet_lines_from o LinePlace.line s) x) (sym p.whole)
      (all_or_later p.head p.tail (subst (λ s. AreBlank o s x) p.whole whole)
      (subst (λ s. AreBlank o s x) (sym p.blank) later))

  pub no_lines : {x : Text} → BeginsWithNo is_blank x → BeginsWithNo is_line_end x → AreBlank o [] x
  no_lines blank end = record { value = []; are = MoreLines.done blank end; all = refl }

  past_last : {s : Text} → PassedLast o s → AreBlank o s []
      → AreBlank o (quiet_lines_from o LinePlace.line s) []
  past_last p whole =
      subst (λ s. AreBlank o (quiet_lines_from o LinePlace.line s) []) (sym p.whole)
      (all_or_later p.head p.tail (subst (λ s. AreBlank o s []) p.whole whole)
      (subst (λ s. AreBlank o s []) (sym p.blank) (no_lines tt tt)))

  pub blank_lines : {t x u : Text} → MoreLines o t x u → list_all is_line_feed u ≡ true
      → AreBlank o (quiet_lines_from o LinePlace.line t) x
  blank_lines (MoreLines.done blank end) all = no_lines blank end
  blank_lines (MoreLines.empty_lf {t = t} {v = v} more) all =
      all_or_later line_feed t (record { value = line_feed ∷ v; are = MoreLines.empty_lf more; all = all })
      (blank_lines more all)
  blank_lines (MoreLines.empty_cr_lf {t = t} {v = v} more) all =
      all_or_later carriage_return (line_feed ∷ t)
      (record { value = line_feed ∷ v; are = MoreLines.empty_cr_lf more; all = all }) (blank_lines more all)
  blank_lines (MoreLines.continued {w} {l} {e} {t} {r} {u} {v} goes ln end more) all =
      past_line (passed_line w l t r goes ln (feeds_left u v all) end)
      (record { value = line_feed ∷ (u ++ v); are = MoreLines.continued goes ln end more; all = all })
      (blank_lines more (feeds_right u v all))
  blank_lines (MoreLines.last {w} {l} {u} goes ln) all =
      past_last (passed_last w l goes ln all)
      (record { value = line_feed ∷ u; are = MoreLines.last goes ln; all = all })
  blank_lines (MoreLines.comment {t = t} {r} {v} noted end more) all =
      past_line (passed_comment t r noted end)
      (record { value = v; are = MoreLines.comment noted end more; all = all }) (blank_lines more all)
  blank_lines (MoreLines.last_comment noted) all =
      past_last (passed_last_comment noted)
      (record { value = []; are = MoreLines.last_comment noted; all = refl })

  -- lines that something follows end with a line end
  pub lines_end : {t x u : Text} → x ≢ [] → MoreLines o t x u → list_all is_line_feed u ≡ true
      → is_line_from o LinePlace.line t ≡ true
  lines_end some (MoreLines.done blank end) all = refl
  lines_end some (MoreLines.empty_lf more) all = lines_end some more all
  lines_end some (MoreLines.empty_cr_lf more) all = lines_end some more all
  lines_end some (MoreLines.continued {w} {l} {t = t} {r} {u} {v} goes ln end more) all =
      (passed_line w l t r goes ln (feeds_left u v all) end).line
      ∙ lines_end some more (feeds_right u v all)
  lines_end some (MoreLines.last goes ln) all = absurd (some refl)
  lines_end some (MoreLines.comment {t = t} {r} noted end more) all =
      (passed_comment t r noted end).line ∙ lines_end some more all
  lines_end some (MoreLines.last_comment noted) all = absurd (some refl)

  -- of the lines after a value the quiet ones at the end
  pub trailing_blank : {t x : Text} → o.enabled_indented_mutiline_value ≡ true → TrailingLines o t x
      → AreBlank o (quiet_lines_at_end o t) x
  trailing_blank on (TrailingLines.line off closes) =
      absurd (both_ways o.enabled_indented_mutiline_value off on)
  trailing_blank on (TrailingLines.end _) = no_lines tt tt
  trailing_blank on (TrailingLines.lines {t = t} {r = x} _ end more all) =
      subst (λ s. AreBlank o s x) (sym (past_end o t x end).0) (blank_lines more all)

  pub trailing_ends : {t x : Text} → x ≢ [] → o.enabled_indented_mutiline_value ≡ true → TrailingLines o t x
      → ends_in_line o t ≡ true
  trailing_ends some on (TrailingLines.line off closes) =
      absurd (both_ways o.enabled_indented_mutiline_value off on)
  trailing_ends some on (TrailingLines.end _) = absurd (some refl)
  trailing_ends some on (TrailingLines.lines {t = t} {r = x} _ end more all) =
      (past_end o t x end).1 ∙ lines_end some more all

-- where a walk says that a line ends, its last character ends one
ends_by : (x y z : Bool) (p : LinePlace) → is_line p ≡ false
    → is_line (if x || (y && z) then LinePlace.line else p) ≡ true → (x || y) ≡ true
ends_by true y z p other h = refl
ends_by false true z p other h = refl
ends_by false false z p other h = absurd (both_ways (is_line p) other h)

pub inside_apart : (o : ParseOption) (c : ℕ) → is_line (next_within o c) ≡ false
inside_apart o c = at (begins_escape (backslash_of o) c) (is_blank c)
  where
    at : (b d : Bool) → is_line (if b then LinePlace.escape
        else (if d then LinePlace.space else LinePlace.within)) ≡ false
    at true d = refl
    at false true = refl
    at false false = refl

pub other_place : (b : Bool) (p q : LinePlace) → is_line p ≡ false → is_line q ≡ false
    → is_line (if b then p else q) ≡ false
other_place true p q h k = h
other_place false p q h k = k

next_ends : (o : ParseOption) (p : LinePlace) (c : ℕ) (cs : Text) → is_line (next_place o p c cs) ≡ true
    → is_line_end c ≡ true
next_ends o LinePlace.line c cs h =
    ends_by (is_line_feed c) (c == carriage_return) (not (begins is_line_feed cs)) _
    (other_place (is_blank c) LinePlace.lead (next_within o c) refl (inside_apart o c)) h
next_ends o LinePlace.lead c cs h =
    ends_by (is_line_feed c) (c == carriage_return) (not (begins is_line_feed cs)) _
    (other_place (is_inline_white c) LinePlace.lead
    (if begins_note o c then LinePlace.note else next_within o c) refl
    (other_place (begins_note o c) LinePlace.note (next_within o c) refl (inside_apart o c))) h
next_ends o LinePlace.within c cs h =
    ends_by (is_line_feed c) (c == carriage_return) (not (begins is_line_feed cs)) _ (inside_apart o c) h
next_ends o LinePlace.space c cs h =
    ends_by (is_line_feed c) (c == carriage_return) (not (begins is_line_feed cs)) _
    (other_place (o.enabled_inline_comment && is_comment_mark c) LinePlace.note (next_within o c) refl
    (inside_apart o c)) h
next_ends o LinePlace.escape c cs h = absurd (false≢true h)
next_ends o LinePlace.note c cs h =
    ends_by (is_line_feed c) (c == carriage_return) (not (begins is_line_feed cs)) _
    (other_place (is_line_end c) LinePlace.within LinePlace.note refl refl) h

pub line_last : (o : ParseOption) (p : LinePlace) (d : ℕ) (t : Text)
    → (is_line p ≡ true → is_line_end d ≡ true)
    → is_line_from o p t ≡ true → is_line_end (last_or d t) ≡ true
line_last o p d [] h is = h is
line_last o p d (c ∷ t) h is = line_last o (next_place o p c t) c t (next_ends o p c t) is

-- the quiet lines at the end are quiet
pub quiet_all : (o : ParseOption) (p : LinePlace) (t : Text)
    → are_quiet o LinePlace.line (quiet_lines_from o p t) ≡ true
quiet_all o p [] = refl
quiet_all o p (c ∷ cs) =
    at p (are_quiet o p (c ∷ cs)) refl (quiet_all o (next_place o p c cs) cs)
  where
    at : (p : LinePlace) (b : Bool) → are_quiet o p (c ∷ cs) ≡ b
        → are_quiet o LinePlace.line (quiet_lines_from o (next_place o p c cs) cs) ≡ true
        → are_quiet o LinePlace.line (if is_line p && b then c ∷ cs
        else quiet_lines_from o (next_place o p c cs) cs) ≡ true
    at LinePlace.line true is rest = is
    at LinePlace.line false is rest = rest
    at LinePlace.lead b is rest = rest
    at LinePlace.within b is rest = rest
    at LinePlace.space b is rest = rest
    at LinePlace.escape b is rest = rest
    at LinePlace.note b is rest = rest

-- where quiet lines begin a line starts
pub own_ends : (o : ParseOption) (p : LinePlace) (t own : Text) → quiet_lines_from o p t ≢ []
    → own ++ quiet_lines_from o p t ≡ t → is_line_from o p own ≡ true
own_ends o p [] own some whole = absurd (some refl)
own_ends o p (c ∷ cs) own some whole =
    by (is_line p && are_quiet o p (c ∷ cs)) refl some whole (own_ends o (next_place o p c cs) cs)
  where
    later : Text
    later = quiet_lines_from o (next_place o p c cs) cs

    none : (own : Text) → own ++ c ∷ cs ≡ c ∷ cs → own ≡ []
    none [] h = refl
    none (x ∷ own) h = absurd (omega (arith, ap length h, length-append own (c ∷ cs)))

    -- the walk over a front sees what follows its last character alone
    same : (own : Text) → own ++ later ≡ cs → is_line_from o (next_place o p c cs) own ≡ true
        → is_line_from o (next_place o p c own) own ≡ true
    same (x ∷ own) whole ends =
        at p (subst (λ t. is_line_from o (next_place o p c t) (x ∷ own) ≡ true) (sym whole) ends)
      where
        at : (p : LinePlace) → is_line_from o (next_place o p c (x ∷ (own ++ later))) (x ∷ own) ≡ true
            → is_line_from o (next_place o p c (x ∷ own)) (x ∷ own) ≡ true
        at LinePlace.line h = h
        at LinePlace.lead h = h
        at LinePlace.within h = h
        at LinePlace.space h = h
        at LinePlace.escape h = h
        at LinePlace.note h = h
    same [] whole ends = at p ends
      where
        more : (x y z : Bool) (q : LinePlace)
            → is_line (if x || (y && not z) then LinePlace.line else q) ≡ true
            → is_line (if x || (y && true) then LinePlace.line else q) ≡ true
        more true y z q h = refl
        more false true z q h = refl
        more false false z q h = h

        at : (p : LinePlace) → is_line (next_place o p c cs) ≡ true → is_line (next_place o p c []) ≡ true
        at LinePlace.line h =
            more (is_line_feed c) (c == carriage_return) (begins is_line_feed cs)
            (if is_blank c then LinePlace.lead else next_within o c) h
        at LinePlace.lead h =
            more (is_line_feed c) (c == carriage_return) (begins is_line_feed cs)
            (if is_inline_white c then LinePlace.lead
            else (if begins_note o c then LinePlace.note else next_within o c)) h
        at LinePlace.within h =
            more (is_line_feed c) (c == carriage_return) (begins is_line_feed cs) (next_within o c) h
        at LinePlace.space h =
            more (is_line_feed c) (c == carriage_return) (begins is_line_feed cs)
            (if o.enabled_inline_comment && is_comment_mark c then LinePlace.note else next_within o c) h
        at LinePlace.escape h = h
        at LinePlace.note h =
            more (is_line_feed c) (c == carriage_return) (begins is_line_feed cs)
            (if is_line_end c then LinePlace.within else LinePlace.note) h

    by : (b : Bool) → (is_line p && are_quiet o p (c ∷ cs)) ≡ b
        → (if b then c ∷ cs else later) ≢ [] → own ++ (if b then c ∷ cs else later) ≡ c ∷ cs
        → ((own : Text) → later ≢ [] → own ++ later ≡ cs
        → is_line_from o (next_place o p c cs) own ≡ true)
        → is_line_from o p own ≡ true
    by true is some whole further =
        subst (λ t. is_line_from o p t ≡ true) (sym (none own whole))
        (and_parts (is_line p) (are_quiet o p (c ∷ cs)) is).0
    by false is some whole further = at own whole
      where
        at : (own : Text) → own ++ later ≡ c ∷ cs → is_line_from o p own ≡ true
        at [] whole =
            absurd (omega (
              arith,
              ap length whole,
              rest_le cs later (quiet_lines_from-rest o (next_place o p c cs) cs),
            ))
        at (x ∷ own) whole =
            let first : x ≡ c = cc in
            let rest : own ++ later ≡ cs = cc in
            subst (λ x. is_line_from o (next_place o p x own) own ≡ true) (sym first)
            (same own rest (further own some rest))
