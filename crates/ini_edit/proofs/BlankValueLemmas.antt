-- Blank lines that a multiline value takes: each is an empty line of the value, or blanks and a line end.
use Rattle.std.proofs.Common.{◌≡◌, ◌∙◌, ◌⊎◌, ◌==◌, ◌&&◌, ℕ, Bool, true, false, not, [], ◌∷◌, ◌++◌, ap}
use Rattle.std.proofs.Common.{append_assoc, eqb-true, inl, inr, refl, subst, sym}
use Rattle.std.proofs.lemmas.Bool.{and_from, and_parts, both_ways, false≢true, false_from_ne_true}
use Rattle.std.proofs.lemmas.Bool.{not_from_false, or_from, or_left, or_parts, or_right}
use Rattle.std.specs.List.{list_all}
use Rattle.ini_text.specs.Grammar.CharacterKinds.{BeginsWith, BeginsWithNo, carriage_return, is_blank}
use Rattle.ini_text.specs.Grammar.CharacterKinds.{is_comment_mark, is_inline_white, is_line_end, is_line_feed}
use Rattle.ini_text.specs.Grammar.CharacterKinds.{line_feed}
use Rattle.ini_text.specs.Grammar.Lines.{BeginsPlain, Line, LineTail, LineText, Quoted}
use Rattle.ini_text.specs.Grammar.Positions.{last_or}
use Rattle.ini_text.specs.Grammar.Strings.{Closes, Row, Str, plain_ends}
use Rattle.ini_text.specs.Grammar.Values.{GoesOn, LineEnd, MoreLines}
use Rattle.ini_text.specs.Grammar.WhiteSpace.{Lead}
use Rattle.ini_text.specs.Grammar.CharacterKinds.{begins}
use Rattle.ini_text.specs.declared.option.ParseOption.{ParseOption}
use Rattle.ini_text.proofs.GrammarLemmas.KindLemmas.{blank_inline, line_end_no_blank}
use Rattle.ini.specs.Texts.{Text}
use Rattle.ini_edit.specs.SourceLines.{is_blank_or_line_end, ends_line, has_lone_return}
use Rattle.ini_edit.proofs.BlankLineLemmas.{AreBlank}

all_inline : (w : Text) → list_all is_blank w ≡ true → list_all is_inline_white w ≡ true
all_inline [] all = refl
all_inline (x ∷ w) all =
    let parts = and_parts (is_blank x) (list_all is_blank w) all in
    and_from (is_inline_white x) _ (blank_inline x parts.0) (all_inline w parts.1)

all_more : (w : Text) (c : ℕ) → list_all is_blank w ≡ true → is_blank c ≡ true
    → list_all is_blank (w ++ c ∷ []) ≡ true
all_more [] c all blank = and_from (is_blank c) true blank refl
all_more (x ∷ w) c all blank =
    let parts = and_parts (is_blank x) (list_all is_blank w) all in
    and_from (is_blank x) _ parts.0 (all_more w c parts.1 blank)

begins_more : (w : Text) (c : ℕ) → BeginsWith is_blank w → BeginsWith is_blank (w ++ c ∷ [])
begins_more [] c some = absurd (false≢true (sym some))
begins_more (x ∷ w) c some = some

-- a line of nothing, before a line end
no_mark : (o : ParseOption) {e x : Text} → LineEnd e x → (y : Text) → BeginsPlain o (e ++ y)
no_mark o LineEnd.lf y = λ on. refl
no_mark o LineEnd.cr_lf y = λ on. refl
no_mark o (LineEnd.cr n) y = λ on. refl

closes : {e x : Text} → LineEnd e x → (y : Text) → Closes plain_ends (e ++ y)
closes LineEnd.lf y = refl
closes LineEnd.cr_lf y = refl
closes (LineEnd.cr n) y = refl

no_inline : {e x : Text} → LineEnd e x → (y : Text) → BeginsWithNo is_inline_white (e ++ y)
no_inline LineEnd.lf y = refl
no_inline LineEnd.cr_lf y = refl
no_inline (LineEnd.cr n) y = refl

no_comment : {e x : Text} → LineEnd e x → (y : Text) → BeginsWithNo is_comment_mark (e ++ y)
no_comment LineEnd.lf y = refl
no_comment LineEnd.cr_lf y = refl
no_comment (LineEnd.cr n) y = refl

module _ {o : ParseOption} where
  feed_more : {t x : Text} → AreBlank o t x → AreBlank o (line_feed ∷ t) x
  feed_more b = record { value = line_feed ∷ b.value; are = MoreLines.empty_lf b.are; all = b.all }

  crlf_more : {t x : Text} → AreBlank o t x → AreBlank o (carriage_return ∷ line_feed ∷ t) x
  crlf_more b = record { value = line_feed ∷ b.value; are = MoreLines.empty_cr_lf b.are; all = b.all }

  line_more : (w : Text) {e t x : Text} → BeginsWith is_blank w → list_all is_blank w ≡ true
      → LineEnd e (t ++ x)
      → AreBlank o t x → AreBlank o (w ++ (e ++ t)) x
  line_more w {e} {t} {x} some all end b =
      let lead : Lead w (e ++ (t ++ x)) = record {
        white = all_inline w all;
        ends = no_inline end
            (t ++ x);
      } in
      let goes : GoesOn o w (e ++ (t ++ x)) = record {
        begins = some;
        lead = lead;
        text = λ on. no_comment end (t ++ x);
      } in
      let line : Line o false [] (e ++ (t ++ x)) [] =
      Line.line
      (LineText.text Quoted.none (no_mark o end (t ++ x)) (Str.closed Row.none (closes end (t ++ x))))
      (LineTail.none (closes end (t ++ x))) in
      record {
        value = line_feed ∷ b.value;
        are = MoreLines.continued {l = []} goes line end b.are;
        all = b.all;
      }

  last_line : (w : Text) → BeginsWith is_blank w → list_all is_blank w ≡ true → AreBlank o (w ++ []) []
  last_line w some all =
      let lead : Lead w [] = record { white = all_inline w all; ends = tt } in
      let line : Line o false [] [] [] =
      Line.line (LineText.text Quoted.none (λ on. tt) (Str.closed Row.none refl)) (LineTail.none refl) in
      let goes : GoesOn o w [] = record { begins = some; lead = lead; text = λ on. tt } in
      record { value = line_feed ∷ []; are = MoreLines.last {l = []} goes line; all = refl }

-- the lines end with a line end, and what follows begins no line of a value; or nothing follows
abbrev pub EndBefore : (last : ℕ) → (lines x : Text) → Type 0
EndBefore last lines x = (x ≡ [])
    ⊎ ((is_line_end (last_or last lines) ≡ true) × BeginsWithNo is_blank x × BeginsWithNo is_line_end x)

no_feed : (x : Text) → (x ≡ []) ⊎ BeginsWithNo is_line_end x → BeginsWithNo is_line_feed x
no_feed [] h = tt
no_feed (c ∷ x) (inl none) = absurd (let no : c ∷ x ≡ [] = none in cc)
no_feed (c ∷ x) (inr other) = (or_parts (is_line_feed c) (c == carriage_return) other).0

follows : (last : ℕ) (lines x : Text) → EndBefore last lines x → (x ≡ []) ⊎ BeginsWithNo is_line_end x
follows last lines x (inl none) = inl none
follows last lines x (inr end) = inr end.2

-- where a line starts, or after blanks that begin it
data Stands : (start : Bool) → (last : ℕ) → Text → Type 0 where
  at_start : {d : ℕ} → Stands true d []
  after_blanks : {d : ℕ} {w : Text} → BeginsWith is_blank w → list_all is_blank w ≡ true → is_blank d ≡ true
      → Stands false d w

no_return : (c : ℕ) → is_blank c ≡ true → (c == carriage_return) ≡ false
no_return c blank =
    false_from_ne_true (c == carriage_return)
    (λ h. false≢true (subst (λ d. is_blank d ≡ true) (eqb-true c carriage_return h) blank))

no_end_line : (c : ℕ) (t : Text) → is_blank c ≡ true → ends_line c t ≡ false
no_end_line c t blank =
    let apart = false_from_ne_true (is_line_end c)
    (λ end. both_ways (is_blank c) (line_end_no_blank c end) blank) in
    or_from (is_line_feed c) _ (or_parts (is_line_feed c) (c == carriage_return) apart).0
    (ap (λ b. b && not (begins is_line_feed t)) (no_return c blank))

-- what is known once a character is passed
later_lone : (b : Bool) (c : ℕ) (t : Text) → has_lone_return b (c ∷ t) ≡ false
    → has_lone_return (ends_line c t) t ≡ false
later_lone b c t h = (or_parts (b && (c == carriage_return && not (begins is_line_feed t))) _ h).1

stands_more : {b : Bool} {d : ℕ} {w : Text} (c : ℕ) → is_blank c ≡ true → Stands b d w
    → Stands false c (w ++ c ∷ [])
stands_more c blank Stands.at_start = Stands.after_blanks blank (and_from _ _ blank refl) blank
stands_more {w = w} c blank (Stands.after_blanks some all last) =
    Stands.after_blanks (begins_more w c some) (all_more w c all blank) blank

module _ {o : ParseOption} {x : Text} where
  ends_here : {b : Bool} {d : ℕ} {w : Text} → Stands b d w → EndBefore d [] x → AreBlank o (w ++ []) x
  ends_here Stands.at_start (inl none) =
      subst (AreBlank o []) (sym none) (record { value = []; are = MoreLines.done tt tt; all = refl })
  ends_here Stands.at_start (inr end) =
      record { value = []; are = MoreLines.done end.1 end.2; all = refl }
  ends_here {w = w} (Stands.after_blanks some all last) (inl none) =
      subst (AreBlank o (w ++ [])) (sym none) (last_line w some all)
  ends_here {d = d} (Stands.after_blanks some all last) (inr end) =
      absurd (both_ways (is_blank d) (line_end_no_blank d end.0) last)

  feed_here : {b : Bool} {d : ℕ} {w : Text} (t : Text) → Stands b d w → AreBlank o t x
      → AreBlank o (w ++ line_feed ∷ t) x
  feed_here t Stands.at_start later = feed_more later
  feed_here {w = w} t (Stands.after_blanks some all last) later = line_more w some all LineEnd.lf later

  crlf_here : {b : Bool} {d : ℕ} {w : Text} (t : Text) → Stands b d w → AreBlank o t x
      → AreBlank o (w ++ carriage_return ∷ line_feed ∷ t) x
  crlf_here t Stands.at_start later = crlf_more later
  crlf_here {w = w} t (Stands.after_blanks some all last) later = line_more w some all LineEnd.cr_lf later

  return_here : {b : Bool} {d : ℕ} {w : Text} (t : Text) → Stands b d w
      → (b && not (begins is_line_feed t)) ≡ false → begins is_line_feed t ≡ false
      → BeginsWithNo is_line_feed (t ++ x)
      → AreBlank o t x → AreBlank o (w ++ carriage_return ∷ t) x
  return_here t Stands.at_start lone other none later =
      absurd (false≢true (sym lone ∙ not_from_false (begins is_line_feed t) other))
  return_here {w = w} t (Stands.after_blanks some all last) lone other none later =
      line_more w some all (LineEnd.cr none) later

  -- a CR ends a line, alone after blanks, and before LF
  return_by : (c : ℕ) (t : Text) {b : Bool} {d : ℕ} {w : Text} → (c == carriage_return) ≡ true → Stands b d w
      → (b && not (begins is_line_feed t)) ≡ false → has_lone_return (ends_line c t) t ≡ false
      → EndBefore c t x
      → ((b : Bool) (d : ℕ) (w : Text) → Stands b d w → has_lone_return b t ≡ false → EndBefore d t x
      → AreBlank o (w ++ t) x)
      → ((u : Text) → t ≡ line_feed ∷ u → has_lone_return true u ≡ false → EndBefore line_feed u x
      → AreBlank o u x)
      → AreBlank o (w ++ carriage_return ∷ t) x
  return_by c [] is stands here lone end next after =
      return_here [] stands here refl (no_feed x (follows c [] x end))
      (next true c [] Stands.at_start refl end)
  return_by c (e ∷ u) {w = w} is stands here lone end next after = by (is_line_feed e) refl
    where
      by : (y : Bool) → is_line_feed e ≡ y → AreBlank o (w ++ carriage_return ∷ e ∷ u) x
      by true feed =
          let same = eqb-true e line_feed feed in
          subst (λ z. AreBlank o (w ++ carriage_return ∷ z ∷ u) x) (sym same) (crlf_here u stands
          (after u (ap (λ z. z ∷ u) same)
          (subst (λ s. has_lone_return s u ≡ false) (or_left (is_line_feed e) _ feed)
          (later_lone (ends_line c (e ∷ u)) e u lone))
          (subst (λ z. EndBefore z u x) same end)))
      by false other =
          return_here (e ∷ u) stands here other other (next true c [] Stands.at_start
          (subst (λ s. has_lone_return s (e ∷ u) ≡ false)
          (or_right (is_line_feed c) _ (and_from _ _ is (not_from_false _ other))) lone) end)

  -- a walk over the lines, one character on
  step : (c : ℕ) (t : Text) {b : Bool} {d : ℕ} {w : Text} → Stands b d w
      → list_all is_blank_or_line_end (c ∷ t) ≡ true → has_lone_return b (c ∷ t) ≡ false
      → EndBefore d (c ∷ t) x
      → ((b : Bool) (d : ℕ) (w : Text) → Stands b d w → has_lone_return b t ≡ false → EndBefore d t x
      → AreBlank o (w ++ t) x)
      → ((u : Text) → t ≡ line_feed ∷ u → has_lone_return true u ≡ false → EndBefore line_feed u x
      → AreBlank o u x)
      → AreBlank o (w ++ c ∷ t) x
  step c t {b} {d} {w} stands all lone end next after =
      by (is_blank c) (is_line_feed c) (c == carriage_return) refl refl refl
    where
      lone_later : has_lone_return (ends_line c t) t ≡ false
      lone_later = later_lone b c t lone

      returns : (c == carriage_return) ≡ true → AreBlank o (w ++ carriage_return ∷ t) x
      returns is =
          let here = (or_parts (b && (c == carriage_return && not (begins is_line_feed t))) _ lone).0 in
          return_by c t is stands (subst (λ z. (b && (z && not (begins is_line_feed t))) ≡ false) is here)
          lone_later end next after

      by : (blank feed return : Bool) → is_blank c ≡ blank → is_line_feed c ≡ feed
          → (c == carriage_return) ≡ return → AreBlank o (w ++ c ∷ t) x
      by true feed return blank f r =
          subst (λ l. AreBlank o l x) (append_assoc w (c ∷ []) t)
          (next false c (w ++ c ∷ []) (stands_more c blank stands)
          (subst (λ e. has_lone_return e t ≡ false) (no_end_line c t blank) lone_later) end)
      by false true return blank f r =
          subst (λ z. AreBlank o (w ++ z ∷ t) x) (sym (eqb-true c line_feed f))
          (feed_here t stands (next true c [] Stands.at_start
          (subst (λ e. has_lone_return e t ≡ false) (or_left (is_line_feed c) _ f) lone_later) end))
      by false false true blank f r =
          subst (λ z. AreBlank o (w ++ z ∷ t) x) (sym (eqb-true c carriage_return r))
          (returns r)
      by false false false blank f r =
          absurd (both_ways (is_blank_or_line_end c) (or_from _ _ blank (or_from _ _ f r))
          (and_parts (is_blank_or_line_end c) _ all).0)

  walk : (t : Text) (b : Bool) (d : ℕ) (w : Text) → Stands b d w → list_all is_blank_or_line_end t ≡ true
      → has_lone_return b t ≡ false → EndBefore d t x → AreBlank o (w ++ t) x
  walk [] b d w stands all lone end = ends_here stands end
  walk (c ∷ []) b d w stands all lone end =
      step c [] stands all lone end (λ b d w stands lone end. walk [] b d w stands refl lone end)
      (λ u is lone end. absurd (let no : [] ≡ line_feed ∷ u = is in cc))
  walk (c ∷ e ∷ t) b d w stands all lone end =
      let later = (and_parts (is_blank_or_line_end c) _ all).1 in
      step c (e ∷ t) stands all lone end (λ b d w stands lone end. walk (e ∷ t) b d w stands later lone end)
      (λ u is lone end.
      let same : t ≡ u = cc in
      subst (λ v. AreBlank o v x) same (walk t true line_feed [] Stands.at_start
      (and_parts (is_blank_or_line_end e) _ later).1
      (subst (λ v. has_lone_return true v ≡ false) (sym same) lone)
      (subst (λ v. EndBefore line_feed v x) (sym same) end)))

-- blanks and line ends, none of them a CR alone in an empty line's place, are lines of a value
pub are_blank : {o : ParseOption} (lines x : Text) → list_all is_blank_or_line_end lines ≡ true
    → has_lone_return true lines ≡ false → EndBefore line_feed lines x → AreBlank o lines x
are_blank lines x all lone end = walk lines true line_feed [] Stands.at_start all lone end
