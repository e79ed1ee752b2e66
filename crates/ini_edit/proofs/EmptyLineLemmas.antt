-- Sources of blanks and line ends, which are no key, and texts that no backslash ends.
use Rattle.std.proofs.Common.{◌≡◌, ◌≢◌, ◌∙◌, ◌||◌, ◌==◌, ℕ, Bool, true, false, not, eqb, List, [], ◌∷◌, ◌++◌}
use Rattle.std.proofs.Common.{ap, eqb-true, if◌then◌else◌, refl, subst, sym}
use Rattle.std.proofs.lemmas.Bool.{and_from, and_left, and_parts, both_ways, false≢true}
use Rattle.std.proofs.lemmas.Bool.{false_from_ne_true, or_left, or_right}
use Rattle.std.specs.List.{list_all}
use Rattle.ini_text.specs.Grammar.CharacterKinds.{BeginsWith, backslash, is_blank, is_comment_mark}
use Rattle.ini_text.specs.Grammar.CharacterKinds.{is_line_end, line_feed, open_bracket}
use Rattle.ini_text.specs.Grammar.Keys.{begins_indented_key, begins_note}
use Rattle.ini_text.specs.Grammar.CharacterKinds.{begins}
use Rattle.ini_text.specs.Options.Backslashes.{begins_escape}
use Rattle.ini_text.specs.Options.ReadOptions.{backslash_of}
use Rattle.ini_text.specs.declared.option.ParseOption.{ParseOption}
use Rattle.ini_text.proofs.GrammarLemmas.KindLemmas.{comment_mark-apart}
use Rattle.ini.specs.Texts.{Text}
use Rattle.ini_edit.specs.Endings.{Closing, Ending, IsIndentedKey, ending_from, next_ending}

begins_yes : (test : ℕ → Bool) (x y : Text) → BeginsWith test x → begins test (x ++ y) ≡ true
begins_yes test [] y h = absurd (let no : true ≡ false = h in cc)
begins_yes test (c ∷ x) y h = h

-- blanks and line ends begin no indented key
blanks_no_key : (o : ParseOption) (key : Text) → list_all (λ c. is_blank c || is_line_end c) key ≡ true
    → ¬ BeginsWith (begins_indented_key o) key
blanks_no_key o [] all h = absurd (let no : true ≡ false = h in cc)
blanks_no_key o (c ∷ key) all h =
    at (is_blank c) (is_line_end c) (and_parts (is_blank c || is_line_end c) _ all).0 h
  where
    at : (x y : Bool) → (x || y) ≡ true → not (x || y || c == open_bracket || begins_note o c) ≡ true → ⊥
    at true y all h = absurd (let no : false ≡ true = h in cc)
    at false true all h = absurd (let no : false ≡ true = h in cc)
    at false false all h = absurd (let no : false ≡ true = all in cc)

-- an indented key's source begins with a blank
pub key_blank : {o : ParseOption} {c : ℕ} {s : Text} → IsIndentedKey o (c ∷ s) → is_blank c ≡ true
key_blank key = ap (begins is_blank) key.whole ∙ begins_yes is_blank key.blanks key.key key.some

-- blanks and line ends
abbrev pub blank_or_end : ℕ → Bool
blank_or_end c = is_blank c || is_line_end c

pub blanks_all : (w t : Text) → list_all is_blank w ≡ true → list_all blank_or_end t ≡ true
    → list_all blank_or_end (w ++ t) ≡ true
blanks_all [] t all more = more
blanks_all (c ∷ w) t all more =
    let parts = and_parts (is_blank c) (list_all is_blank w) all in
    and_from (blank_or_end c) _ (or_left (is_blank c) (is_line_end c) parts.0) (blanks_all w t parts.1 more)

all_after : (a b : Text) → list_all blank_or_end (a ++ b) ≡ true → list_all blank_or_end b ≡ true
all_after [] b all = all
all_after (c ∷ a) b all = all_after a b (and_parts (blank_or_end c) _ all).1

pub blank_source_no_key : {o : ParseOption} (s : Text) → list_all blank_or_end s ≡ true
    → ¬ IsIndentedKey o s
blank_source_no_key {o} s all key =
    blanks_no_key o key.key (all_after key.blanks key.key (ap (list_all blank_or_end) (sym key.whole) ∙ all))
    key.begins

-- one character is no indented key
one_no_key : (o : ParseOption) {c : ℕ} (blanks rest : Text) → BeginsWith is_blank blanks
    → BeginsWith (begins_indented_key o) rest → c ∷ [] ≢ blanks ++ rest
one_no_key o [] rest some starts is = absurd (let no : true ≡ false = some in cc)
one_no_key o blanks [] some starts is = absurd (let no : true ≡ false = starts in cc)
one_no_key o (b ∷ []) (k ∷ rest) some starts is = cc
one_no_key o (b ∷ d ∷ blanks) (k ∷ rest) some starts is = cc

pub character_no_key : {o : ParseOption} (c : ℕ) → ¬ IsIndentedKey o (c ∷ [])
character_no_key {o} c key = one_no_key o key.blanks key.key key.some key.begins key.whole

-- a line of blanks is none either
pub line_no_key : {o : ParseOption} (w : Text) (c : ℕ) → list_all is_blank w ≡ true → is_line_end c ≡ true
    → ¬ IsIndentedKey o (w ++ c ∷ [])
line_no_key w c blank end =
    blank_source_no_key (w ++ c ∷ [])
    (blanks_all w (c ∷ []) blank
    (and_from (blank_or_end c) true (or_right (is_blank c) (is_line_end c) end) refl))

-- nor are blanks and a note
blanks_then_mark : (o : ParseOption) (w : Text) (m : ℕ) (s blanks key : Text) → list_all is_blank w ≡ true
    → is_blank m ≡ false → begins_note o m ≡ true → list_all is_blank blanks ≡ true
    → BeginsWith (begins_indented_key o) key → w ++ m ∷ s ≢ blanks ++ key
blanks_then_mark o [] m s [] (k ∷ key) all apart note blank starts is =
    let same : m ≡ k = cc in
    let bracket = k == open_bracket in
    absurd (both_ways (begins_indented_key o k) (ap not (or_right (is_blank k || is_line_end k || bracket) _
    (subst (λ c. begins_note o c ≡ true) same note))) starts)
blanks_then_mark o w m s [] [] all apart note blank starts is = absurd (false≢true (sym starts))
blanks_then_mark o (c ∷ w) m s [] (k ∷ key) all apart note blank starts is =
    let same : c ≡ k = cc in
    let blank_there = subst (λ c. is_blank c ≡ true) same (and_parts (is_blank c) _ all).0 in
    blanks_no_key o (k ∷ []) (and_from (is_blank k || is_line_end k) true
    (or_left (is_blank k) (is_line_end k) blank_there) refl) starts
blanks_then_mark o [] m s (b ∷ blanks) key all apart note blank starts is =
    let same : m ≡ b = cc in
    both_ways (is_blank b) (subst (λ c. is_blank c ≡ false) same apart) (and_parts (is_blank b) _ blank).0
blanks_then_mark o (c ∷ w) m s (b ∷ blanks) key all apart note blank starts is =
    let rest : w ++ m ∷ s ≡ blanks ++ key = cc in
    blanks_then_mark o w m s blanks key (and_parts (is_blank c) _ all).1 apart note
    (and_parts (is_blank b) _ blank).1 starts rest

pub mark_source_no_key : {o : ParseOption} (w : Text) (m : ℕ) (s : Text) → list_all is_blank w ≡ true
    → o.enabled_indented_comment ≡ true → is_comment_mark m ≡ true → ¬ IsIndentedKey o (w ++ m ∷ s)
mark_source_no_key {o} w m s all on mark key =
    blanks_then_mark o w m s key.blanks key.key all (comment_mark-apart m mark).0
    (and_from o.enabled_indented_comment (is_comment_mark m) on mark) key.blank key.begins key.whole

-- only a backslash takes what follows it
pub no_escape : (o : ParseOption) (e : Ending) (X : List ℕ) (c : ℕ) → eqb c backslash ≡ false
    → ending_from o e (X ++ c ∷ []) ≢ Ending.escape
no_escape o e (x ∷ X) c h = no_escape o (next_ending o e x) X c h
no_escape o e [] c h = at e h
  where
    by : (x y : Bool) → x ≡ false
        → (if x then Ending.escape else (if y then Ending.line else Ending.inside)) ≢ Ending.escape
    by true y h is = cc
    by false true h is = cc
    by false false h is = cc

    at : (e : Ending) → eqb c backslash ≡ false → next_ending o e c ≢ Ending.escape
    at Ending.escape h is = cc
    at Ending.inside h is =
        by (begins_escape (backslash_of o) c) (eqb c line_feed) (and_left (eqb c backslash) _ h) is
    at Ending.line h is =
        by (begins_escape (backslash_of o) c) (eqb c line_feed) (and_left (eqb c backslash) _ h) is

pub no_backslash : (test : ℕ → Bool) (c : ℕ) → test backslash ≡ false → test c ≡ true
    → eqb c backslash ≡ false
no_backslash test c apart h =
    false_from_ne_true (eqb c backslash)
    (λ q. false≢true (sym apart ∙ subst (λ x. test x ≡ true) (eqb-true c backslash q) h))

pub closing_nothing : {o : ParseOption} (e : Ending) → e ≢ Ending.escape → Closing o e []
closing_nothing Ending.inside apart = Closing.within
closing_nothing Ending.escape apart = absurd (apart refl)
closing_nothing Ending.line apart = Closing.after_line
