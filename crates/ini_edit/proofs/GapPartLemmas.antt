-- A gap that nothing but an item follows: in two parts, cut where a line starts, and before any other text.
use Rattle.std.proofs.Common.{◌≡◌, ◌≢◌, ◌∙◌, ◌&&◌, ℕ, Bool, true, not, List, [], ◌∷◌, ◌++◌, ap}
use Rattle.std.proofs.Common.{append_assoc, append-nil, inl, inr, refl, subst, sym}
use Rattle.std.proofs.lemmas.Bool.{and_from, and_parts, both_ways, cases_Bool, cond-false, cond-true}
use Rattle.std.proofs.lemmas.Bool.{false≢true, not-true, or_left}
use Rattle.std.proofs.lemmas.List.Folds.{list_all-append}
use Rattle.std.specs.List.{list_all}
use Rattle.ini_text.specs.Grammar.CharacterKinds.{BeginsWith, is_blank, is_comment_mark, is_line_end}
use Rattle.ini_text.specs.Grammar.CharacterKinds.{is_line_feed, line_feed}
use Rattle.ini_text.specs.Grammar.Elements.{Element}
use Rattle.ini_text.specs.Grammar.Pieces.{ArePieces, Piece, pieces_items, pieces_text}
use Rattle.ini_text.specs.Grammar.Positions.{last_or}
use Rattle.ini_text.specs.Laws.PieceLaws.{BeginAlike}
use Rattle.ini_text.specs.declared.option.ParseOption.{ParseOption}
use Rattle.ini_text.proofs.GrammarLemmas.KindLemmas.{line_end_no_blank}
use Rattle.ini_text.proofs.LawLemmas.LocalLemmas.{Element-before}
use Rattle.ini_text.proofs.LawLemmas.PieceLemmas.{last_or-append}
use Rattle.ini.specs.Texts.{Text}
use Rattle.ini_edit.specs.Inside.Spans.{IsGap}
use Rattle.ini_edit.specs.SourceLines.{indentation_at_end}
use Rattle.ini_edit.proofs.EndingLemmas.{no_feed_by}
use Rattle.ini_edit.proofs.GapLemmas.{empty_front}
use Rattle.ini_edit.proofs.QuietLemmas.{Free, Quiet, as_quiet, free, note_ahead, note_line_within}

-- of two ways to part a text one goes further
pub data Halves (k m s t : Text) : Type 0 where
  past : (more : Text) → k ≡ s ++ more → more ++ m ≡ t → Halves k m s t
  within : (x : ℕ) (more : Text) → s ≡ k ++ x ∷ more → m ≡ x ∷ (more ++ t) → Halves k m s t

pub halves : (k m s t : Text) → k ++ m ≡ s ++ t → Halves k m s t
halves k m [] t h = Halves.past k refl h
halves [] m (x ∷ s) t h = Halves.within x s refl h
halves (y ∷ k) m (x ∷ s) t h =
    let same : y ≡ x = cc in
    let rest : k ++ m ≡ s ++ t = cc in
    at same (halves k m s t rest)
  where
    at : y ≡ x → Halves k m s t → Halves (y ∷ k) m (x ∷ s) t
    at same (Halves.past more is also) =
        Halves.past more (ap (λ z. y ∷ z) is ∙ ap (λ z. z ∷ (s ++ more)) same) also
    at same (Halves.within z more is also) =
        Halves.within z more (ap (λ w. x ∷ w) is ∙ ap (λ w. w ∷ (k ++ z ∷ more)) (sym same)) also

pub some_within : (k : Text) (x : ℕ) (more : Text) → (k ++ x ∷ more) ≢ []
some_within [] x more h = cc
some_within (y ∷ k) x more h = cc

pub some_before : (s r : Text) → r ≢ [] → (s ++ r) ≢ []
some_before [] r some h = some h
some_before (c ∷ s) r some h = cc

-- what holds of all of a text holds of its front, and of its last character
pub all_front : (test : ℕ → Bool) (s t : Text) → list_all test (s ++ t) ≡ true → list_all test s ≡ true
all_front test s t h =
    (and_parts (list_all test s) (list_all test t) (sym (list_all-append test s t) ∙ h)).0

pub all_last : (test : ℕ → Bool) (c : ℕ) (s : Text) → list_all test (c ∷ s) ≡ true
    → test (last_or c s) ≡ true
all_last test c [] h = (and_parts (test c) true h).0
all_last test c (d ∷ s) h = all_last test d s (and_parts (test c) (list_all test (d ∷ s)) h).1

-- and of what stands before the last
all_before : (test : ℕ → Bool) (k w : Text) (x z : ℕ) (more : Text) → w ++ z ∷ [] ≡ k ++ x ∷ more
    → list_all test w ≡ true → list_all test k ≡ true
all_before test [] w x z more h all = refl
all_before test (y ∷ k) [] x z more h all =
    let none : [] ≡ k ++ x ∷ more = cc in absurd (some_within k x more (sym none))
all_before test (y ∷ k) (a ∷ w) x z more h all =
    let same : a ≡ y = cc in
    let rest : w ++ z ∷ [] ≡ k ++ x ∷ more = cc in
    let parts = and_parts (test a) (list_all test w) all in
    and_from (test y) (list_all test k) (subst (λ c. test c ≡ true) same parts.0)
    (all_before test k w x z more rest parts.1)

-- A line starts after this character, and no comment goes on there: LF stands there, or no LF follows.
pub data LineStarts (d : ℕ) (m : Text) : Type 0 where
  by_feed : is_line_feed d ≡ true → LineStarts d m
  before_no_feed : is_line_end d ≡ true → list_all (λ c. not (is_line_feed c)) m ≡ true → LineStarts d m

pub starts_end : {d : ℕ} {m : Text} → LineStarts d m → is_line_end d ≡ true
starts_end {d} (LineStarts.by_feed feed) = or_left (is_line_feed d) _ feed
starts_end (LineStarts.before_no_feed end none) = end

starts_front : {d : ℕ} (m t : Text) → LineStarts d (m ++ t) → LineStarts d m
starts_front m t (LineStarts.by_feed feed) = LineStarts.by_feed feed
starts_front m t (LineStarts.before_no_feed end none) =
    LineStarts.before_no_feed end (all_front (λ c. not (is_line_feed c)) m t none)

pub no_blank_end : {X : Type 0} (d : ℕ) → is_line_end d ≡ true → is_blank d ≡ true → X
no_blank_end d end blank = absurd (both_ways (is_blank d) (line_end_no_blank d end) blank)

-- no element that gives nothing goes over such a place
abbrev is_other : ℕ → Bool
is_other c = not (is_line_feed c)

abbrev no_end : ℕ → Bool
no_end c = not (is_line_end c)

no_comment : (y : ℕ) (k : Text) (x : ℕ) (more : Text) (m : ℕ) (s : Text)
    → m ∷ (s ++ line_feed ∷ []) ≡ y ∷ (k ++ x ∷ more) → is_comment_mark m ≡ true
    → list_all is_other s ≡ true → LineStarts (last_or y k) (x ∷ more) → ⊥
no_comment y k x more m s is mark all (LineStarts.by_feed feed) =
    let no_feed = no_feed_by is_comment_mark m refl mark in
    let before = all_before is_other (y ∷ k) (m ∷ s) x line_feed more is
    (and_from (is_other m) (list_all is_other s) (ap not no_feed) all) in
    both_ways (is_line_feed (last_or y k)) (not-true _ (all_last is_other y k before)) feed
no_comment y k x more m s is mark all (LineStarts.before_no_feed end other) =
    let last : line_feed ≡ last_or x more =
    sym (last_or-append m s (line_feed ∷ [])) ∙ ap (last_or 0) is ∙ last_or-append y k (x ∷ more) in
    false≢true (subst (λ c. is_other c ≡ true) (sym last) (all_last is_other x more other))

module _ {o : ParseOption} {b : Text} (y : ℕ) (k : Text) (x : ℕ) (more : Text) where
  pub no_element : {s z : Text} → Quiet o b s z → s ≡ y ∷ (k ++ x ∷ more) → z ≢ []
      → LineStarts (last_or y k) (x ∷ more) → ⊥
  no_element (Quiet.anywhere (Free.line {w = w} c i q)) is some starts =
      no_blank_end (last_or y k) (starts_end starts)
      (all_last is_blank y k (all_before is_blank (y ∷ k) w x c more is i.blank))
  no_element (Quiet.before_header {w = w} i) is some starts =
      no_blank_end (last_or y k) (starts_end starts)
      (all_last is_blank y k (all_front is_blank (y ∷ k) (x ∷ more)
      (subst (λ t. list_all is_blank t ≡ true) is i.blank)))
  no_element (Quiet.anywhere (Free.white {c = c} q n)) is some starts =
      let rest : [] ≡ k ++ x ∷ more = cc in some_within k x more (sym rest)
  no_element (Quiet.anywhere (Free.comment {m = m} s one mark all)) is some starts =
      no_comment y k x more m s is mark all starts
  no_element (Quiet.at_end tail) is some starts = some refl
  no_element (Quiet.at_line_end {w = w} {s = s} front remark) is some starts =
      let all = subst (λ t. list_all no_end t ≡ true) is (note_line_within front remark) in
      both_ways (is_line_end (last_or y k))
      (not-true _ (all_last no_end y k (all_front no_end (y ∷ k) (x ∷ more) all))) (starts_end starts)

-- both parts are elements that give nothing
pub record Parts (o : ParseOption) (c : ℕ) (k m r : Text) : Type 0 where
  pub front : IsGap o c k (m ++ r)
  pub rest : IsGap o (last_or c k) m r

module _ {o : ParseOption} where
  parts_of : {c : ℕ} {r : Text} (k m : Text) (ps : List Piece) → k ++ m ≡ pieces_text ps
      → pieces_items ps ≡ [] → ArePieces o c ps r → r ≢ [] → LineStarts (last_or c k) m
      → Parts o c k m r
  parts_of [] m ps whole none are some starts = record {
    front = record { pieces = []; whole = refl; nothing = refl; are = ArePieces.none };
    rest = record { pieces = ps; whole = whole; nothing = none; are = are };
  }
  parts_of (y ∷ k) m [] whole none are some starts = absurd (let no : y ∷ (k ++ m) ≡ [] = whole in cc)
  parts_of {c} {r} (y ∷ k) m (p ∷ ps) whole none (ArePieces.more e rest) some starts =
      let nothing = empty_front p.gives (pieces_items ps) none in
      at (halves (y ∷ k) m p.source (pieces_text ps) whole) nothing.0
      (λ more also starts. parts_of {c = last_or c p.source} more m ps also nothing.1 rest some starts)
    where
      at : Halves (y ∷ k) m p.source (pieces_text ps) → p.gives ≡ []
          → ((more : Text) → more ++ m ≡ pieces_text ps → LineStarts (last_or (last_or c p.source) more) m
          → Parts o (last_or c p.source) more m r) → Parts o c (y ∷ k) m r
      at (Halves.past more is also) nothing later =
          let last : last_or c (y ∷ k) ≡ last_or (last_or c p.source) more =
          ap (last_or c) is ∙ last_or-append c p.source more in
          let parts = later more also (subst (λ d. LineStarts d m) last starts) in
          let following : pieces_text ps ++ r ≡ pieces_text parts.front.pieces ++ (m ++ r) =
          ap (λ t. t ++ r) (sym also) ∙ append_assoc more m r
          ∙ ap (λ t. t ++ (m ++ r)) parts.front.whole in
          record {
            front = record {
              pieces = p ∷ parts.front.pieces;
              whole = is ∙ ap (λ t. p.source ++ t) parts.front.whole;
              nothing = ap (λ l. l ++ pieces_items parts.front.pieces) nothing ∙ parts.front.nothing;
              are = ArePieces.more (subst (λ t. Element o (c ∷ []) p.source t p.gives) following e)
                  parts.front.are;
            };
            rest = subst (λ z. IsGap o z m r) (sym last) parts.rest;
          }
      at (Halves.within x more is also) nothing later =
          absurd (no_element y k x more (as_quiet e nothing) is (some_before (pieces_text ps) r some)
          (starts_front (x ∷ more) (pieces_text ps)
          (subst (LineStarts (last_or y k)) also starts)))

  -- a gap is cut where a line starts
  pub gap_parts : {c : ℕ} {r : Text} (k m : Text) → r ≢ [] → LineStarts (last_or c k) m
      → IsGap o c (k ++ m) r → Parts o c k m r
  gap_parts k m some starts h = parts_of k m h.pieces h.whole h.nothing h.are some starts

  pub gap_nothing : {c : ℕ} {r : Text} → IsGap o c [] r
  gap_nothing = record { pieces = []; whole = refl; nothing = refl; are = ArePieces.none }

-- blanks at the end that begin a line
pub indentation_after : (b : ℕ) (s t : Text) → indentation_at_end b (s ++ t) ≡ []
    → indentation_at_end (last_or b s) t ≡ []
indentation_after b [] t h = h
indentation_after b (c ∷ s) t h =
    elim (cases_Bool (is_line_end b && list_all is_blank (c ∷ (s ++ t)))) [
      | inl is ↦
          let no : c ∷ (s ++ t) ≡ [] = sym (cond-true _ _ _ is) ∙ h in cc
      | inr other ↦ indentation_after c s t (sym (cond-false _ _ _ other) ∙ h)
    ]

indented_end : (b : ℕ) (w : Text) → is_line_end b ≡ true → list_all is_blank w ≡ true
    → indentation_at_end b w ≡ w
indented_end b [] end blank = refl
indented_end b (c ∷ w) end blank =
    cond-true (is_line_end b && list_all is_blank (c ∷ w)) _ _ (and_from (is_line_end b) _ end blank)

module _ {o : ParseOption} where
  -- an element before an item, whatever follows it, where no blanks indent that
  quiet_any : {c : ℕ} {s y : Text} (x : Text) → Quiet o (c ∷ []) s y → BeginsWith no_end y
      → indentation_at_end c s ≡ [] → Element o (c ∷ []) s x []
  quiet_any x (Quiet.anywhere e) some bare = free x e
  quiet_any {c} x (Quiet.before_header {w = w} i) some bare =
      let empty : w ≡ [] = sym (indented_end c w i.at_line_start i.blank) ∙ bare in
      absurd (false≢true (sym (subst (BeginsWith is_blank) empty i.some)))
  quiet_any x (Quiet.at_end tail) some bare = absurd (false≢true (sym some))
  quiet_any {y = y} x (Quiet.at_line_end front remark) some bare = note_ahead y remark some

  pieces_any : {c : ℕ} {y x : Text} (ps : List Piece) → pieces_items ps ≡ [] → BeginsWith no_end y
      → indentation_at_end c (pieces_text ps) ≡ [] → ArePieces o c ps y → ArePieces o c ps x
  pieces_any [] none some bare ArePieces.none = ArePieces.none
  pieces_any {c} {y} {x} (p ∷ ps) none some bare (ArePieces.more e rest) =
      let nothing = empty_front p.gives (pieces_items ps) none in
      ArePieces.more (at (pieces_text ps) nothing.0 bare e)
      (pieces_any {c = last_or c p.source} ps nothing.1 some
      (indentation_after c p.source (pieces_text ps) bare) rest)
    where
      at : (t : Text) → p.gives ≡ [] → indentation_at_end c (p.source ++ t) ≡ []
          → Element o (c ∷ []) p.source (t ++ y) p.gives → Element o (c ∷ []) p.source (t ++ x) p.gives
      at [] none bare e =
          subst (Element o (c ∷ []) p.source x) (sym none)
          (quiet_any x (as_quiet e none) some
          (ap (indentation_at_end c) (sym (append-nil p.source)) ∙ bare))
      at (d ∷ t) none bare e = Element-before BeginAlike.character e

  -- a gap that an item follows stands before any other text, where no blanks at its end indent that
  pub gap_any : {c : ℕ} {k y : Text} (x : Text) → BeginsWith (λ c. not (is_line_end c)) y
      → indentation_at_end c k ≡ [] → IsGap o c k y → IsGap o c k x
  gap_any {c} x some bare h = record {
    pieces = h.pieces;
    whole = h.whole;
    nothing = h.nothing;
    are = pieces_any h.pieces h.nothing some (ap (indentation_at_end c) (sym h.whole) ∙ bare) h.are;
  }
