-- Lines and columns after two texts in a row.
use Rattle.std.proofs.Common.{◌≡◌, ◌∙◌, ℕ, ◌+◌, ◌<◌, ◌≤◌, ◌^◌, Bool, true, false, cond, List, [], ◌∷◌}
use Rattle.std.proofs.Common.{◌++◌, length, refl, sym, ap, arith}
use Rattle.std.proofs.Common.{count_by, rules, length-append, append_assoc, append-nil, subst}
use Rattle.std.proofs.lemmas.List.Sums.{count_by-le-length}
use Rattle.std.proofs.lemmas.Bool.{cond-true, cond-false}
use Rattle.std.specs.List.{list_any, fold}
use Rattle.ini_text.specs.Grammar.CharacterKinds.{is_line_feed}
use Rattle.ini_text.specs.Grammar.Positions.{column_of}
use Rattle.ini_text.proofs.StringLemmas.PositionLemmas.{column_from, column-front}
use Rattle.ini_check.specs.Inside.Positions.{HasRoom, IsAt}
use Rattle.ini_check.specs.declared.position.Position.{Position}

-- a character that is no LF is a column more
any-cons : (c : ℕ) (cs : List ℕ) (x y : Bool) → is_line_feed c ≡ x → list_any is_line_feed cs ≡ y
    → list_any is_line_feed (c ∷ cs) ≡ cond x true y
any-cons c cs x y is any = search rules

pub column-other : (n c : ℕ) (cs : List ℕ) → is_line_feed c ≡ false
    → column_from n (c ∷ cs) ≡ column_from (n + 1) cs
column-other n c cs is = at (list_any is_line_feed cs) refl
  where
    at : (b : Bool) → list_any is_line_feed cs ≡ b → column_from n (c ∷ cs) ≡ column_from (n + 1) cs
    at true any =
        let both = any-cons c cs false true is any in
        cond-true (list_any is_line_feed (c ∷ cs)) _ _ both
        ∙ ap (λ l. 1 + length l) (cond-true (list_any is_line_feed (c ∷ cs)) _ _ both)
        ∙ sym (cond-true (list_any is_line_feed cs) _ _ any)
    at false any =
        let none = any-cons c cs false false is any in
        cond-false (list_any is_line_feed (c ∷ cs)) _ _ none
        ∙ omega arith
        ∙ sym (cond-false (list_any is_line_feed cs) _ _ any)

-- an LF begins a line
pub column-line : (n c : ℕ) (cs : List ℕ) → is_line_feed c ≡ true → column_from n (c ∷ cs) ≡ column_from 1 cs
column-line n c cs is = at (list_any is_line_feed cs) refl
  where
    any : (y : Bool) → list_any is_line_feed cs ≡ y → list_any is_line_feed (c ∷ cs) ≡ true
    any y h = any-cons c cs true y is h

    at : (b : Bool) → list_any is_line_feed cs ≡ b → column_from n (c ∷ cs) ≡ column_from 1 cs
    at b h =
        cond-true (list_any is_line_feed (c ∷ cs)) _ _ (any b h)
        ∙ ap (λ l. 1 + length l) (cond-true (list_any is_line_feed (c ∷ cs)) _ _ (any b h))
        ∙ sym (column-front cs)

-- the column after two texts
pub column-append : (n : ℕ) (b p : List ℕ) → column_from n (b ++ p) ≡ column_from (column_from n b) p
column-append n [] p = ap (λ m. column_from m p) (omega arith)
column-append n (c ∷ b) p = at (is_line_feed c) refl (λ m. column-append m b p)
  where
    at : (x : Bool) → is_line_feed c ≡ x
        → ((m : ℕ) → column_from m (b ++ p) ≡ column_from (column_from m b) p)
        → column_from n (c ∷ (b ++ p)) ≡ column_from (column_from n (c ∷ b)) p
    at true is more =
        column-line n c (b ++ p) is ∙ more 1 ∙ ap (λ m. column_from m p) (sym (column-line n c b is))
    at false is more =
        column-other n c (b ++ p) is ∙ more (n + 1) ∙ ap (λ m. column_from m p) (sym (column-other n c b is))

pub column_of-append : (b p : List ℕ) → column_from (column_of b) p ≡ column_of (b ++ p)
column_of-append b p =
    ap (λ m. column_from m p) (sym (column-front b)) ∙ sym (column-append 1 b p) ∙ column-front (b ++ p)

-- the LFs of two texts
count-from : (a : ℕ) (cs : List ℕ)
    → fold (λ n x. n + cond (is_line_feed x) 1 0) a cs ≡ a + count_by is_line_feed cs
count-from a [] = omega arith
count-from a (c ∷ cs) =
    count-from (a + cond (is_line_feed c) 1 0) cs
    ∙ omega (arith, count-from (0 + cond (is_line_feed c) 1 0) cs)

count-cons : (c : ℕ) (cs : List ℕ)
    → count_by is_line_feed (c ∷ cs) ≡ cond (is_line_feed c) 1 0 + count_by is_line_feed cs
count-cons c cs = count-from (0 + cond (is_line_feed c) 1 0) cs ∙ omega arith

pub count-append : (b p : List ℕ)
    → count_by is_line_feed (b ++ p) ≡ count_by is_line_feed b + count_by is_line_feed p
count-append [] p = omega arith
count-append (c ∷ b) p = count-cons c (b ++ p) ∙ omega (arith, count-append b p, count-cons c b)

-- a text has no more columns than characters
pub column-bound : (n : ℕ) (b : List ℕ) → column_from n b ≤ n + length b
column-bound n [] = omega arith
column-bound n (c ∷ b) = at (is_line_feed c) refl (λ m. column-bound m b)
  where
    at : (x : Bool) → is_line_feed c ≡ x → ((m : ℕ) → column_from m b ≤ m + length b)
        → column_from n (c ∷ b) ≤ n + length (c ∷ b)
    at true is more = omega (arith, column-line n c b is, more 1)
    at false is more = omega (arith, column-other n c b is, more (n + 1))

-- what was counted over the text p, after which nothing is left
module _ (p rest : List ℕ) (m n : Position) (none : rest ≡ [])
    (line : n.line + count_by is_line_feed rest ≡ m.line + count_by is_line_feed p)
    (column : column_from n.column rest ≡ column_from m.column p) where
  no_lines : count_by is_line_feed rest ≡ 0
  no_lines = ap (count_by is_line_feed) none

  column_is : n.column ≡ column_from m.column p
  column_is = omega arith ∙ sym (ap (column_from n.column) none) ∙ column

  pub over_at : (b : List ℕ) → IsAt b m → IsAt (b ++ p) n
  over_at b at = record {
    line = omega (arith, line, no_lines, at.line, count-append b p);
    column = column_is ∙ ap (λ k. column_from k p) at.column ∙ column_of-append b p;
  }

  pub over_room : (k : ℕ) → HasRoom (length p + k) m → HasRoom k n
  over_room k room = record {
    line = omega (arith, line, no_lines, room.line, count_by-le-length is_line_feed p);
    column = omega (arith, column_is, room.column, column-bound m.column p);
  }

-- the place after a character that is no LF
pub other_at : (b : List ℕ) (c : ℕ) (m n : Position) → is_line_feed c ≡ false → n.line ≡ m.line
    → n.column ≡ m.column + 1 → IsAt b m → IsAt (b ++ c ∷ []) n
other_at b c m n other line column at =
    let none : count_by is_line_feed (c ∷ []) ≡ 0 = count-cons c [] ∙ ap (λ x. cond x 1 0 + 0) other in
    record {
      line = omega (arith, line, at.line, count-append b (c ∷ []), none);
      column = column ∙ ap (λ k. k + 1) at.column ∙ omega arith
          ∙ sym (column-other (column_of b) c [] other) ∙ column_of-append b (c ∷ []);
    }

-- the place after an LF
pub line_at : (b : List ℕ) (c : ℕ) (m n : Position) → is_line_feed c ≡ true → n.line ≡ m.line + 1
    → n.column ≡ 1 → IsAt b m → IsAt (b ++ c ∷ []) n
line_at b c m n feed line column at =
    let one : count_by is_line_feed (c ∷ []) ≡ 1 = count-cons c [] ∙ ap (λ x. cond x 1 0 + 0) feed in
    record {
      line = omega (arith, line, at.line, count-append b (c ∷ []), one);
      column = column ∙ omega arith ∙ sym (column-line (column_of b) c [] feed)
          ∙ column_of-append b (c ∷ []);
    }

pub room_less : {k n : ℕ} {m : Position} → k ≤ n → HasRoom n m → HasRoom k m
room_less less room = record {
  line = omega (arith, less, room.line);
  column = omega (arith, less, room.column);
}

-- in a text that is short enough there is room after a front for what follows it
pub room_after : (T b s r : List ℕ) (m : Position) → length T + 1 < 2 ^ 64 → T ≡ b ++ (s ++ r) → IsAt b m
    → HasRoom (length s) m
room_after T b s r m fits whole at =
    let parts : length T ≡ length b + (length s + length r) =
    ap length whole ∙ length-append b (s ++ r) ∙ ap (λ n. length b + n) (length-append s r) in
    record {
      line = omega (arith, fits, parts, at.line, count_by-le-length is_line_feed b);
      column = omega (arith, fits, parts, at.column, column-front b, column-bound 1 b);
    }

-- From a place on characters were gone over, up to another place. Of `all` that is to be gone over, `left` is
-- left.
pub record Over (start position : Position) (all left : List ℕ) : Type 0 where
  pub passed : List ℕ
  pub whole : passed ++ left ≡ all
  pub at : (b : List ℕ) → IsAt b start → IsAt (b ++ passed) position

module _ {start position : Position} {all left : List ℕ} where
  pub over_start : position ≡ start → left ≡ all → Over start position all left
  over_start here whole = record {
    passed = [];
    whole = whole;
    at = λ b at. subst (λ c. IsAt c position) (sym (append-nil b)) (subst (IsAt b) (sym here) at);
  }

  module _ (s : Over start position all left) where
    pub over_step : {next : Position} {more : List ℕ} (c : ℕ) → left ≡ c ∷ more
        → ((b : List ℕ) → IsAt b position → IsAt (b ++ c ∷ []) next) → Over start next all more
    over_step {next} {more} c is step = record {
      passed = s.passed ++ c ∷ [];
      whole = append_assoc s.passed (c ∷ []) more ∙ ap (λ l. s.passed ++ l) (sym is) ∙ s.whole;
      at = λ b at. subst (λ x. IsAt x next) (append_assoc b s.passed (c ∷ []))
          (step (b ++ s.passed) (s.at b at));
    }

    pub over_end : left ≡ [] → (b : List ℕ) → IsAt b start → IsAt (b ++ all) position
    over_end none b at =
        subst (λ x. IsAt (b ++ x) position)
        (sym (append-nil s.passed) ∙ ap (λ l. s.passed ++ l) (sym none) ∙ s.whole) (s.at b at)
