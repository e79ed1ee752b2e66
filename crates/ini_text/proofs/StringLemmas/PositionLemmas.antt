-- What a loop over a front counts, and its position.
use Rattle.std.proofs.Common.{◌≡◌, ℕ, ◌+◌, Bool, true, false, cond, eqb, List, [], ◌∷◌, length, refl, sym, ap}
use Rattle.std.proofs.Common.{◌∙◌, arith, count_by, eq-eqb, subst, ◌≤◌, chars, IsUtf8}
use Rattle.std.proofs.lemmas.Str.{encodes-chars, length-le-encodes}
use Rattle.std.proofs.lemmas.Bool.{cond-false}
use Rattle.std.specs.List.{list_any, fold}
use Rattle.ini_text.specs.Grammar.CharacterKinds.{line_feed, is_line_feed}
use Rattle.ini_text.specs.Grammar.Positions.{last_line, column_of}

-- the column after a text that begins at column n
abbrev pub column_from : ℕ → List ℕ → ℕ
column_from n cs = cond (list_any is_line_feed cs) (1 + length (last_line cs)) (n + length cs)

no_line : (cs : List ℕ) (b : Bool) → list_any is_line_feed cs ≡ b → b ≡ false → last_line cs ≡ cs
no_line [] b e h = refl
no_line (c ∷ cs) b e h = cond-false (list_any is_line_feed (c ∷ cs)) (last_line cs) (c ∷ cs) (e ∙ h)

at_start : (b : Bool) (cs : List ℕ) → list_any is_line_feed cs ≡ b
    → 1 + length (last_line cs) ≡ cond b (1 + length (last_line cs)) (1 + length cs)
at_start true cs e = refl
at_start false cs e = ap (λ l. 1 + length l) (no_line cs false e refl)

pub column-front : (cs : List ℕ) → column_from 1 cs ≡ column_of cs
column-front cs = sym (at_start (list_any is_line_feed cs) cs refl)

pub column-feed : (n c : ℕ) (t cs : List ℕ) → t ≡ c ∷ cs → c ≡ line_feed → column_from n t ≡ column_from 1 cs
column-feed n c t cs h d =
    ap (column_from n) (h ∙ ap (λ x. x ∷ cs) d) ∙ at_start (list_any is_line_feed cs) cs refl

count-from : (a : ℕ) (cs : List ℕ)
    → fold (λ n x. n + cond (is_line_feed x) 1 0) a cs ≡ a + count_by is_line_feed cs
count-from a [] = omega arith
count-from a (c ∷ cs) =
    count-from (a + cond (is_line_feed c) 1 0) cs
    ∙ omega (arith, count-from (0 + cond (is_line_feed c) 1 0) cs)

count-cons : (c : ℕ) (cs : List ℕ)
    → count_by is_line_feed (c ∷ cs) ≡ cond (eqb c 10) 1 0 + count_by is_line_feed cs
count-cons c cs = count-from (0 + cond (eqb c 10) 1 0) cs ∙ omega arith

pub line-feed : (n c : ℕ) (t cs : List ℕ) → t ≡ c ∷ cs → c ≡ line_feed
    → n + count_by is_line_feed t ≡ n + 1 + count_by is_line_feed cs
line-feed n c t cs h d = ap (λ x. n + count_by is_line_feed x) h ∙ ap (λ x. n + x) (count-cons c cs)
    ∙ ap (λ b. n + (cond b 1 0 + count_by is_line_feed cs)) (eq-eqb c 10 d) ∙ omega arith

-- a text has no more characters than bytes
pub characters_fit : (bs : List ℕ) → IsUtf8 bs → length (chars bs) ≤ length bs
characters_fit bs u =
    subst (λ n. length (chars bs) ≤ n) (ap length (encodes-chars bs u)) (length-le-encodes (chars bs))
