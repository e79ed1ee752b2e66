-- One line more that two texts share.
use Rattle.std.proofs.Common.{◌≡◌, ℕ, ◌+◌, Bool, true, false, not, refl, List, [], ◌∷◌, ◌++◌, ap, sym, ◌∙◌}
use Rattle.std.proofs.Common.{arith, append_assoc, length-append}
use Rattle.std.proofs.lemmas.List.{same_from_push}
use Rattle.std.proofs.lemmas.Slice.Eq.{bytes_eq-Decides}
use Rattle.std.specs.Str.{bytes_eq}
use Rattle.ini_file.specs.Diffs.{DifferFirst, DifferLast, IsDiffBetween, Line, hunk_where, lines_of}
use Rattle.ini_file.specs.Inside.Shared.{IsFirstLine, IsLastLine, ShareFirst, ShareLast}

pub ShareFirst-more : {old new removed added one other more rest : List ℕ} {count : ℕ}
    → ShareFirst old new count removed added → IsFirstLine removed one more → IsFirstLine added other rest
    → one ≡ other
    → ShareFirst old new (count + 1) more rest
ShareFirst-more {old} {new} {removed} {added} {one} {other} {more} {rest} {count} s a b e = record {
  first = s.first ++ one ∷ [];
  counted = omega (arith, s.counted, length-append s.first (one ∷ []));
  old_lines = s.old_lines ∙ ap (λ ls. s.first ++ ls) a.lines
      ∙ sym (append_assoc s.first (one ∷ []) (lines_of more));
  new_lines =
      s.new_lines ∙ ap (λ ls. s.first ++ ls) (b.lines ∙ ap (λ l. l ∷ lines_of rest) (sym e))
      ∙ sym (append_assoc s.first (one ∷ []) (lines_of rest));
}

pub ShareLast-more : {old new removed added one other more rest : List ℕ}
    → ShareLast old new removed added → IsLastLine removed more one → IsLastLine added rest other
    → one ≡ other
    → ShareLast old new more rest
ShareLast-more {old} {new} {removed} {added} {one} {other} {more} {rest} s a b e = record {
  last = one ∷ s.last;
  old_lines = s.old_lines ∙ ap (λ ls. ls ++ s.last) a.lines ∙ append_assoc (lines_of more) (one ∷ []) s.last;
  new_lines =
      s.new_lines ∙ ap (λ ls. ls ++ s.last) (b.lines ∙ ap (λ l. lines_of rest ++ l ∷ []) (sym e))
      ∙ append_assoc (lines_of rest) (one ∷ []) s.last;
}

-- texts whose last lines differ share none
pub DifferLast-lines : {removed added one other more rest : List ℕ} → IsLastLine removed more one
    → IsLastLine added rest other → (one ≡ other → ⊥) → DifferLast (lines_of removed) (lines_of added)
DifferLast-lines {removed} {added} {one} {other} {more} {rest} a b ne line xs ys e f =
    let p = same_from_push (lines_of more) xs one line (sym a.lines ∙ e) in
    let q = same_from_push (lines_of rest) ys other line (sym b.lines ∙ f) in
    ne (p.1 ∙ sym q.1)

-- nothing has no last line
pub no_last : (xs : List Line) (line : Line) → [] ≡ xs ++ line ∷ [] → ⊥
no_last [] line e = cc
no_last (x ∷ xs) line e = cc

true_from_not : (b : Bool) → not b ≡ false → b ≡ true
true_from_not true e = refl
true_from_not false e = cc

-- what `!=` says of two lines
pub same_line : (one other : List ℕ) (differ : Bool) → differ ≡ not (bytes_eq one other) → differ ≡ false
    → one ≡ other
same_line one other differ e f =
    (bytes_eq-Decides one other).0 (true_from_not (bytes_eq one other) (sym e ∙ f))

pub other_line : (one other : List ℕ) (differ : Bool) → differ ≡ not (bytes_eq one other) → differ ≡ true
    → one ≡ other → ⊥
other_line one other differ e t same =
    let yes = (bytes_eq-Decides one other).1 same in
    let no : differ ≡ false = e ∙ ap not yes in
    cc

-- what goes and what comes between the lines that are shared
pub IsDiffBetween-hunk : {from to old new removed added removals additions diff : List ℕ} {count : ℕ}
    → ShareFirst old new count removed added → DifferFirst (lines_of removed) (lines_of added)
    → ShareLast removed added removals additions → DifferLast (lines_of removals) (lines_of additions)
    → diff ≡ hunk_where from to count (lines_of removals) (lines_of additions)
    → IsDiffBetween from to old new diff
IsDiffBetween-hunk {from} {to} {old} {new} {removed} {added} {removals} {additions} {diff} {count}
    s differ t last e =
    record {
      first = s.first;
      removed = lines_of removals;
      added = lines_of additions;
      is_change = record {
        last = t.last;
        old_lines = s.old_lines ∙ ap (λ ls. s.first ++ ls) t.old_lines;
        new_lines = s.new_lines ∙ ap (λ ls. s.first ++ ls) t.new_lines;
        longest_first = λ line more rest p q. differ line more rest (t.old_lines ∙ p) (t.new_lines ∙ q);
        longest_last = last;
      };
      is_hunk = e ∙ ap (λ n. hunk_where from to n (lines_of removals) (lines_of additions)) (sym s.counted);
    }
