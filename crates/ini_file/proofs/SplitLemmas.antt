-- The first and the last line of bytes, by the places where they are cut off.
use Rattle.std.proofs.Common.{◌≡◌, ℕ, ◌+◌, ◌<◌, ◌≤◌, suc, List, [], length, get_or, take, drop}
use Rattle.std.proofs.Common.{◌∙◌, arith, add-one, length-drop}
use Rattle.std.proofs.lemmas.List.{drop_all, length-take-le, take_all}
use Rattle.ini_text.specs.Grammar.CharacterKinds.{line_feed}
use Rattle.ini_file.specs.Inside.Shared.{IsFirstLine, IsLastLine}
use Rattle.ini_file.proofs.LineLemmas.{lines_of-at, lines_of-last, lines_of-one}

pub IsFirstLine-at : (bytes line rest : List ℕ) (at : ℕ) → at < length bytes → get_or bytes at 0 ≡ line_feed
    → ((k : ℕ) → k < at → get_or bytes k 0 ≡ line_feed → ⊥)
    → line ≡ take (at + 1) bytes → rest ≡ drop (at + 1) bytes → IsFirstLine bytes line rest
IsFirstLine-at bytes line rest at h e none front following = record {
  lines =
      let lines = lines_of-at bytes at h e none in
      rw (front, following, add-one) lines;
  shorter = rw following (omega (arith, length-drop (at + 1) bytes));
}

pub IsFirstLine-whole : (bytes line rest : List ℕ) (at : ℕ) → 0 < length bytes → length bytes ≤ at
    → ((k : ℕ) → k < at → get_or bytes k 0 ≡ line_feed → ⊥)
    → line ≡ take (length bytes) bytes → rest ≡ drop (length bytes) bytes → IsFirstLine bytes line rest
IsFirstLine-whole bytes line rest at some h none front following = record {
  lines =
      let all : line ≡ bytes = front ∙ take_all (length bytes) bytes (omega arith) in
      let nothing : rest ≡ [] = following ∙ drop_all (length bytes) bytes (omega arith) in
      rw (all, nothing) (lines_of-one bytes some (λ k l. none k (omega arith)));
  shorter = rw following (omega (arith, length-drop (length bytes) bytes));
}

pub IsLastLine-at : (bytes rest line : List ℕ) (at : ℕ) → at < length bytes
    → ((j : ℕ) → suc j ≡ at → get_or bytes j 0 ≡ line_feed)
    → ((k : ℕ) → at ≤ k → k + 1 < length bytes → get_or bytes k 0 ≡ line_feed → ⊥)
    → rest ≡ take at bytes → line ≡ drop at bytes → IsLastLine bytes rest line
IsLastLine-at bytes rest line at h before none front following = record {
  lines = rw (front, following) (lines_of-last bytes at h before none);
  shorter = rw front (omega (arith, length-take-le at bytes (omega arith)));
}
