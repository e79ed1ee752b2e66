-- Words that are no command, by the number of their arguments.
use Rattle.std.proofs.Common.{◌≡◌, ◌≤◌, ◌<◌, List, [], ◌∷◌, length, map, string_bytes, String, Global, None}
use Rattle.std.proofs.Common.{false, codes, rules, arith}
use Rattle.ini.specs.Texts.{is_text}
use Rattle.ini_words.specs.Words.{Word}
use Rattle.ini_tool.specs.Words.{request_for}

apart : (a b : Word) → (a ≡ b → ⊥) → is_text a b ≡ false
apart a b other = search rules

-- the word isn't this one
abbrev IsNot : Word → Word → Type 0
IsNot word name = word ≡ name → ⊥

-- the word and its arguments are no command
abbrev AreNone : Word → List (String Global) → Type 0
AreNone word xs = None ≡ request_for word (map string_bytes xs)

module _ (word : Word) where
  pub without_arguments : (xs : List (String Global)) → length xs < 1
      → IsNot word (codes "fmt") → IsNot word (codes "list") → AreNone word xs
  without_arguments [] few fmt list =
      grind (arith, apart word (codes "fmt") fmt, apart word (codes "list") list)
  without_arguments (x ∷ xs) few fmt list = absurd (omega arith)

  pub with_one : (xs : List (String Global)) → 1 ≤ length xs → length xs < 2
      → IsNot word (codes "get") → IsNot word (codes "del") → AreNone word xs
  with_one [] some few get del = absurd (omega arith)
  with_one (x ∷ []) some few get del =
      grind (arith, apart word (codes "get") get, apart word (codes "del") del)
  with_one (x ∷ y ∷ xs) some few get del = absurd (omega arith)

  pub with_two : (xs : List (String Global)) → 2 ≤ length xs → length xs < 3
      → IsNot word (codes "get") → IsNot word (codes "del") → IsNot word (codes "set") → AreNone word xs
  with_two [] some few get del set = absurd (omega arith)
  with_two (x ∷ []) some few get del set = absurd (omega arith)
  with_two (x ∷ y ∷ []) some few get del set =
      let got = apart word (codes "get") get in
      let deleted = apart word (codes "del") del in
      grind (arith, got, deleted, apart word (codes "set") set)
  with_two (x ∷ y ∷ z ∷ xs) some few get del set = absurd (omega arith)

  pub with_three : (xs : List (String Global)) → 3 ≤ length xs → length xs < 4
      → IsNot word (codes "set") → AreNone word xs
  with_three [] some few set = absurd (omega arith)
  with_three (x ∷ []) some few set = absurd (omega arith)
  with_three (x ∷ y ∷ []) some few set = absurd (omega arith)
  with_three (x ∷ y ∷ z ∷ []) some few set = grind (arith, apart word (codes "set") set)
  with_three (x ∷ y ∷ z ∷ v ∷ xs) some few set = absurd (omega arith)
