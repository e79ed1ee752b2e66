-- The change of a file's bytes as a unified diff without context: one hunk, between the first lines that
-- the old bytes and the new ones share, and the last ones.
use Rattle.std.specs.Prelude.{◌≡◌, ◌+◌, ◌==◌, ◌&&◌, ℕ, if◌then◌else◌, List, [], ◌∷◌, ◌++◌, codes, flat_map}
use Rattle.std.specs.Prelude.{Option, None, Some, length}
use Rattle.std.specs.Fmt.{decimal}
use Rattle.std.specs.List.{list_any, onto_first}
use Rattle.ini_text.specs.Grammar.CharacterKinds.{line_feed}
use Rattle.ini_words.specs.Words.{Word}

-- a line is the list of its bytes, its line feed too
abbrev pub Line : Type 0
Line = List ℕ

-- the lines of bytes; the last one may have no line feed
abbrev pub lines_of : List ℕ → List Line
lines_of [] = []
lines_of (byte ∷ bytes) =
    if byte == line_feed then (byte ∷ []) ∷ lines_of bytes else onto_first byte (lines_of bytes)

-- no line stands first in both, or last in both
abbrev pub DifferFirst : List Line → List Line → Type 0
DifferFirst ones others = (line : Line) (more rest : List Line) → ones ≡ line ∷ more
    → others ≡ line ∷ rest → ⊥

abbrev pub DifferLast : List Line → List Line → Type 0
DifferLast ones others =
    (line : Line) (more rest : List Line) → ones ≡ more ++ line ∷ [] → others ≡ rest ++ line ∷ [] → ⊥

-- of the old lines those of `removed` go, and in their place those of `added` come; as many first lines stay
-- as the two have in common, and as many last ones of the others
pub record IsChange (old new : List Line) (first removed added : List Line) : Type 0 where
  pub last : List Line
  pub old_lines : old ≡ first ++ (removed ++ last)
  pub new_lines : new ≡ first ++ (added ++ last)
  pub longest_first : DifferFirst (removed ++ last) (added ++ last)
  pub longest_last : DifferLast removed added

-- so many lines after the first ones: the number of the first of them, or of the line before where there
-- are none; a comma; and how many they are
abbrev pub range : ℕ → ℕ → List ℕ
range first count = decimal (if count == 0 then first else first + 1) ++ codes "," ++ decimal count

-- a line after a sign; where it has no line feed, a line that says so follows
abbrev pub signed_line : ℕ → Line → List ℕ
signed_line sign line =
    sign ∷ line
    ++ (if list_any (λ byte. byte == line_feed) line then [] else codes "\n\\ No newline at end of file\n")

-- the names of the old file and the new one, and the ranges of the lines that go and of those that come
abbrev pub hunk_head : Word → Word → ℕ → ℕ → ℕ → List ℕ
hunk_head from to first removed added =
    codes "--- " ++ from ++ codes "\n+++ " ++ to ++ codes "\n@@ -" ++ range first removed ++ codes " +"
    ++ range first added ++ codes " @@\n"

-- after them the lines that go, and then those that come
abbrev pub hunk : Word → Word → ℕ → List Line → List Line → List ℕ
hunk from to first removed added =
    hunk_head from to first (length removed) (length added)
    ++ (flat_map (signed_line 0x2D) removed ++ flat_map (signed_line 0x2B) added)

-- nothing where no line goes and none comes
abbrev pub hunk_where : Word → Word → ℕ → List Line → List Line → List ℕ
hunk_where from to first removed added =
    if length removed == 0 && length added == 0 then [] else hunk from to first removed added

-- the bytes are the diff of old bytes and new ones, which have these names
pub record IsDiffBetween (from to : Word) (old new : List ℕ) (diff : List ℕ) : Type 0 where
  pub first : List Line
  pub removed : List Line
  pub added : List Line
  pub is_change : IsChange (lines_of old) (lines_of new) first removed added
  pub is_hunk : diff ≡ hunk_where from to (length first) removed added

-- the bytes are the diff of what a file of this name has, and of what it is to have; where there is no file
-- it is reported as /dev/null, which has no bytes
abbrev pub IsDiff : Word → Option (List ℕ) → List ℕ → List ℕ → Type 0
IsDiff name None new diff = IsDiffBetween (codes "/dev/null") name [] new diff
IsDiff name (Some old) new diff = IsDiffBetween name name old new diff
