-- Columns after a line feed.
use Rattle.std.proofs.Common.{◌≡◌, ◌∙◌, ◌+◌, true, [], ◌∷◌, ◌++◌, length, ap, sym, refl, arith}
use Rattle.std.specs.List.{list_any}
use Rattle.ini_text.specs.Grammar.CharacterKinds.{is_line_feed, line_feed}
use Rattle.ini_text.specs.Grammar.Positions.{last_line}
use Rattle.ini.specs.Texts.{Text}
use Rattle.ini_edit.specs.KeptPlaces.{ColumnsStay}

feeds : (front line : Text) → list_any is_line_feed (front ++ line_feed ∷ line) ≡ true
feeds [] line = refl
feeds (c ∷ front) line = grind (arith, feeds front line)

line_after : (front line : Text) → last_line (front ++ line_feed ∷ line) ≡ last_line line
line_after [] line = refl
line_after (c ∷ front) line = grind (arith, line_after front line, feeds front line)

pub columns_stay : (old new line : Text) → ColumnsStay old new line
columns_stay old new line = ap (λ l. 1 + length l) (line_after old line ∙ sym (line_after new line))
