-- White space at the ends of a text.
use Rattle.std.specs.Prelude.{◌≡◌, ℕ, true, List, [], ◌∷◌, length, ◌==◌, ◌&&◌, if◌then◌else◌}
use Rattle.std.specs.Str.{skip_leading_whitespace, drop_trailing_whitespace}
use Rattle.std.specs.List.{list_all}
use Rattle.ini_text.specs.Grammar.CharacterKinds.{is_line_feed, is_inline_white, BeginsWithNo}

-- white space is taken off both ends
abbrev pub trimmed : List ℕ → List ℕ
trimmed cs = drop_trailing_whitespace (skip_leading_whitespace cs)

-- white space is taken off the end
abbrev pub end_trimmed : List ℕ → List ℕ
end_trimmed cs = drop_trailing_whitespace cs

-- the lead is inline white alone, and what follows it doesn't begin so
pub record Lead (lead rest : List ℕ) : Type 0 where
  pub white : list_all is_inline_white lead ≡ true
  pub ends : BeginsWithNo is_inline_white rest

abbrev pub skip_line_feeds : List ℕ → List ℕ
skip_line_feeds [] = []
skip_line_feeds (c ∷ cs) = if is_line_feed c then skip_line_feeds cs else c ∷ cs

abbrev pub drop_line_feeds : List ℕ → List ℕ
drop_line_feeds [] = []
drop_line_feeds (c ∷ cs) =
    if is_line_feed c && length (drop_line_feeds cs) == 0 then [] else c ∷ drop_line_feeds cs

-- line feeds are taken off both ends
abbrev pub without_outer_line_feeds : List ℕ → List ℕ
without_outer_line_feeds cs = drop_line_feeds (skip_line_feeds cs)
