-- The numbers that calls answer.
use Rattle.std.specs.Prelude.{ℕ, Bool, false, ◌||◌, ◌==◌, List, [], ◌∷◌}

abbrev pub ok : ℕ
ok = 0

abbrev pub absent : ℕ
absent = 1

abbrev pub no_room : ℕ
no_room = 2

abbrev pub broken : ℕ
broken = 3

abbrev pub not_utf8 : ℕ
not_utf8 = 4

abbrev pub no_memory : ℕ
no_memory = 5

abbrev pub no_document : ℕ
no_document = 6

abbrev pub unplain_value : ℕ
unplain_value = 7

abbrev pub unplain_key : ℕ
unplain_key = 8

abbrev pub no_place : ℕ
no_place = 9

abbrev pub unplain_name : ℕ
unplain_name = 10

abbrev pub there : ℕ
there = 11

abbrev pub unknown_option : ℕ
unknown_option = 12

-- whether a status is one of these
abbrev pub is_among : ℕ → List ℕ → Bool
is_among status [] = false
is_among status (s ∷ ss) = (status == s) || is_among status ss
