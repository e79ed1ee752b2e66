-- How a text is spaced that is laid out, and sorted, as words choose it.
use Rattle.std.specs.Prelude.{◌||◌, ◌+◌, ◌*◌, Bool, ℕ, if◌then◌else◌, [], ◌∷◌, codes}
use Rattle.std.specs.Prelude.{Option, None, Some, is_some, option_and_then}
use Rattle.std.specs.Char.{digit_value, is_ascii_digit}
use Rattle.std.specs.Option.{option_map}
use Rattle.std.specs.Str.{bytes_eq}
use Rattle.ini_edit.specs.declared.source.layout.sort.Sorting.{Sorting}
use Rattle.ini_edit.specs.declared.source.layout.sort.Sorting.TheVariants.{Both, Keys, Sections}
use Rattle.ini_words.specs.Words.{Word}
use Rattle.ini_file.specs.declared.spacing.Spacing.{Spacing}

-- nothing is chosen
abbrev pub no_spacing : Spacing
no_spacing = record { pair_indentation = None; blank_lines = None; sorting = None }

abbrev pub is_spaced : Spacing → Bool
is_spaced s = is_some s.pair_indentation || (is_some s.blank_lines || is_some s.sorting)

-- a text follows the choice of this name, which is about spaces, lines or their order
abbrev pub takes_spacing : Word → Bool
takes_spacing word = bytes_eq word (codes "--indent-pairs") || bytes_eq word (codes "--blank-lines")
    || bytes_eq word (codes "--sort")

-- what a text names that is sorted
unfoldable pub sorting_of : Word → Option Sorting
sorting_of text =
    if bytes_eq text (codes "keys") then Some Keys
    else if bytes_eq text (codes "sections") then Some Sections
    else if bytes_eq text (codes "both") then Some Both
    else None

-- what a decimal digit stands for
abbrev pub digit_of : ℕ → Option ℕ
digit_of byte = if is_ascii_digit byte then Some (digit_value byte) else None

-- the number that one or two decimal digits write
unfoldable pub small_number : Word → Option ℕ
small_number (one ∷ []) = digit_of one
small_number (ten ∷ one ∷ []) =
    option_and_then (λ t. option_map (λ n. t * 10 + n) (digit_of one)) (digit_of ten)
small_number _ = None

-- what is chosen after such a choice and its text, if that is a number, or of `--sort` names what is sorted
unfoldable pub with_spacing : Word → Word → Spacing → Option Spacing
with_spacing word text s =
    if bytes_eq word (codes "--sort")
    then option_map (λ w. record s { sorting = Some w }) (sorting_of text)
    else if bytes_eq word (codes "--indent-pairs")
    then option_map (λ n. record s { pair_indentation = Some n }) (small_number text)
    else option_map (λ n. record s { blank_lines = Some n }) (small_number text)
