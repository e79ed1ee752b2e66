-- Reading an element by the character with which it begins.
use Rattle.std.specs.Prelude.{ℕ, Bool, not, ◌&&◌, ◌==◌, true, if◌then◌else◌, List, [], ◌∷◌, drop, Option}
use Rattle.std.specs.Prelude.{Some, None}
use Rattle.std.specs.Char.{is_whitespace}
use Rattle.std.specs.List.{list_all}
use Rattle.ini_text.specs.Grammar.CharacterKinds.{open_bracket, close_bracket, is_line_feed, is_line_end}
use Rattle.ini_text.specs.Grammar.CharacterKinds.{is_blank, is_comment_mark, is_separator}
use Rattle.ini_text.specs.Grammar.Elements.{Given, Header, Pair, may_have_note}
use Rattle.ini_text.specs.Grammar.Keys.{begins_note}
use Rattle.ini_text.specs.Grammar.Positions.{starts_line, is_column_one}
use Rattle.ini_text.specs.Grammar.Strings.{name_ends, bracketed_name_ends, noted, noted_key_ends}
use Rattle.ini_text.specs.Grammar.WhiteSpace.{trimmed}
use Rattle.ini_text.specs.Inside.Reading.{Answer, found, stopped, prepend, altered_answer}
use Rattle.ini_text.specs.Inside.Scans.{is_line_part, run_of, skipped, trimmed_at}
use Rattle.ini_text.specs.Inside.StringReader.{string}
use Rattle.ini_text.specs.Inside.ValueReader.{value}
use Rattle.ini_text.specs.Parsing.Items.{borrowed_item_of}
use Rattle.ini_text.specs.Options.ReadOptions.{backslash_of}
use Rattle.ini_text.specs.declared.error.ParseKind.{ParseKind}
use Rattle.ini_text.specs.declared.error.ParseKind.TheVariants.{EndOfText, HeaderEnd, InlineComment}
use Rattle.ini_text.specs.declared.error.ParseKind.TheVariants.{MissingKey, NoSeparator}
use Rattle.ini_text.specs.declared.item.BorrowedItem.{BorrowedItem}
use Rattle.ini_text.specs.declared.option.LoneLine.{LoneLine}
use Rattle.ini_text.specs.declared.option.LoneLine.TheVariants.{RunsOn, Key}
use Rattle.ini_text.specs.declared.option.ParseOption.{ParseOption}

-- one item or none
abbrev pub given : Option BorrowedItem → List Given
given None = []
given (Some item) = borrowed_item_of item ∷ []

-- the name that begins with c, by the name in what follows c
abbrev pub name_from : ℕ → List ℕ → Option (List ℕ) → Option (List ℕ)
name_from c cs (Some name) = Some (c ∷ name)
name_from c cs None = if c == close_bracket && list_all is_blank cs then Some [] else None

-- the name before the last closing bracket, after which blanks alone stand
abbrev pub name_in : List ℕ → Option (List ℕ)
name_in [] = None
name_in (c ∷ cs) = name_from c cs (name_in cs)

abbrev pub header : Answer ℕ → Answer Given
header (found name r) = found (Header name ∷ []) (drop 1 r)
header (stopped r k) = stopped r k

-- after a header's string, by the name in it
abbrev pub header_of_name : Option (List ℕ) → List ℕ → Answer Given
header_of_name (Some name) r = found (Header (trimmed name) ∷ []) r
header_of_name None r = stopped (drop 1 r) HeaderEnd

abbrev pub bracketed_header : Answer ℕ → Answer Given
bracketed_header (found v r) = header_of_name (name_in v) r
bracketed_header (stopped r k) = stopped r k

-- after an opening bracket
abbrev pub after_bracket : ParseOption → List ℕ → Answer Given
after_bracket o cs =
    if o.enabled_brackets_in_section_names
    then bracketed_header (string (backslash_of o) (noted o bracketed_name_ends) cs)
    else header (altered_answer (trimmed_at true) (string (backslash_of o) name_ends cs))

abbrev pub pair_of_value : List ℕ → Answer ℕ → Answer Given
pair_of_value key (found v r) = found (Pair key v ∷ []) r
pair_of_value key (stopped r k) = stopped r k

abbrev pub after_separator : ParseOption → List ℕ → List ℕ → Answer Given
after_separator o [] r = stopped r MissingKey
after_separator o (c ∷ key) r = pair_of_value (c ∷ key) (value o r)

-- a key's string is trimmed at both ends, or at its end alone
abbrev pub trimmed_key : ParseOption → Answer ℕ → Answer ℕ
trimmed_key o a = altered_answer (trimmed_at (not o.enabled_preserve_key_leading_whitespace)) a

-- a key alone before r
abbrev pub lone_key : LoneLine → List ℕ → List ℕ → Answer Given
lone_key Key [] [] = stopped [] EndOfText
lone_key Key [] (c ∷ r) = stopped r MissingKey
lone_key Key (k ∷ key) r = found (Pair (k ∷ key) [] ∷ []) r
lone_key line key r = stopped (drop 1 r) NoSeparator

-- after a key, from the character on that ends it
abbrev pub after_key : ParseOption → List ℕ → List ℕ → Answer Given
after_key o key [] = lone_key o.line_without_separator key []
after_key o key (c ∷ r) =
    if is_separator c then after_separator o key r else lone_key o.line_without_separator key (c ∷ r)

abbrev pub pair_of_key : ParseOption → Answer ℕ → Answer Given
pair_of_key o (found key r) = after_key o key r
pair_of_key o (stopped r k) = stopped r k

-- a key up to what ends it
abbrev pub key_string : ParseOption → List ℕ → Answer ℕ
key_string o t = string (backslash_of o) (noted_key_ends o) t

abbrev pub unindented_pair : ParseOption → List ℕ → Answer Given
unindented_pair o t = pair_of_key o (trimmed_key o (key_string o t))

-- where keys run on, the text's end is no fault in an indented one
abbrev pub dropped_tail : LoneLine → List ℕ → ParseKind → Answer Given
dropped_tail RunsOn r EndOfText = found [] r
dropped_tail line r k = stopped r k

abbrev pub indented_pair_of_key : ParseOption → Answer ℕ → Answer Given
indented_pair_of_key o (found key r) = after_key o key r
indented_pair_of_key o (stopped r k) = dropped_tail o.line_without_separator r k

-- the blanks with which a key begins, where they are kept
abbrev pub kept_blanks : ParseOption → List ℕ → List ℕ
kept_blanks o w = if o.enabled_preserve_key_leading_whitespace then w else []

abbrev pub indented_pair : ParseOption → List ℕ → List ℕ → Answer Given
indented_pair o w t =
    indented_pair_of_key o (trimmed_key o (prepend (kept_blanks o w) (key_string o t)))

abbrev pub is_comment_part : ℕ → Bool
is_comment_part c = not (is_line_feed c)

-- after the mark of a comment, cs
abbrev pub after_mark : ParseOption → List ℕ → List ℕ → Answer Given
after_mark o b cs =
    if is_column_one b then found [] (drop 1 (skipped is_comment_part cs))
    else if may_have_note o b then found [] (skipped is_line_part cs)
    else stopped cs InlineComment

-- after the blanks w at a line's start
abbrev pub after_blanks : ParseOption → List ℕ → List ℕ → Answer Given
after_blanks o w [] = found [] []
after_blanks o w (c ∷ cs) =
    if is_line_end c then found [] cs
    else if c == open_bracket then found [] (c ∷ cs)
    else if begins_note o c then found [] (skipped is_line_part cs)
    else indented_pair o w (c ∷ cs)

unfoldable pub element : ParseOption → List ℕ → List ℕ → Answer Given
element o b [] = found [] []
element o b (c ∷ cs) =
    if is_blank c && starts_line b
    then after_blanks o (run_of is_blank (c ∷ cs)) (skipped is_blank (c ∷ cs))
    else if is_whitespace c then found [] cs
    else if is_comment_mark c
    then after_mark o b cs
    else if c == open_bracket then after_bracket o cs
    else unindented_pair o (c ∷ cs)
