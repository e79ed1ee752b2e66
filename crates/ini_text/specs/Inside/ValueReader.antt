-- Reading a value by its first line, and then by steps that each take a line.
use Rattle.std.specs.Prelude.{ℕ, ◌==◌, true, false, if◌then◌else◌, List, [], ◌∷◌, Option, Some, None}
use Rattle.ini_text.specs.Grammar.CharacterKinds.{line_feed, carriage_return, is_blank, is_inline_white}
use Rattle.ini_text.specs.Grammar.CharacterKinds.{begins}
use Rattle.ini_text.specs.Grammar.Keys.{begins_note}
use Rattle.ini_text.specs.Grammar.WhiteSpace.{without_outer_line_feeds}
use Rattle.ini_text.specs.Inside.LineReader.{line}
use Rattle.ini_text.specs.Inside.Reading.{Answer, found, stopped, prepend, altered_answer, Step, more, ends}
use Rattle.ini_text.specs.Inside.Reading.{go_on, read_by}
use Rattle.ini_text.specs.Inside.Scans.{is_line_part, skipped}
use Rattle.ini_text.specs.Inside.StringReader.{as_step}
use Rattle.ini_text.specs.declared.error.ParseKind.TheVariants.{CrAlone}
use Rattle.ini_text.specs.declared.option.ParseOption.{ParseOption}

abbrev pub past_cr : List ℕ → List ℕ
past_cr [] = []
past_cr (c ∷ cs) = if c == line_feed then cs else c ∷ cs

-- what follows the line end with which the text begins
abbrev pub after_end : List ℕ → Option (List ℕ)
after_end [] = None
after_end (c ∷ cs) =
    if c == line_feed then Some cs
    else if c == carriage_return then Some (past_cr cs)
    else None

-- after the CR of an empty line
abbrev pub empty_cr : List ℕ → Answer ℕ
empty_cr [] = stopped [] CrAlone
empty_cr (c ∷ cs) = if c == line_feed then found [] cs else stopped cs CrAlone

-- after a line with the value u
abbrev pub before_end : List ℕ → List ℕ → Option (List ℕ) → Step ℕ
before_end u r None = ends (found u r)
before_end u r (Some next) = more u next

abbrev pub after_line : Answer ℕ → Step ℕ
after_line (found u r) = before_end u r (after_end r)
after_line (stopped r k) = ends (stopped r k)

-- what follows the note that begins after the white space of an indented line
abbrev pub after_note : ParseOption → List ℕ → Option (List ℕ)
after_note o t = if begins (begins_note o) t then Some (skipped is_line_part t) else None

-- what follows the note of an indented comment that begins with c
abbrev pub comment_end : ParseOption → ℕ → List ℕ → Option (List ℕ)
comment_end o c cs = if is_blank c then after_note o (skipped is_inline_white cs) else None

-- an indented line that may be a comment, of which this follows its note
abbrev pub indented_line : ParseOption → List ℕ → Option (List ℕ) → Step ℕ
indented_line o t (Some end) = after_line (found [] end)
indented_line o t None = after_line (prepend (line_feed ∷ []) (line o false t))

-- a line with which a value goes on; a blank is inline white
abbrev pub row : ParseOption → List ℕ → Step ℕ
row o [] = ends (found [] [])
row o (c ∷ cs) =
    if c == line_feed then more (line_feed ∷ []) cs
    else if c == carriage_return then as_step (prepend (line_feed ∷ []) (empty_cr cs))
    else if is_blank c then indented_line o (skipped is_inline_white cs) (comment_end o c cs)
    else ends (found [] (c ∷ cs))

unfoldable pub more_lines : ParseOption → List ℕ → Answer ℕ
more_lines o t = read_by (row o) t

-- a multiline value, by its first line
abbrev pub multiline_value : ParseOption → Answer ℕ → Answer ℕ
multiline_value o a = altered_answer without_outer_line_feeds (go_on (more_lines o) (after_line a))

unfoldable pub value : ParseOption → List ℕ → Answer ℕ
value o t =
    let first = line o true (skipped is_inline_white t) in
    if o.enabled_indented_mutiline_value then multiline_value o first else first
