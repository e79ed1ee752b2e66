-- How a parser skips trivia: by the character with which a text begins.
use Rattle.std.specs.Prelude.{ℕ, ◌&&◌, if◌then◌else◌, List, [], ◌∷◌, Option, Some, None}
use Rattle.std.specs.Char.{is_whitespace}
use Rattle.ini_text.specs.Grammar.CharacterKinds.{begins, is_blank, is_comment_mark, is_line_end}
use Rattle.ini_text.specs.Grammar.Elements.{may_have_note}
use Rattle.ini_text.specs.Grammar.Positions.{starts_line, is_column_one}
use Rattle.ini_text.specs.Inside.ElementReader.{is_comment_part}
use Rattle.ini_text.specs.Inside.Scans.{is_line_part, skipped}
use Rattle.ini_text.specs.Grammar.Keys.{begins_note}
use Rattle.ini_text.specs.declared.option.ParseOption.{ParseOption}

-- what follows an indented comment that may begin the text, behind its blanks
abbrev pub past_comment : ParseOption → List ℕ → List ℕ
past_comment o t = if begins (begins_note o) t then skipped is_line_part t else t

-- what follows a line's end, where the text is no more of the line than a note
abbrev pub past_end : List ℕ → Option (List ℕ)
past_end [] = None
past_end (c ∷ cs) = if is_line_end c then Some cs else None

abbrev pub past_line_end : ParseOption → List ℕ → Option (List ℕ)
past_line_end o t = past_end (past_comment o t)

-- after a comment's characters
abbrev pub after_line_feed : List ℕ → Option (List ℕ)
after_line_feed [] = None
after_line_feed (c ∷ cs) = Some cs

-- what follows the first of the trivia, if the text t begins with one after the front b
abbrev pub past_first : ParseOption → List ℕ → List ℕ → Option (List ℕ)
past_first o b [] = None
past_first o b (c ∷ cs) =
    if is_blank c && starts_line b then past_line_end o (skipped is_blank cs)
    else if is_whitespace c then Some cs
    else if is_comment_mark c && is_column_one b then after_line_feed (skipped is_comment_part cs)
    else if is_comment_mark c && may_have_note o b then past_end (skipped is_line_part cs)
    else None
