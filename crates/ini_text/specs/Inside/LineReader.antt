-- Reading a line by steps that each take a quoted part, and then the plain part and a note.
use Rattle.std.specs.Prelude.{ℕ, Bool, ◌&&◌, if◌then◌else◌, is_some, List, [], ◌∷◌, drop, Option, Some, None}
use Rattle.ini_text.specs.Grammar.CharacterKinds.{begins, is_comment_mark, is_quote_mark}
use Rattle.ini_text.specs.Grammar.Lines.{plain_value}
use Rattle.ini_text.specs.Grammar.Strings.{Ends, quote_ends, plain_ends, noted}
use Rattle.ini_text.specs.Inside.Reading.{Answer, found, stopped, altered_answer, and_then, Step, more, ends}
use Rattle.ini_text.specs.Inside.Reading.{read_by}
use Rattle.ini_text.specs.Inside.Scans.{is_line_part, skipped}
use Rattle.ini_text.specs.Inside.StringReader.{string}
use Rattle.ini_text.specs.Options.ReadOptions.{backslash_of}
use Rattle.ini_text.specs.declared.option.ParseOption.{ParseOption}

-- where the quoted part ends that begins here, and what follows its mark
abbrev pub quote_at : ParseOption → List ℕ → Option (Ends × List ℕ)
quote_at o [] = None
quote_at o (c ∷ cs) = if o.enabled_quote && is_quote_mark c then Some (quote_ends c, cs) else None

abbrev pub opens_quote : ParseOption → List ℕ → Bool
opens_quote o t = is_some (quote_at o t)

abbrev pub after_quoted : Answer ℕ → Step ℕ
after_quoted (found v r) = more v (drop 1 r)
after_quoted (stopped r k) = ends (stopped r k)

abbrev pub part_of : ParseOption → List ℕ → Option (Ends × List ℕ) → Step ℕ
part_of o t None = ends (found [] t)
part_of o t (Some p) = after_quoted (string (backslash_of o) p.0 p.1)

abbrev pub part : ParseOption → List ℕ → Step ℕ
part o t = part_of o t (quote_at o t)

-- the quoted parts
unfoldable pub parts : ParseOption → List ℕ → Answer ℕ
parts o t = read_by (part o) t

abbrev pub plain_part : ParseOption → Bool → Bool → List ℕ → Answer ℕ
plain_part o first quoted t =
    altered_answer (plain_value first quoted) (string (backslash_of o) (noted o plain_ends) t)

-- a line up to its note, if it has one
unfoldable pub line_text : ParseOption → Bool → List ℕ → Answer ℕ
line_text o first t = and_then (plain_part o first (opens_quote o t)) (parts o t)

-- what follows a note with which the text begins, where inline comments are on
abbrev pub past_note : ParseOption → List ℕ → List ℕ
past_note o t = if o.enabled_inline_comment && begins is_comment_mark t then skipped is_line_part t else t

abbrev pub without_note : ParseOption → Answer ℕ → Answer ℕ
without_note o (found v r) = found v (past_note o r)
without_note o (stopped r k) = stopped r k

abbrev pub line : ParseOption → Bool → List ℕ → Answer ℕ
line o first t = without_note o (line_text o first t)
