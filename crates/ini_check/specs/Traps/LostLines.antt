-- Traps of what gives nothing: a comment that goes on over a lone CR, and a last line that is dropped.
use Rattle.std.specs.Prelude.{◌&&◌, ◌||◌, ◌==◌, not, Bool, false, [], ◌∷◌, if◌then◌else◌}
use Rattle.ini_text.specs.Grammar.CharacterKinds.{carriage_return, is_blank, is_comment_mark, is_line_end}
use Rattle.ini.specs.Texts.{Text}

-- after blanks a character begins it that ends no line and begins no comment
abbrev pub begins_bare : Text → Bool
begins_bare [] = false
begins_bare (c ∷ cs) = if is_blank c then begins_bare cs else not (is_line_end c || is_comment_mark c)

-- after a line end a line begins so
abbrev pub has_later_bare_line : Text → Bool
has_later_bare_line [] = false
has_later_bare_line (c ∷ cs) = (is_line_end c && begins_bare cs) || has_later_bare_line cs

-- indented text that gives nothing has a line that is no comment
abbrev pub drops_line : Text → Bool
drops_line [] = false
drops_line (c ∷ cs) = is_blank c && (begins_bare (c ∷ cs) || has_later_bare_line (c ∷ cs))

-- a comment goes on over a lone CR, after which a line begins that is no comment
abbrev pub swallows_line : Text → Bool
swallows_line [] = false
swallows_line (c ∷ cs) = c == carriage_return && begins_bare cs

abbrev pub begins_with_mark : Text → Bool
begins_with_mark [] = false
begins_with_mark (c ∷ cs) = is_comment_mark c
