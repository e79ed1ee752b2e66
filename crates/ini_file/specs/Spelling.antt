-- How options may be spelled, and what each is.
use Rattle.std.specs.Prelude.{◌==◌, ◌||◌, ◌&&◌, Bool, true, false, if◌then◌else◌, nat_eq, nat_lt, length}
use Rattle.std.specs.Prelude.{List, [], ◌∷◌, codes, Option, None, Some}
use Rattle.std.specs.Char.{is_ascii_alphabetic}
use Rattle.std.specs.List.{after_first, before_first, position_or_len, starts_with}
use Rattle.std.specs.Str.{bytes_eq}
use Rattle.ini_words.specs.Words.{Word}
use Rattle.ini_file.specs.declared.spelling.Kind.{Kind}
use Rattle.ini_file.specs.declared.spelling.Kind.TheVariants.{Reading, ReadingText, Choice, ChoiceText}
use Rattle.ini_file.specs.declared.spelling.Kind.TheVariants.{Section, Like, Encoding, Help}

-- what an option's long name names
abbrev pub kind_of : Word → Option Kind
kind_of name =
    if bytes_eq name (codes "--noescape") || bytes_eq name (codes "--noquote")
    || bytes_eq name (codes "--multiline") || bytes_eq name (codes "--indent")
    || bytes_eq name (codes "--brackets") || bytes_eq name (codes "--raw-backslash")
    || bytes_eq name (codes "--indented-comments") || bytes_eq name (codes "--inline-comments")
    || bytes_eq name (codes "--crlf") then Some Reading
    else if bytes_eq name (codes "--policy") || bytes_eq name (codes "--lone-lines") then Some ReadingText
    else if bytes_eq name (codes "--existing") || bytes_eq name (codes "--all")
    || bytes_eq name (codes "--last") || bytes_eq name (codes "--origin")
    || bytes_eq name (codes "--null") || bytes_eq name (codes "--dry-run")
    || bytes_eq name (codes "--in-place") || bytes_eq name (codes "--force")
    || bytes_eq name (codes "--verbose") || bytes_eq name (codes "--fix")
    || bytes_eq name (codes "--suggest") || bytes_eq name (codes "--check")
    || bytes_eq name (codes "--ours") || bytes_eq name (codes "--theirs")
    || bytes_eq name (codes "--reverse") || bytes_eq name (codes "--align")
    || bytes_eq name (codes "--lists") || bytes_eq name (codes "--comments") then Some Choice
    else if bytes_eq name (codes "--output") || bytes_eq name (codes "--default")
    || bytes_eq name (codes "--separator") || bytes_eq name (codes "--wait")
    || bytes_eq name (codes "--format") || bytes_eq name (codes "--allow")
    || bytes_eq name (codes "--deny") || bytes_eq name (codes "--indent-pairs")
    || bytes_eq name (codes "--blank-lines") || bytes_eq name (codes "--color")
    || bytes_eq name (codes "--type")
    || bytes_eq name (codes "--sort") then Some ChoiceText
    else if bytes_eq name (codes "--section") then Some Section
    else if bytes_eq name (codes "--like") then Some Like
    else if bytes_eq name (codes "--encoding") then Some Encoding
    else if bytes_eq name (codes "--help") then Some Help
    else None

-- a text follows an option of this kind
abbrev pub takes_text : Kind → Bool
takes_text ReadingText = true
takes_text ChoiceText = true
takes_text Section = true
takes_text Like = true
takes_text Encoding = true
takes_text _ = false

-- what stands before the first `=` of a word, and after it; all of it where there is none
abbrev pub parted : Word → Word × Option Word
parted word =
    if nat_lt (position_or_len (λ b. b == 0x3D) word) (length word)
    then (before_first (λ b. b == 0x3D) word, Some (after_first (λ b. b == 0x3D) word))
    else (word, None)

-- the long name that a word spells, and the text that stands in the same word
abbrev pub spelled : Word → Word × Option Word
spelled word =
    if bytes_eq word (codes "-h") then (codes "--help", None)
    else if bytes_eq word (codes "-n") || bytes_eq word (codes "--diff") then (codes "--dry-run", None)
    else if bytes_eq word (codes "-s") then (codes "--section", None)
    else if starts_with nat_eq word (codes "--") then parted word
    else (word, None)

-- the word looks like an option: two hyphens begin it, or one and a letter
abbrev pub is_like_option : Word → Bool
is_like_option (first ∷ second ∷ more) = first == 0x2D && (second == 0x2D || is_ascii_alphabetic second)
is_like_option _ = false
