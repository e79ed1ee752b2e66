-- Which words ask a program to tell of itself.
use Rattle.std.specs.Prelude.{if◌then◌else◌, List, [], ◌∷◌, codes, Option, None, Some}
use Rattle.std.specs.Str.{bytes_eq}
use Rattle.ini_words.specs.Words.{Word}
use Rattle.ini_words.specs.declared.page.Page.{Page}
use Rattle.ini_words.specs.declared.page.Page.TheVariants.{Help, Version}

-- the page that the first word asks for
abbrev pub page_asked : List Word → Option Page
page_asked [] = None
page_asked (word ∷ words) =
    if bytes_eq word (codes "--help") then Some Help
    else if bytes_eq word (codes "--version") then Some Version
    else None
