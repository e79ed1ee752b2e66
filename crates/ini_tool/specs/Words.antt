-- What the words of the program ask for: options in any order, and then a command with its arguments.
use Rattle.std.specs.Prelude.{if◌then◌else◌, List, [], ◌∷◌, codes, chars, Option, None, Some, option_and_then}
use Rattle.std.specs.Option.{option_map}
use Rattle.ini.specs.Texts.{is_text}
use Rattle.ini_words.specs.Words.{Word, given}
use Rattle.ini_words.specs.declared.options.Options.{Options}
use Rattle.ini_tool.specs.Requests.{Request, Fmt, Listing, Get, Set, Del}

-- the request of a command and its arguments
abbrev pub request_for : Word → List Word → Option Request
request_for command [] =
    if is_text command (codes "fmt") then Some Fmt
    else if is_text command (codes "list") then Some Listing
    else None
request_for command (key ∷ []) =
    if is_text command (codes "get") then Some (Get (chars key) None)
    else if is_text command (codes "del") then Some (Del (chars key) None)
    else None
request_for command (key ∷ next ∷ []) =
    if is_text command (codes "get") then Some (Get (chars key) (Some (chars next)))
    else if is_text command (codes "del") then Some (Del (chars key) (Some (chars next)))
    else if is_text command (codes "set") then Some (Set (chars key) (chars next) None)
    else None
request_for command (key ∷ value ∷ section ∷ []) =
    if is_text command (codes "set") then Some (Set (chars key) (chars value) (Some (chars section)))
    else None
request_for command _ = None

-- a request, with the options that hold for it
abbrev pub with_options : Options → Option Request → Option (Options × Request)
with_options o request = option_map (λ r. (o, r)) request

-- the request of the words after the options: a command, and its arguments
abbrev pub request_of_command : List Word → Option Request
request_of_command [] = None
request_of_command (command ∷ arguments) = request_for command arguments

-- the options and the request that words give, where `o` holds before them; None where the words are none of
-- the program's
abbrev pub asks_of_words : Options → List Word → Option (Options × Request)
asks_of_words o words = option_and_then (λ p. with_options p.0 (request_of_command p.1)) (given o words)
