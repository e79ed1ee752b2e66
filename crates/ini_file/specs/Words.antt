-- What a command asks for that is called with the words of one file and its arguments.
use Rattle.std.specs.Prelude.{◌&&◌, Bool, if◌then◌else◌, List, [], ◌∷◌, codes, chars, map, Option, None, Some}
use Rattle.std.specs.Option.{option_map}
use Rattle.std.specs.Str.{bytes_eq}
use Rattle.ini.specs.Texts.{Text}
use Rattle.ini_edit.specs.Editings.{Add, Delete, DeleteSection, RenameKey, RenameSection, Set, SetExisting}
use Rattle.ini_dialect.specs.declared.rule.Lookup.{Lookup}
use Rattle.ini_dialect.specs.declared.rule.ValueRule.TheVariants.{Last as LastValue}
use Rattle.ini_words.specs.Words.{Word}
use Rattle.ini_file.specs.Choices.{Chosen}
use Rattle.ini_file.specs.Fronts.{Called}
use Rattle.ini_file.specs.Further.{AddSection, CommentOut, DeleteAll, SetAll, Uncomment}
use Rattle.ini_file.specs.Requests.{Asks, Request, Ask, Change, Further}
use Rattle.ini_file.specs.Requests.{Rewrite, Listing, Sections, Keys, Get}

-- the request of a command without arguments, and of one with one, two or three
abbrev pub request_alone : Word → Lookup → Chosen → Option Request
request_alone command rule c =
    if bytes_eq command (codes "rewrite") then Some (Ask Rewrite)
    else if bytes_eq command (codes "list") then Some (Ask (Listing c.switches.null))
    else if bytes_eq command (codes "sections") then Some (Ask (Sections rule c.switches.null c.switches.all))
    else if bytes_eq command (codes "keys") then Some (Ask (Keys rule c.switches.null None))
    else None

-- the rule, under which the last value counts where that is chosen
abbrev pub rule_of : Lookup → (last : Bool) → Lookup
rule_of rule last = if last then record rule { values = LastValue } else rule

-- to get a key's values
abbrev pub getting : Lookup → Chosen → Text → Option Text → Option Request
getting rule c key section =
    Some (Ask (Get (rule_of rule c.switches.last) c.switches.null c.switches.all key section
    (option_map chars c.default)))

abbrev pub request_with_one : Word → Lookup → Chosen → Text → Option Request
request_with_one command rule c first =
    if bytes_eq command (codes "get") then getting rule c first None
    else if bytes_eq command (codes "keys") then Some (Ask (Keys rule c.switches.null (Some first)))
    else if bytes_eq command (codes "delete") then Some (Change (Delete None first))
    else if bytes_eq command (codes "delete-section") then Some (Change (DeleteSection first))
    else if bytes_eq command (codes "unset-all") then Some (Further (DeleteAll None first))
    else if bytes_eq command (codes "add-section") then Some (Further (AddSection first))
    else if bytes_eq command (codes "comment") then Some (Further (CommentOut None first))
    else if bytes_eq command (codes "uncomment") then Some (Further (Uncomment None first))
    else None

-- to set a value: wherever its pair stands, or only where the key is there
abbrev pub setting : Chosen → Option Text → Text → Text → Option Request
setting c name key value =
    if c.switches.existing then Some (Change (SetExisting name key value))
    else Some (Change (Set name key value))

abbrev pub request_with_two : Word → Lookup → Chosen → Text → Text → Option Request
request_with_two command rule c key second =
    if bytes_eq command (codes "get") then getting rule c key (Some second)
    else if bytes_eq command (codes "delete") then Some (Change (Delete (Some second) key))
    else if bytes_eq command (codes "unset-all") then Some (Further (DeleteAll (Some second) key))
    else if bytes_eq command (codes "comment") then Some (Further (CommentOut (Some second) key))
    else if bytes_eq command (codes "uncomment") then Some (Further (Uncomment (Some second) key))
    else if bytes_eq command (codes "set") then setting c None key second
    else if bytes_eq command (codes "add") then Some (Change (Add None key second))
    else if bytes_eq command (codes "rename-key") then Some (Change (RenameKey None key second))
    else if bytes_eq command (codes "rename-section") then Some (Change (RenameSection key second))
    else None

abbrev pub request_with_three : Word → Chosen → Text → Text → Text → Option Request
request_with_three command c key value section =
    if bytes_eq command (codes "set") then setting c (Some section) key value
    else if bytes_eq command (codes "add") then Some (Change (Add (Some section) key value))
    else if bytes_eq command (codes "rename-key") then Some (Change (RenameKey (Some section) key value))
    else None

-- the request of a command under a rule, with its choices and its arguments
abbrev pub request_for : Word → Lookup → Chosen → List Word → Option Request
request_for command rule c [] = request_alone command rule c
request_for command rule c (first ∷ []) = request_with_one command rule c (chars first)
request_for command rule c (first ∷ second ∷ []) =
    request_with_two command rule c (chars first) (chars second)
request_for command rule c (first ∷ second ∷ third ∷ []) =
    request_with_three command c (chars first) (chars second) (chars third)
request_for command rule c _ = None

-- the request that sets a list of values: of a key, and one value at least
abbrev pub request_of_list : Chosen → List Word → Option Request
request_of_list c (key ∷ value ∷ values) =
    Some (Further (SetAll (option_map chars c.section) (chars key) (map chars (value ∷ values))))
request_of_list c _ = None

-- the request of a command, with its choices and its arguments
abbrev pub request_chosen : Word → Lookup → Chosen → List Word → Option Request
request_chosen command rule c arguments =
    if c.switches.all && bytes_eq command (codes "set") then request_of_list c arguments
    else request_for command rule c arguments

-- what a command asks of a file that is called so: the file's name comes first, and then its arguments. None
-- where it is no command of one file, or doesn't take so many
abbrev pub asks_of_file : Word → Called → List Word → Option Asks
asks_of_file command c [] = None
asks_of_file command c (file ∷ arguments) =
    option_map (λ r. record {
      dialect = c.dialect;
      options = c.options;
      choices = c.choices;
      file = file;
      request = r;
    })
    (request_chosen command c.dialect.lookup c.choices arguments)

abbrev pub asks_of_call : Word → Called → Option Asks
asks_of_call command c = asks_of_file command c c.words
