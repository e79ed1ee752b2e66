-- Where the bytes go that a command makes of a file.
use Rattle.std.specs.Prelude.{Bool, true, false, ◌&&◌, if◌then◌else◌, ℕ, List, codes}
use Rattle.std.specs.Prelude.{Option, None, Some, unwrap_or}
use Rattle.std.specs.Str.{bytes_eq}
use Rattle.ini_edit.specs.Editings.{Add, Set}
use Rattle.ini_words.specs.Words.{Word}
use Rattle.ini_file.specs.Choices.{Chosen}
use Rattle.ini_file.specs.Further.{AddSection, SetAll}
use Rattle.ini_file.specs.Requests.{Asks, Request, Ask, Change, Further, Rewrite}
use Rattle.ini_file.specs.declared.run.Outcome.{Outcome}
use Rattle.ini_file.specs.declared.run.Outcome.TheVariants.{Done, NotFound}

-- the request is an edit
abbrev pub is_edit : Request → Bool
is_edit (Ask q) = false
is_edit (Change e) = true
is_edit (Further e) = true

-- what the request makes belongs into the file itself: so it is with an edit, and with the document
abbrev pub is_of_file : Request → Bool
is_of_file (Ask Rewrite) = true
is_of_file (Ask _) = false
is_of_file (Change e) = true
is_of_file (Further e) = true

-- the request makes a file that isn't there
abbrev pub makes_file : Request → Bool
makes_file (Change (Set name key value)) = true
makes_file (Change (Add name key value)) = true
makes_file (Further (AddSection name)) = true
makes_file (Further (SetAll name key values)) = true
makes_file _ = false

-- The file that is written: the one that `--output` names; else the file itself, where what is made belongs
-- there; else standard output, `-`.
abbrev pub place_of : Chosen → Word → Bool → Word
place_of c file into_file = unwrap_or c.output (if into_file then file else codes "-")

-- the same of what words ask for
abbrev pub place_asked : Asks → Word
place_asked a = place_of a.choices a.file (is_of_file a.request)

-- the file that a fault of writing is reported of: the one that is written; of standard output the one that
-- is read
abbrev pub reported : Word → Word → Word
reported file place = if bytes_eq place (codes "-") then file else place

-- the text of an edit goes to standard output
abbrev pub is_filter : Asks → Bool
is_filter a = is_edit a.request && bytes_eq (place_asked a) (codes "-")

-- The bytes that are handed on once a run has ended: those that it made; or the file's own, where such an
-- edit finds nothing.
abbrev pub handed_on : Asks → Outcome → List ℕ → Option (List ℕ)
handed_on a (Done bytes) input = Some bytes.items
handed_on a NotFound input = if is_filter a then Some input else None
handed_on a _ input = None
