-- Which words compare two files, apply edits to one, and merge three.
use Rattle.std.specs.Prelude.{if◌then◌else◌, List, [], ◌∷◌, codes, Option, None, Some}
use Rattle.std.specs.Str.{bytes_eq}
use Rattle.ini_words.specs.Words.{Word}
use Rattle.ini_file.specs.Choices.{Chosen, chosen_of}
use Rattle.ini_file.specs.Fronts.{Called}
use Rattle.ini_file.specs.Ruled.{RuledBy, ruled_call, ruled_of}
use Rattle.ini_file.specs.declared.side_words.Application.{Application}
use Rattle.ini_file.specs.declared.side_words.Comparison.{Comparison}
use Rattle.ini_file.specs.declared.side_words.ThreeWay.{ThreeWay}

-- the two files that are compared
pub record Compared : Type 0 where
  pub ruled : RuledBy
  pub choices : Chosen
  pub from : Word
  pub to : Word

-- the file to which the edits are applied that another file tells
pub record Applied : Type 0 where
  pub ruled : RuledBy
  pub choices : Chosen
  pub file : Word
  pub edits : Word

-- the file that both others come from, the one whose changes are taken, and the one in which they are made
pub record ThreeFiles : Type 0 where
  pub ruled : RuledBy
  pub choices : Chosen
  pub base : Word
  pub ours : Word
  pub theirs : Word

-- what is compared where there are two files, and what is merged where there are three
abbrev pub comparison_between : RuledBy → Chosen → List Word → Option Compared
comparison_between r c (from ∷ to ∷ []) = Some (record { ruled = r; choices = c; from = from; to = to })
comparison_between r c _ = None

-- the edits' file is standard input where it isn't named, which the other file isn't then
abbrev pub application_between : RuledBy → Chosen → List Word → Option Applied
application_between r c (file ∷ []) =
    if bytes_eq file (codes "-") then None
    else Some (record { ruled = r; choices = c; file = file; edits = codes "-" })
application_between r c (file ∷ edits ∷ []) =
    Some (record { ruled = r; choices = c; file = file; edits = edits })
application_between r c _ = None

abbrev pub three_way_between : RuledBy → Chosen → List Word → Option ThreeFiles
three_way_between r c (base ∷ ours ∷ theirs ∷ []) =
    Some (record { ruled = r; choices = c; base = base; ours = ours; theirs = theirs })
three_way_between r c _ = None

-- what a command compares, applies or merges that is called so
abbrev pub comparison_asked : Called → Option Compared
comparison_asked c = comparison_between (ruled_call c) c.choices c.words

abbrev pub application_asked : Called → Option Applied
application_asked c = application_between (ruled_call c) c.choices c.words

abbrev pub three_way_asked : Called → Option ThreeFiles
three_way_asked c = three_way_between (ruled_call c) c.choices c.words

-- what is kept as borrowed words
abbrev pub compared_of : Comparison → Compared
compared_of c = record {
  ruled = ruled_of c.ruled;
  choices = chosen_of c.choices;
  from = c.from.now;
  to = c.to.now;
}

abbrev pub applied_of : Application → Applied
applied_of a = record {
  ruled = ruled_of a.ruled;
  choices = chosen_of a.choices;
  file = a.file.now;
  edits = a.edits.now;
}

abbrev pub three_way_of : ThreeWay → ThreeFiles
three_way_of m = record {
  ruled = ruled_of m.ruled;
  choices = chosen_of m.choices;
  base = m.base.now;
  ours = m.ours.now;
  theirs = m.theirs.now;
}
