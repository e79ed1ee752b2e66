-- The text that is written for a document.
use Rattle.std.specs.Prelude.{Bool, false, not, ◌&&◌, ◌||◌, ◌==◌, if◌then◌else◌, length, [], ◌∷◌, ◌++◌}
use Rattle.std.specs.Prelude.{flat_map, Option, None, Some, chars}
use Rattle.ini_text.specs.Grammar.CharacterKinds.{open_bracket, close_bracket}
use Rattle.ini_text.specs.Escaping.EscapedTexts.{escaped}
use Rattle.ini_text.specs.Options.WriteOptions.{line_end}
use Rattle.ini_text.specs.declared.write.option.WriteOption.{WriteOption}
use Rattle.ini.specs.Texts.{Text}
use Rattle.ini.specs.Properties.{Pairs}
use Rattle.ini.specs.Documents.{Document}

abbrev pub has_pairs : Pairs → Bool
has_pairs pairs = not (length pairs == 0)

module _ (w : WriteOption) where
  -- the name in brackets, on a line of its own; the general section has none
  abbrev pub written_name : Option Text → Text
  written_name None = []
  written_name (Some name) =
      open_bracket ∷ escaped w.escape_policy name ++ close_bracket ∷ line_end w.line_separator

  -- the key, the separator and the value, on a line of their own
  abbrev pub written_pair : Text × Text → Text
  written_pair p = escaped w.escape_policy p.0 ++ chars w.kv_separator.now ++ escaped w.escape_policy p.1
      ++ line_end w.line_separator

  abbrev pub written_pairs : Pairs → Text
  written_pairs pairs = flat_map written_pair pairs

  -- an empty line before pairs, where an earlier section had some
  abbrev pub written_gap : Bool → Pairs → Text
  written_gap earlier pairs = if earlier && has_pairs pairs then line_end w.line_separator else []

  -- a section, where `earlier` says whether one before it had pairs
  abbrev pub written_section : Bool → Option Text × Pairs → Text
  written_section earlier s = written_gap earlier s.1 ++ written_name s.0 ++ written_pairs s.1

  -- the sections in order
  abbrev pub written_sections : Bool → Document → Text
  written_sections earlier [] = []
  written_sections earlier (s ∷ d) =
      written_section earlier s ++ written_sections (earlier || has_pairs s.1) d

-- the document's text
abbrev pub written : Document → WriteOption → Text
written d w = written_sections w false d
