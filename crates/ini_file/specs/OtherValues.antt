-- Where keys have several values, and one is compared: which of them differ all the same.
use Rattle.std.specs.Prelude.{ℕ, Bool, true, false, not, ◌||◌, ◌==◌, if◌then◌else◌, List, [], ◌∷◌, ◌++◌}
use Rattle.std.specs.Prelude.{Option, None, Some, codes, encode_utf8_all}
use Rattle.std.specs.List.{find, list_any}
use Rattle.std.specs.Option.{option_map_or}
use Rattle.ini_text.specs.Escaping.EscapedTexts.{escaped}
use Rattle.ini_text.specs.Grammar.CharacterKinds.{line_feed}
use Rattle.ini_text.specs.declared.write.policy.EscapePolicy.TheVariants.{Basics}
use Rattle.ini.specs.Documents.{Document}
use Rattle.ini.specs.Properties.{Pairs, values}
use Rattle.ini.specs.Texts.{Text}
use Rattle.ini_dialect.specs.Flattened.{listed}
use Rattle.ini_dialect.specs.Rules.{is_own}
use Rattle.ini_dialect.specs.declared.rule.Lookup.{Lookup}
use Rattle.ini_layers.specs.Differences.{SettingChange, difference}
use Rattle.ini_layers.specs.declared.change.SettingValue.{SettingValue}
use Rattle.ini_layers.specs.declared.change.SettingValue.TheVariants.{Counting, List as WholeList}
use Rattle.ini_file.specs.ChangeLines.{front}

abbrev pub are_several : {X : Type 0} → List X → Bool
are_several (x ∷ (y ∷ xs)) = true
are_several _ = false

-- one of the keys has several values
abbrev pub has_repeated : Pairs → Bool
has_repeated ps = list_any (λ p. are_several (values p.0 ps)) ps

-- A key may have several: in a section, or, by another rule than the default one, in sections or spellings
-- that the rule puts together.
abbrev pub may_have_several : Lookup → Document → Bool
may_have_several rule d = not (is_own rule) || list_any (λ s. has_repeated s.1) d

-- a list of values, as a text, has several: a line each
abbrev pub lists_several : Option Text → Bool
lists_several list = option_map_or (λ lines. list_any (λ c. c == line_feed) lines) list false

-- the first setting whose lists of values differ, of which one has several
abbrev pub differing_lists : Lookup → (from to : Document) → Option SettingChange
differing_lists rule from to =
    if may_have_several rule from || may_have_several rule to
    then find (λ c. lists_several c.old || lists_several c.new) (difference (listed rule from) (listed rule to))
    else None

abbrev pub others_words : List ℕ
others_words = codes " has several values, which differ: --lists compares them all\n"

abbrev pub others_line : SettingChange → List ℕ
others_line c =
    encode_utf8_all (codes "ini_file: " ++ (front c.name ++ (escaped Basics c.key ++ others_words)))

-- what is told of it, where one value is compared
abbrev pub others_told : SettingValue → Lookup → (from to : Document) → List ℕ
others_told Counting rule from to = option_map_or others_line (differing_lists rule from to) []
others_told WholeList rule from to = []
