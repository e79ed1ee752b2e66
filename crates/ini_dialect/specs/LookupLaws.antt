-- What holds of a look-up under a rule: after an edit under the rule, and by the default rule.
use Rattle.std.specs.Prelude.{◌≡◌, true, false, ◌&&◌, ◌||◌, [], Option, Some, unwrap_or}
use Rattle.ini.specs.Texts.{Text}
use Rattle.ini.specs.Properties.{distinct}
use Rattle.ini.specs.Documents.{Document, first_section, names, value_in}
use Rattle.ini.specs.EditLaws.{values_in}
use Rattle.ini_dialect.specs.KeyEdits.{keys_renamed}
use Rattle.ini_dialect.specs.Lookups.{all_values, delete_under, keys_under, name_fits, names_under, set_under}
use Rattle.ini_dialect.specs.Lookups.{text_fits, value_under}
use Rattle.ini_dialect.specs.SectionEdits.{sections_removed}
use Rattle.ini_dialect.specs.declared.rule.Lookup.{Lookup}
use Rattle.ini_dialect.specs.declared.rule.SectionRule.TheVariants.{Joined}

-- a look-up by another name or another key answers what it answered
abbrev pub KeepsOtherLookups : Lookup → Option Text → Text → (Document → Document) → Type 0
KeepsOtherLookups rule name key edit = (n : Option Text) (k : Text) (d : Document)
    → (name_fits rule.case n name && text_fits rule.case k key) ≡ false
    → all_values rule n k (edit d) ≡ all_values rule n k d

-- after `set` the look-up answers the value, and after `delete` nothing
abbrev pub AnswersSet : Lookup → Option Text → Text → Text → Type 0
AnswersSet rule name key value = (d : Document)
    → value_under rule name key (set_under rule name key value d) ≡ Some value

abbrev pub AnswersNothing : Lookup → Option Text → Text → Type 0
AnswersNothing rule name key = (d : Document)
    → all_values rule name key (delete_under rule name key d) ≡ []

-- after the pairs of a key have another one, which doesn't fit it, a look-up by the key answers nothing; by
-- the other one what it answered by the key, where it answered nothing by the other
pub record MovesValues (rule : Lookup) (name : Option Text) (key other : Text) : Type 0 where
  pub lost : text_fits rule.case key other ≡ false → (d : Document)
      → all_values rule name key (keys_renamed rule name key other d) ≡ []
  pub moved : (d : Document) → all_values rule name other d ≡ []
      → all_values rule name other (keys_renamed rule name key other d) ≡ all_values rule name key d
  -- where it fits the key, as in other case, every look-up answers what it answered
  pub same : text_fits rule.case key other ≡ true → (n : Option Text) (k : Text) (d : Document)
      → all_values rule n k (keys_renamed rule name key other d) ≡ all_values rule n k d

-- and by another name, or a key that fits neither, what it answered
abbrev pub KeepsUnrenamed : Lookup → Option Text → (key other : Text) → Type 0
KeepsUnrenamed rule name key other = (n : Option Text) (k : Text) (d : Document)
    → (name_fits rule.case n name && (text_fits rule.case k key || text_fits rule.case k other)) ≡ false
    → all_values rule n k (keys_renamed rule name key other d) ≡ all_values rule n k d

-- after the sections of a name are taken out, and they are joined, a look-up there answers nothing
abbrev pub LosesSections : Lookup → Text → Type 0
LosesSections rule name = rule.sections ≡ Joined → (key : Text) (d : Document)
    → all_values rule (Some name) key (sections_removed rule name d) ≡ []

-- and by a name that doesn't fit what it answered
abbrev pub KeepsOtherSections : Lookup → Text → Type 0
KeepsOtherSections rule name = (n : Option Text) (key : Text) (d : Document)
    → name_fits rule.case n (Some name) ≡ false
    → all_values rule n key (sections_removed rule name d) ≡ all_values rule n key d

-- the rule answers what the calls of a document and of its first section answer
pub record AnswersAsCrate (rule : Lookup) : Type 0 where
  pub value : (name : Option Text) (key : Text) (d : Document)
      → value_under rule name key d ≡ value_in name key d
  pub values : (name : Option Text) (key : Text) (d : Document)
      → all_values rule name key d ≡ values_in name key d
  pub keys : (name : Option Text) (d : Document)
      → keys_under rule name d ≡ distinct (unwrap_or (first_section name d) [])
  pub names : (d : Document) → names_under rule d ≡ names d
