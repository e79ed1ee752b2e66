-- By which rule settings are looked up, as C says it.
use Rattle.std.specs.Prelude.{◌==◌, if◌then◌else◌, ℕ, Option, Some, None}
use Rattle.std.specs.Option.{option_map, option_and_then}
use Rattle.ini_dialect.specs.declared.rule.CaseRule.{CaseRule}
use Rattle.ini_dialect.specs.declared.rule.CaseRule.TheVariants.{Kept, Ignored}
use Rattle.ini_dialect.specs.declared.rule.Lookup.{Lookup}
use Rattle.ini_dialect.specs.declared.rule.SectionRule.{SectionRule}
use Rattle.ini_dialect.specs.declared.rule.SectionRule.TheVariants.{First as FirstSection, Joined}
use Rattle.ini_dialect.specs.declared.rule.ValueRule.{ValueRule}
use Rattle.ini_dialect.specs.declared.rule.ValueRule.TheVariants.{First as FirstValue, Last}
use Rattle.ini_layers.specs.declared.change.SettingValue.{SettingValue}
use Rattle.ini_layers.specs.declared.change.SettingValue.TheVariants.{Counting, List as WholeList}
use Rattle.ini_c.specs.declared.rule.LookupChoice.{LookupChoice}

-- which sections of a name are looked at, by a number: other numbers stand for nothing
abbrev pub section_rule_of : ℕ → Option SectionRule
section_rule_of n = if n == 0 then Some FirstSection else if n == 1 then Some Joined else None

-- the same of which value of a key counts: where all do, as a list, it makes no difference which rule that is
abbrev pub value_rule_of : ℕ → Option ValueRule
value_rule_of n =
    if n == 0 then Some FirstValue else if n == 1 then Some Last
    else if n == 2 then Some FirstValue else None

-- what a setting's value is, by the same number
abbrev pub setting_value_by : ℕ → SettingValue
setting_value_by n = if n == 2 then WholeList else Counting

-- the same of whether case is ignored
abbrev pub case_rule_of : ℕ → Option CaseRule
case_rule_of n = if n == 0 then Some Kept else if n == 1 then Some Ignored else None

-- the rule that stands there, if each number stands for a part of one
abbrev pub rule_of : LookupChoice → Option Lookup
rule_of c = option_and_then
    (λ sections. option_and_then
    (λ values. option_map (λ case. record { sections = sections; values = values; case = case })
    (case_rule_of c.ignore_case))
    (value_rule_of c.values))
    (section_rule_of c.sections)

-- what a setting's value is there
abbrev pub setting_value_of : LookupChoice → SettingValue
setting_value_of c = setting_value_by c.values
