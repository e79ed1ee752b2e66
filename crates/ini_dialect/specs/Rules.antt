-- The rule of the calls of `Ini` and `View`.
use Rattle.std.specs.Prelude.{Bool, true, false}
use Rattle.ini_dialect.specs.declared.rule.CaseRule.{CaseRule}
use Rattle.ini_dialect.specs.declared.rule.CaseRule.TheVariants.{Kept}
use Rattle.ini_dialect.specs.declared.rule.Lookup.{Lookup}
use Rattle.ini_dialect.specs.declared.rule.SectionRule.{SectionRule}
use Rattle.ini_dialect.specs.declared.rule.SectionRule.TheVariants.{First as FirstSection}
use Rattle.ini_dialect.specs.declared.rule.ValueRule.{ValueRule}
use Rattle.ini_dialect.specs.declared.rule.ValueRule.TheVariants.{First as FirstValue}

-- the first section, the first value, case kept
abbrev pub default_lookup : Lookup
default_lookup = record { sections = FirstSection; values = FirstValue; case = Kept }

-- whether a rule is that one
abbrev pub is_own_by : SectionRule → ValueRule → CaseRule → Bool
is_own_by FirstSection FirstValue Kept = true
is_own_by _ _ _ = false

abbrev pub is_own : Lookup → Bool
is_own rule = is_own_by rule.sections rule.values rule.case
