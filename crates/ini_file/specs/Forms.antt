-- The forms in which names, keys and values are written, and which values are got.
use Rattle.std.specs.Prelude.{Bool, true, false, if◌then◌else◌, flat_map, map, Option, None, Some, is_some}
use Rattle.std.specs.Option.{option_map, option_or}
use Rattle.ini.specs.Texts.{Text}
use Rattle.ini.specs.Documents.{Document}
use Rattle.ini_dialect.specs.Lookups.{all_values, has_section, keys_under, names_under, value_under}
use Rattle.ini_dialect.specs.declared.rule.CaseRule.{CaseRule}
use Rattle.ini_dialect.specs.declared.rule.CaseRule.TheVariants.{Ignored, Kept}
use Rattle.ini_dialect.specs.declared.rule.Lookup.{Lookup}
use Rattle.ini_dialect.specs.declared.rule.SectionRule.{SectionRule}
use Rattle.ini_dialect.specs.declared.rule.SectionRule.TheVariants.{First as FirstSection}
use Rattle.ini_words.specs.Lines.{entry, key_entries, name_entries, name_entry}
use Rattle.ini_words.specs.declared.lines.form.Form.{Form}
use Rattle.ini_words.specs.declared.lines.form.Form.TheVariants.{Escaped, AsIs, Null}

-- what is listed stands on lines, or as it is with NUL
abbrev pub listing_form : Bool → Form
listing_form null = if null then Null else Escaped

-- a value stands as it is, with a line feed or with NUL
abbrev pub value_form : Bool → Form
value_form null = if null then Null else AsIs

-- the value of the key that counts, or all that are looked at in order, where the key is there; the default
-- alone where it isn't; no text where there is no default either
abbrev pub got : Lookup → Bool → Bool → Text → Option Text → Option Text → Document → Option Text
got rule null false key section default d =
    option_map (entry (value_form null)) (option_or (value_under rule section key d) default)
got rule null true key section default d =
    if is_some (value_under rule section key d)
    then Some (flat_map (entry (value_form null)) (all_values rule section key d))
    else option_map (entry (value_form null)) default

-- the names: each that differs; where case is ignored each that differs but for that
abbrev pub names_by : CaseRule → Lookup → Form → Document → Text
names_by Kept rule form d = name_entries form d
names_by Ignored rule form d = flat_map (name_entry form) (names_under rule d)

-- or that of each section, in order
abbrev pub names_listed : Lookup → (all : Bool) → Form → Document → Text
names_listed rule all form d =
    if all then flat_map (name_entry form) (map (λ s. s.0) d) else names_by rule.case rule form d

-- each key once, of the sections of the name that are looked at; no text where there is none
abbrev pub keys_once : Lookup → Form → Option Text → Document → Option Text
keys_once rule form section d =
    if has_section rule.case section d then Some (flat_map (entry form) (keys_under rule section d))
    else None

-- the keys: of the first section alone, with case kept, that of each pair; else each key once
abbrev pub keys_by : SectionRule → CaseRule → Lookup → Form → Option Text → Document → Option Text
keys_by FirstSection Kept rule form section d = key_entries form section d
keys_by _ _ rule form section d = keys_once rule form section d

abbrev pub keys_listed : Lookup → Form → Option Text → Document → Option Text
keys_listed rule form section d = keys_by rule.sections rule.case rule form section d
