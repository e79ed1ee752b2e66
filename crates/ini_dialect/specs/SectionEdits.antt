-- Edits under a rule of the sections of a text in pieces: which are taken out or get another name, and the
-- document afterwards.
use Rattle.std.specs.Prelude.{◌≡◌, Bool, ◌&&◌, not, if◌then◌else◌, List, map, Option, None, Some}
use Rattle.std.specs.Map.{remove_entry}
use Rattle.ini_multimap.specs.Pairs.{without}
use Rattle.ini_text.specs.Laws.Plain.{IsPlainName}
use Rattle.ini_text.specs.declared.option.ParseOption.{ParseOption}
use Rattle.ini_text.specs.declared.write.policy.EscapePolicy.{EscapePolicy}
use Rattle.ini.specs.Documents.{Document}
use Rattle.ini.specs.Edits.{first_renamed}
use Rattle.ini.specs.Texts.{Text}
use Rattle.ini_edit.specs.SourceEdits.{IsNameRenamed, first_fitting}
use Rattle.ini_edit.specs.SourceEditsList.{with_sections}
use Rattle.ini_edit.specs.SourceEditsSections.{section_deleted}
use Rattle.ini_edit.specs.SourceEditsSet.{IsMemoryRefusal}
use Rattle.ini_edit.specs.Sources.{Pieces, SectionPiece}
use Rattle.ini_edit.specs.declared.error.EditError.{EditError}
use Rattle.ini_edit.specs.declared.error.EditError.TheVariants.{Name}
use Rattle.ini_dialect.specs.Lookups.{has_section, name_fits}
use Rattle.ini_dialect.specs.declared.rule.CaseRule.{CaseRule}
use Rattle.ini_dialect.specs.declared.rule.CaseRule.TheVariants.{Kept}
use Rattle.ini_dialect.specs.declared.rule.Lookup.{Lookup}
use Rattle.ini_dialect.specs.declared.rule.SectionRule.{SectionRule}
use Rattle.ini_dialect.specs.declared.rule.SectionRule.TheVariants.{First as FirstSection, Joined}

-- a section of the name is there
abbrev pub has_fitting : CaseRule → Text → Document → Bool
has_fitting case name d = has_section case (Some name) d

abbrev pub has_named : Lookup → Text → Document → Bool
has_named rule name d = has_fitting rule.case name d

-- a section's name fits the one that is sought, and isn't `but`, where one is given
abbrev pub is_sought : CaseRule → Text → (but : Option Text) → Option Text → Bool
is_sought case name None n = name_fits case (Some name) n
is_sought case name (Some but) n = name_fits case (Some name) n && not (name_fits Kept (Some but) n)

module _ (test : Option Text → Bool) where
  -- the first of the sections that passes has this name
  pub record IsFirstNamed (ss : List SectionPiece) (name : Text) : Type 0 where
    pub section : SectionPiece
    pub first : first_fitting (λ s. test s.name) ss ≡ Some section
    pub is_called : section.name ≡ Some name

  -- A step with the first section that passes was made, where sections are joined as often as there was one.
  pub data AreEachMade (step : Pieces → Pieces → Text → Type 0) : SectionRule → Pieces → Pieces → Type 0
    where
      none_left : {sections : SectionRule} {p : Pieces}
          → first_fitting (λ s. test s.name) p.sections ≡ None → AreEachMade step sections p p
      first_alone : {p q : Pieces} {name : Text} → IsFirstNamed p.sections name → step p q name
          → AreEachMade step FirstSection p q
      first_of : {p mid q : Pieces} {name : Text} → IsFirstNamed p.sections name → step p mid name
          → AreEachMade step Joined mid q → AreEachMade step Joined p q

-- the first section of this very name was taken out
abbrev pub IsSectionDeleted : Pieces → Pieces → Text → Type 0
IsSectionDeleted p q name = q ≡ with_sections p (section_deleted p.option name p.sections)

-- the sections of the name that are looked at were
abbrev pub AreSectionsDeleted : Lookup → Text → Pieces → Pieces → Type 0
AreSectionsDeleted rule name p q =
    AreEachMade (λ n. is_sought rule.case name None n) IsSectionDeleted rule.sections p q

-- the document without them
abbrev pub removed_by : SectionRule → (Option Text → Bool) → Document → Document
removed_by FirstSection test d = remove_entry test d
removed_by Joined test d = without test d

abbrev pub sections_removed : Lookup → Text → Document → Document
sections_removed rule name d = removed_by rule.sections (λ n. name_fits rule.case (Some name) n) d

-- where sections are joined those that have the other name already stay as they are
abbrev pub kept_by : SectionRule → Text → Option Text
kept_by FirstSection other = None
kept_by Joined other = Some other

-- the sections of the name that are looked at got the other name
abbrev pub AreSectionsRenamed : Lookup → EscapePolicy → (name other : Text) → Pieces → Pieces → Type 0
AreSectionsRenamed rule policy name other p q =
    AreEachMade (λ n. is_sought rule.case name (kept_by rule.sections other) n)
    (λ p q n. IsNameRenamed policy p q n other) rule.sections p q

-- the document in which they have it
abbrev pub renamed_by : SectionRule → (Option Text → Bool) → Text → Document → Document
renamed_by FirstSection test other d = first_renamed test (Some other) d
renamed_by Joined test other d = map (λ s. if test s.0 then (Some other, s.1) else s) d

abbrev pub sections_renamed : Lookup → (name other : Text) → Document → Document
sections_renamed rule name other d =
    renamed_by rule.sections (λ n. name_fits rule.case (Some name) n) other d

-- the new name is refused that can't be written, whatever the text is; or memory is
abbrev pub RefusesName : ParseOption → EscapePolicy → Text → EditError → Type 0
RefusesName o policy name Name = ¬ IsPlainName o policy name
RefusesName o policy name e = IsMemoryRefusal e
