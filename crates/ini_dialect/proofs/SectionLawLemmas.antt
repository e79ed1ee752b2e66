-- What look-ups answer once sections are taken out under a rule.
use Rattle.std.proofs.Common.{◌≡◌, ◌∙◌, Bool, true, false, cond, [], ◌∷◌, Option, Some, ap, arith, inl, inr}
use Rattle.std.proofs.Common.{refl, sym}
use Rattle.std.proofs.lemmas.Bool.{cases_Bool}
use Rattle.ini_multimap.specs.Pairs.{values_at}
use Rattle.ini.specs.Documents.{Document}
use Rattle.ini.specs.Properties.{Pairs}
use Rattle.ini.specs.Texts.{Text}
use Rattle.ini_dialect.specs.LookupLaws.{KeepsOtherSections, LosesSections}
use Rattle.ini_dialect.specs.Lookups.{joined, looked, name_fits, text_fits}
use Rattle.ini_dialect.specs.SectionEdits.{removed_by}
use Rattle.ini_dialect.specs.declared.rule.Lookup.{Lookup}
use Rattle.ini_dialect.specs.declared.rule.SectionRule.{SectionRule}
use Rattle.ini_dialect.specs.declared.rule.SectionRule.TheVariants.{First as FirstSection, Joined}
use Rattle.ini_dialect.proofs.RuleLemmas.{names_equiv}

module _ (rule : Lookup) (name : Text) where
  abbrev goes : Option Text → Bool
  goes n = name_fits rule.case (Some name) n

  gone_joined : (d : Document) → looked rule (Some name) (removed_by Joined goes d) ≡ []
  gone_joined [] = refl
  gone_joined (s ∷ d) = grind (arith, gone_joined d)

  module _ (n : Option Text) (apart : name_fits rule.case n (Some name) ≡ false) where
    others_apart : (other : Option Text) → goes other ≡ true → name_fits rule.case n other ≡ false
    others_apart other fits =
        let laws = names_equiv rule.case in
        laws.symm n other ∙ sym (laws.congr (Some name) other n fits) ∙ laws.symm (Some name) n ∙ apart

    after : (s : Option Text × Pairs) {xs ys : Pairs} → xs ≡ ys
        → cond (name_fits rule.case n s.0) (joined rule.sections s.1 xs) xs
        ≡ cond (name_fits rule.case n s.0) (joined rule.sections s.1 ys) ys
    after s same = ap (λ l. cond (name_fits rule.case n s.0) (joined rule.sections s.1 l) l) same

    kept_by_all : (sections : SectionRule) (d : Document)
        → looked rule n (removed_by sections goes d) ≡ looked rule n d
    kept_by_all FirstSection [] = refl
    kept_by_all FirstSection (s ∷ d) =
        elim (cases_Bool (goes s.0)) [
          | inl fits ↦ rw (fits, others_apart s.0 fits) refl
          | inr other ↦ rw other (after s (kept_by_all FirstSection d))
        ]
    kept_by_all Joined [] = refl
    kept_by_all Joined (s ∷ d) =
        elim (cases_Bool (goes s.0)) [
          | inl fits ↦ rw (fits, others_apart s.0 fits) (kept_by_all Joined d)
          | inr other ↦ rw other (after s (kept_by_all Joined d))
        ]

pub sections-gone : (rule : Lookup) (name : Text) → LosesSections rule name
sections-gone rule name is key d =
    ap (values_at (text_fits rule.case key))
    (ap (λ sections. looked rule (Some name) (removed_by sections (goes rule name) d)) is
    ∙ gone_joined rule name d)

pub sections-keep : (rule : Lookup) (name : Text) → KeepsOtherSections rule name
sections-keep rule name n key d apart =
    ap (values_at (text_fits rule.case key)) (kept_by_all rule name n apart rule.sections d)
