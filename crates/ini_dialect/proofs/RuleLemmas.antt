-- Whether texts and names fit is an equivalence.
use Rattle.std.proofs.Common.{◌≡◌, true, refl}
use Rattle.std.specs.Cmp.{IsEquivalence}
use Rattle.std.specs.Cmp.Lexicographic.{nat_list_eq_equiv, options_equiv}
use Rattle.ini_dialect.specs.Lookups.{name_fits, small, text_fits}
use Rattle.ini_dialect.specs.Rules.{default_lookup, is_own, is_own_by}
use Rattle.ini_dialect.specs.declared.rule.CaseRule.{CaseRule}
use Rattle.ini_dialect.specs.declared.rule.CaseRule.TheVariants.{Kept, Ignored}
use Rattle.ini_dialect.specs.declared.rule.Lookup.{Lookup}
use Rattle.ini_dialect.specs.declared.rule.SectionRule.{SectionRule}
use Rattle.ini_dialect.specs.declared.rule.SectionRule.TheVariants.{First as FirstSection, Joined}
use Rattle.ini_dialect.specs.declared.rule.ValueRule.{ValueRule}
use Rattle.ini_dialect.specs.declared.rule.ValueRule.TheVariants.{First as FirstValue, Last}

pub texts_equiv : (case : CaseRule) → IsEquivalence (text_fits case)
texts_equiv Kept = nat_list_eq_equiv
texts_equiv Ignored = record {
  refl = λ x. nat_list_eq_equiv.refl (small x);
  symm = λ x y. nat_list_eq_equiv.symm (small x) (small y);
  congr = λ x y z. nat_list_eq_equiv.congr (small x) (small y) (small z);
}

pub names_equiv : (case : CaseRule) → IsEquivalence (name_fits case)
names_equiv case = options_equiv (texts_equiv case)

-- a rule that is the default one
pub own-default : (rule : Lookup) → is_own rule ≡ true → rule ≡ default_lookup
own-default rule own = at rule.sections rule.values rule.case own
  where
    at : (s : SectionRule) (v : ValueRule) (c : CaseRule) → is_own_by s v c ≡ true
        → record { sections = s; values = v; case = c } ≡ default_lookup
    at FirstSection FirstValue Kept own = refl
    at Joined v c own = absurd cc
    at FirstSection Last c own = absurd cc
    at FirstSection FirstValue Ignored own = absurd cc
