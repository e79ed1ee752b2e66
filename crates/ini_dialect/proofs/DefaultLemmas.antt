-- The default rule answers what the calls of a document answer.
use Rattle.std.proofs.Common.{◌≡◌, ◌∙◌, Bool, true, false, List, [], ◌∷◌, Option, None, Some, ap, arith, refl}
use Rattle.std.proofs.Common.{sym, unwrap_or, option_and_then}
use Rattle.std.specs.Map.{lookup}
use Rattle.ini_multimap.specs.Pairs.{values_at}
use Rattle.ini.specs.Texts.{Text, is_text}
use Rattle.ini.specs.Properties.{Pairs, distinct, first_value, values}
use Rattle.ini.specs.Documents.{Document, first_section, value_in}
use Rattle.ini.specs.EditLaws.{values_in}
use Rattle.ini_dialect.specs.LookupLaws.{AnswersAsCrate}
use Rattle.ini_dialect.specs.Lookups.{counting, looked}
use Rattle.ini_dialect.specs.Rules.{default_lookup}
use Rattle.ini_dialect.specs.declared.rule.ValueRule.TheVariants.{First as FirstValue}

first-value : (key : Text) (ps : Pairs)
    → counting FirstValue (values_at (is_text key) ps) ≡ first_value key ps
first-value key [] = refl
first-value key (p ∷ ps) = grind (arith, first-value key ps)

looked-default : (name : Option Text) (d : Document)
    → looked default_lookup name d ≡ unwrap_or (first_section name d) []
looked-default name [] = refl
looked-default name (s ∷ d) = grind (arith, looked-default name d)

value-there : (key : Text) (o : Option Pairs)
    → counting FirstValue (values_at (is_text key) (unwrap_or o [])) ≡ option_and_then (first_value key) o
value-there key None = refl
value-there key (Some ps) = first-value key ps

values-there : (name : Option Text) (key : Text) (d : Document)
    → values key (unwrap_or (first_section name d) []) ≡ values_in name key d
values-there name key d = at (first_section name d) refl
  where
    at : (o : Option Pairs) → first_section name d ≡ o
        → values key (unwrap_or (first_section name d) []) ≡ values_in name key d
    at None is = rw is refl
    at (Some ps) is = rw is refl

pub default-answers : AnswersAsCrate default_lookup
default-answers = record {
  value = λ name key d.
      ap (λ ps. counting FirstValue (values_at (is_text key) ps)) (looked-default name d)
      ∙ value-there key (first_section name d);
  values = λ name key d. ap (values key) (looked-default name d) ∙ values-there name key d;
  keys = λ name d. ap distinct (looked-default name d);
  names = λ d. refl;
}
