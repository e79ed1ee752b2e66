use Rattle.std.proofs.Common.{chars, subst}
use Rattle.ini.specs.Texts.{Text, str_name}
use Rattle.ini.specs.Properties.{Pairs}
use Rattle.ini_edit.specs.Sources.{document_in}
use Rattle.ini_dialect.specs.Lookups.{text_fits}
use Rattle.ini_dialect.specs.Numbers.{CountsAt, NonePasses}
use Rattle.ini_dialect.proofs.PutUnderLemmas.{any_none, item_read}
use Rattle.ini_dialect.proofs.SourceLookupLemmas.{no_value, no_value_there}
use Rattle.ini_dialect.proofs.rule.Lookup.find_in_source.Goals as goal

pub returns-clause-found : goal.returns-clause-found
returns-clause-found c =
    let x = c.index-sections-section.result in
    let is = item_read c.args.source.now.sections c.sections.result.now c.in_ok-section.ensures.found x
    c.sections.ensures c.index-sections-section.is in
    record {
      in_document = c.in_ok-section.ensures.found;
      in_section = subst (λ (ps : Pairs). CountsAt c.args.self.values
          (λ (p : Text × Text). text_fits c.args.self.case (chars c.args.key.now) p.0) ps c.in_ok-pair.pair)
          is c.in_ok-pair.ensures.found;
    }

pub returns-in_err-section-clause-none : goal.returns-in_err-section-clause-none
returns-in_err-section-clause-none c =
    any_none c.from_residual.result
    (no_value c.args.self (str_name c.args.name) (chars c.args.key.now) (document_in c.args.source.now)
    c.in_err-section.ensures.none)

pub returns-in_err-pair-clause-none : goal.returns-in_err-pair-clause-none
returns-in_err-pair-clause-none c =
    let x = c.index-sections-section.result in
    let is = item_read c.args.source.now.sections c.sections.result.now c.in_ok-section.ensures.found x
    c.sections.ensures c.index-sections-section.is in
    any_none c.from_residual-in_err-pair.result
    (no_value_there c.args.self (str_name c.args.name) (chars c.args.key.now) (document_in c.args.source.now)
    c.in_ok-section.ensures.found
    (subst (λ (ps : Pairs). NonePasses (λ (p : Text × Text). text_fits c.args.self.case
    (chars c.args.key.now) p.0) ps) is c.in_err-pair.ensures.none))
