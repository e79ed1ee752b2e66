use Rattle.std.proofs.Common.{◌∙◌, ap, chars, subst, sym}
use Rattle.ini_text.specs.Parsing.Items.{string_text}
use Rattle.ini_check.specs.Mends.Texts.{IsMended}
use Rattle.ini_check.specs.Warnings.{AreWarningsOf}
use Rattle.ini_check.proofs.MendLemmas.{no_traps_left}
use Rattle.ini_check.proofs.mends.mend.Goals as goal

pub traps-init : goal.traps-init
traps-init c =
    let same = ap chars c.in_ok-made.ensures.ok in
    record {
      warnings = subst (λ T. AreWarningsOf c.args.read T c.in_ok-warnings.warnings.items) (sym same)
          c.in_ok-warnings.ensures.warnings;
      mended = λ last is. subst (λ T. IsMended c.args.read c.args.traps.now T last) same is;
    }

pub traps-preserved : goal.traps-preserved
traps-preserved c =
    let more = c.in-Some.more.now in
    record {
      warnings = c.in_ok-made-2.ensures.warnings;
      mended = λ last is.
          c.traps.invariant.mended last
          (subst (λ ts. IsMended c.args.read ts (string_text c.traps.made) last)
          (sym c.in-Some.ensures.cases.0)
          (c.in_ok-made-2.ensures.mended more last is));
    }

pub returns-clause-mended : goal.returns-clause-mended
returns-clause-mended c =
    c.traps.invariant.mended (string_text c.traps.made)
    (no_traps_left c.traps.rest.now c.in_default.ensures.cases)
