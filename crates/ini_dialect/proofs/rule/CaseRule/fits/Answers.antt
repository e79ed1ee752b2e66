use Rattle.std.proofs.Common.{◌∙◌, ap, chars, sym}
use Rattle.ini_dialect.specs.Lookups.{text_fits}
use Rattle.ini_dialect.proofs.TextLemmas.{fits_ignored}
use Rattle.ini_dialect.proofs.rule.CaseRule.fits.Goals as goal

pub returns-in-Ignored : goal.returns-in-Ignored
returns-in-Ignored c =
    fits_ignored c.args.one.now c.args.other.now c.utf8.one c.utf8.other c.eq_ignore_ascii_case.result
    c.eq_ignore_ascii_case.ensures.test
    ∙ ap (λ case. text_fits case (chars c.args.one.now) (chars c.args.other.now)) (sym c.in-Ignored.is)
