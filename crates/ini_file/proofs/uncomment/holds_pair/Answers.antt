use Rattle.std.proofs.Common.{◌∙◌, ap, chars, map}
use Rattle.ini_edit.specs.Sources.{given_section}
use Rattle.ini_file.specs.Uncomment.{HoldsPair, is_pair_alone}
use Rattle.ini_file.proofs.uncomment.holds_pair.Goals as goal

pub returns-in-Ok-clause-holds : goal.returns-in-Ok-clause-holds
returns-in-Ok-clause-holds c =
    HoldsPair.is_read c.in-Ok.ensures.document
    (c.is_pair_alone.ensures
    ∙ ap (λ ss. is_pair_alone c.args.case (chars c.args.key.now) (map given_section ss)) c.sections.ensures)

pub returns-in-Err-Parse-clause-holds : goal.returns-in-Err-Parse-clause-holds
returns-in-Err-Parse-clause-holds c =
    HoldsPair.is_refused (rw c.in-Err-Parse.field-0-is at c.in-Err-Parse.ensures.fault)
