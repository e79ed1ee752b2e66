use Rattle.ini_dialect.specs.Guesses.{HasCount}
use Rattle.ini_dialect.proofs.guessing.count_warnings.Goals as goal

pub returns-in-Ok-clause-counted : goal.returns-in-Ok-clause-counted
returns-in-Ok-clause-counted c =
    rw c.as_slice.ensures.value (HasCount.warns c.in-Ok.ensures.warnings)

pub returns-in-Err-Parse-clause-counted : goal.returns-in-Err-Parse-clause-counted
returns-in-Err-Parse-clause-counted c =
    HasCount.refused (rw c.in-Err-Parse.field-0-is at c.in-Err-Parse.ensures.fault)
