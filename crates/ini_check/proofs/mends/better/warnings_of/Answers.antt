use Rattle.ini_check.proofs.MendLemmas.{parse_stops}
use Rattle.ini_check.proofs.mends.better.warnings_of.Goals as goal

pub returns-in-Err-Parse-clause-warnings : goal.returns-in-Err-Parse-clause-warnings
returns-in-Err-Parse-clause-warnings c =
    parse_stops c.in-Err-Parse.field-0-0 c.in-Err-Parse.field-0-is c.in-Err-Parse.ensures.fault
