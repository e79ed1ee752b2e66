use Rattle.std.proofs.Common.{◌∙◌, ap, arith, get_or}
use Rattle.ini_text.specs.declared.parser.tables.TheConstants.{DIGITS}
use Rattle.ini_text.proofs.StringLemmas.TableLemmas.{digit_found}
use Rattle.ini_text.proofs.parser.tables.digit.Goals as goal

pub returns-clause-value : goal.returns-clause-value
returns-clause-value c =
    λ small. (digit_found c.args.byte c.from-2.result (omega arith)
    (c.from-2.ensures ∙ ap (λ k. get_or DIGITS k 0) c.from.ensures) small).0

pub returns-clause-ascii : goal.returns-clause-ascii
returns-clause-ascii c =
    λ small. (digit_found c.args.byte c.from-2.result (omega arith)
    (c.from-2.ensures ∙ ap (λ k. get_or DIGITS k 0) c.from.ensures) small).1
