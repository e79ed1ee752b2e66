use Rattle.std.proofs.Common.{◌∙◌, ap, arith, get_or}
use Rattle.ini_text.specs.declared.parser.tables.TheConstants.{LETTERS}
use Rattle.ini_text.proofs.StringLemmas.TableLemmas.{letter_found}
use Rattle.ini_text.proofs.parser.tables.letter_value.Goals as goal

pub returns : goal.returns
returns c =
    let found = letter_found c.args.byte c.from-2.result (omega arith)
    (c.from-2.ensures ∙ ap (λ k. get_or LETTERS k 0) c.from.ensures) (omega (arith, c.from-2.ensures)) in
    record { value = found.0; letter = found.1 }
