use Rattle.std.proofs.Common.{◌∙◌, ◌++◌, ap, sym}
use lib.Utf8.{encode}
use Rattle.ini_text.proofs.StringLemmas.ByteOrderMarkLemmas.{unmarked-mark, unmarked-none}
use Rattle.ini_text.proofs.byte_order_mark.without_byte_order_mark.Goals as goal

pub returns-in-Some : goal.returns-in-Some
returns-in-Some c =
    let found = c.in-Some.ensures.cases in
    let begins = found.1.split ∙ ap (λ r. encode 0xFEFF ++ r) (sym found.2) in
    unmarked-mark c.args.text.now c.in-Some.rest.now c.utf8.text begins

pub returns-in-None : goal.returns-in-None
returns-in-None c = unmarked-none c.args.text.now c.utf8.text c.in-None.ensures.cases
