use Rattle.std.proofs.Common.{rules, ℕ, ◌∙◌, Some, ap, length, sym}
use Rattle.std.specs.Option.{option_map}
use Rattle.ini_edit.specs.Sources.{text_in}
use Rattle.ini_c.specs.Held.{pieces_of}
use Rattle.ini_c.proofs.LookUpLemmas.{utf8_found}
use Rattle.ini_c.proofs.pieces.opening.bigrosk_ini_text_write.Goals as goal

pub returns-in-Ok-clause-text : goal.returns-in-Ok-clause-text
returns-in-Ok-clause-text c = λ done.
    utf8_found (option_map text_in (pieces_of c.args.text.now)) c.as_str.result.now c.as_str.utf8 (search rules)
    ∙ ap Some (sym (c.give.ensures.text done))

pub returns-in-Ok-clause-count : goal.returns-in-Ok-clause-count
returns-in-Ok-clause-count c = λ _.
    ap (option_map (length {A = ℕ}))
    (utf8_found (option_map text_in (pieces_of c.args.text.now)) c.as_str.result.now c.as_str.utf8 (search rules))
    ∙ ap Some (sym c.give.ensures.count)
