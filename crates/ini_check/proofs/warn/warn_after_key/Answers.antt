use Rattle.std.proofs.Common.{◌∙◌, ◌∷◌, ◌++◌, [], ap, append_assoc, chars, length}
use Rattle.ini_check.specs.Traps.Values.{space_of}
use Rattle.ini_check.specs.Warnings.{value_warnings, warned_of}
use Rattle.ini_check.proofs.warn.warn_after_key.Goals as goal

pub warn_value-requires : goal.warn_value-requires
warn_value-requires c =
    record { room = c.after.ensures.room (length (chars c.args.source.now)) c.requires.room }

pub returns-clause-warned : goal.returns-clause-warned
returns-clause-warned c b at =
    let source = chars c.args.source.now in
    let mark = c.args.separator ∷ [] in
    let old = c.args.warnings.now.items in
    let values = value_warnings c.args.read ((b ++ mark) ++ space_of source) (chars c.args.key.now) source in
    c.in_ok-warn_value.ensures.warned (b ++ mark) (c.after.ensures.at b at)
    ∙ ap (λ ws. ws ++ values) (c.in_ok-warn_character.ensures.warned b at)
    ∙ append_assoc old (warned_of b mark c.separator_trap-trap.result) values
    ∙ ap (λ t. old ++ (warned_of b mark t ++ values)) c.separator_trap-trap.ensures
