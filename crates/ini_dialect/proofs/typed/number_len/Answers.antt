use Rattle.std.proofs.Common.{◌∙◌, arith, length, sym}
use Rattle.std.proofs.lemmas.List.Sums.{position_or_len_is}
use Rattle.std.specs.Char.{is_ascii_alphabetic}
use Rattle.ini_dialect.proofs.typed.number_len.Goals as goal

pub returns-then-is_ascii_alphabetic : goal.returns-then-is_ascii_alphabetic
returns-then-is_ascii_alphabetic c =
    sym (position_or_len_is is_ascii_alphabetic c.args.text.now c.loop-i.i 0 (omega arith) c.loop-i.invariant
    (λ _. sym c.is_ascii_alphabetic.ensures.value ∙ c.if-is_ascii_alphabetic.true))

pub returns : goal.returns
returns c =
    sym (position_or_len_is is_ascii_alphabetic c.args.text.now (length c.args.text.now) 0 (omega arith)
    (λ k h. c.loop-i.invariant k (omega arith)) (λ h. absurd (omega arith)))
