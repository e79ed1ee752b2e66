use Rattle.std.proofs.Common.{refl, arith}
use Rattle.std.proofs.lemmas.Bool.Decides.{nat_tests}
use Rattle.ini_text.proofs.WriteLemmas.EscapeByteLemmas.{letter_is}
use Rattle.ini_text.proofs.write.escape.letter_of.Goals as goal

pub returns : goal.returns
returns c = letter_is c.args.c _ (let ascii = c.is_ascii.ensures in let is = c.if-not-is_ascii.false in
    grind (arith, nat_tests)) refl c.if-letter-eq0.false
