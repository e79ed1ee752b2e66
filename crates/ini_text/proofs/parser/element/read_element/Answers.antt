use Rattle.std.proofs.Common.{◌∙◌, chars, sym}
use Rattle.ini_text.proofs.PlaceLemmas.PairLemmas.{header_rests, no_blanks}
use Rattle.ini_text.proofs.parser.element.read_element.Goals as goal

pub read_unindented-requires : goal.read_unindented-requires
read_unindented-requires c =
    no_blanks c.requires (sym c.is_whitespace.ensures ∙ c.if-is_whitespace.false)

pub returns-then-c-eq91-clause-rests : goal.returns-then-c-eq91-clause-rests
returns-then-c-eq91-clause-rests c =
    λ _. header_rests c.args.read.now (chars c.args.text.now) c.args.rests.now c.read_header.result
    c.read_header.ensures.header
