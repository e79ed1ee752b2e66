use Rattle.std.proofs.Common.{arith, get_or, refl}
use Rattle.ini_text.proofs.ReaderLemmas.ShortPieceLemmas.{begins_with_two, coded_escape, letter_escape}
use Rattle.ini_text.proofs.parser.short.split_escape.Goals as goal

pub returns-in-Some : goal.returns-in-Some
returns-in-Some c =
    let bytes = c.as_bytes-bytes.result.now in
    let other = c.in-Some.ensures.letter in
    let two = begins_with_two c.args.text.now bytes 92 (get_or bytes 1 0) c.as_bytes-bytes.ensures.value
    c.utf8.text (omega arith) (omega arith) refl (omega arith) other.0 in
    letter_escape two other.2 other.1 c.in-Some.ensures.value

pub split_at-requires : goal.split_at-requires
split_at-requires c =
    (begins_with_two c.args.text.now c.as_bytes-bytes.result.now 92 120 c.as_bytes-bytes.ensures.value
    c.utf8.text (omega arith) (omega arith) (omega arith) (omega arith) (omega arith)).cut

pub returns : goal.returns
returns c =
    let two = begins_with_two c.args.text.now c.as_bytes-bytes.result.now 92 120
    c.as_bytes-bytes.ensures.value c.utf8.text (omega arith) (omega arith) (omega arith) (omega arith)
    (omega arith) in
    coded_escape two (omega arith) c.split_at.ensures.back c.in_ok-value.ensures.0 c.in_ok-value.ensures.1
