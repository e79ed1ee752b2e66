use Rattle.std.proofs.Common.{◌<◌, arith, get_or, refl}
use Rattle.ini_text.proofs.GrammarLemmas.SpellingLemmas.{digits_spell}
use Rattle.ini_text.proofs.ReaderLemmas.ShortPieceLemmas.{begins_with_four, four_spell}
use Rattle.ini_text.proofs.parser.short.coded_value.Goals as goal

pub returns : goal.returns
returns c =
    let bytes = c.as_bytes-bytes.result.now in
    let a : c.digit-a.result < 16 = omega arith in
    let b : c.digit-b.result < 16 = omega arith in
    let d : c.digit-c.result < 16 = omega arith in
    let e : c.digit-d.result < 16 = omega arith in
    let four =
    begins_with_four c.args.text.now bytes _ _ _ _ c.as_bytes-bytes.ensures.value c.utf8.text
    (omega arith) refl refl refl refl
    (c.digit-a.ensures.ascii a) (c.digit-b.ensures.ascii b) (c.digit-c.ensures.ascii d)
    (c.digit-d.ensures.ascii e) in
    let spells = digits_spell (get_or bytes 0 0) (get_or bytes 1 0) (get_or bytes 2 0) (get_or bytes 3 0) _
    _ _ _ c.from_u32.result (a, c.digit-a.ensures.value a) (b, c.digit-b.ensures.value b)
    (d, c.digit-c.ensures.value d) (e, c.digit-d.ensures.value e) c.from_u32.ensures.value in
    four_spell c.args.text.now c.from_u32.result four spells
