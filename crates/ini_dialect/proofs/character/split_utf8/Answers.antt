use Rattle.std.proofs.Common.{rules, subst, sym}
use Rattle.ini_dialect.specs.Inside.Coding.{BeginsWithUtf8}
use Rattle.ini_dialect.proofs.BeginLemmas.{no_characters, utf8_begins, utf8_fits, utf8_none}
use Rattle.ini_dialect.proofs.character.split_utf8.Goals as goal

pub split_at-requires : goal.split_at-requires
split_at-requires c =
    utf8_fits c.args.bytes.now _ c.in_ok-character.character c.len_utf8.result
    (utf8_begins c.args.bytes.now c.first_four.result.now c.utf8_front.result.now c.first_four.ensures
    c.utf8_front.ensures.front c.in_ok-character.character _ c.len_utf8.result c.utf8_front.utf8
    c.in_ok-character.ensures.characters c.len_utf8.ensures.len)
    c.len_utf8.ensures.len

pub returns-clause-front : goal.returns-clause-front
returns-clause-front c =
    subst (BeginsWithUtf8 c.args.bytes.now c.in_ok-character.character) (sym c.split_at.ensures.back)
    (utf8_begins c.args.bytes.now c.first_four.result.now c.utf8_front.result.now c.first_four.ensures
    c.utf8_front.ensures.front c.in_ok-character.character _ c.len_utf8.result c.utf8_front.utf8
    c.in_ok-character.ensures.characters c.len_utf8.ensures.len)

pub returns-in_err-character-clause-none : goal.returns-in_err-character-clause-none
returns-in_err-character-clause-none c =
    let none =
    utf8_none c.args.bytes.now c.first_four.result.now c.utf8_front.result.now c.first_four.ensures
    c.utf8_front.ensures.front c.utf8_front.ensures.longest
    (no_characters c.utf8_front.result.now c.utf8_front.utf8 c.in_err-character.ensures.characters) in
    search (rules, none)
