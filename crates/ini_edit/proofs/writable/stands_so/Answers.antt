use Rattle.std.proofs.Common.{◌≡◌, ◌∙◌, ◌||◌, Bool, true, false, ap, chars, not, refl, sym}
use Rattle.ini_text.specs.Grammar.CharacterKinds.{begins, is_quote_mark}
use Rattle.ini_edit.specs.Endings.{ending}
use Rattle.ini_edit.specs.Inside.RawTests.{is_closed, is_one_line}
use Rattle.ini_edit.specs.Writable.{has_note}
use Rattle.ini_edit.proofs.writable.stands_so.Goals as goal

twice : (b : Bool) → not (not b) ≡ b
twice true = refl
twice false = refl

pub returns-then-is_one_line : goal.returns-then-is_one_line
returns-then-is_one_line c =
    let o = c.args.read in
    let value = chars c.args.value.now in
    let quote : (not o.enabled_quote || not (begins is_quote_mark value)) ≡ true =
    sym c.opens_no_quote.ensures ∙ c.if-not-opens_no_quote.false in
    let note : (not o.enabled_inline_comment || not (has_note value)) ≡ true =
    sym c.begins_no_note.ensures ∙ c.if-not-begins_no_note.false in
    let line : is_one_line value ≡ true = sym c.is_one_line.ensures ∙ c.if-is_one_line.true in
    rw (quote, note, line) (ap not c.ends_in_lone_backslash.ensures ∙ twice (is_closed (ending o value)))
