use Rattle.std.proofs.Common.{◌∙◌, Ok, ap, arith}
use Rattle.ini.proofs.ReadingLemmas.{IsReading-goes_on, Settling-item, Settles-trivia, Settling-starts}
use Rattle.ini.proofs.ReadingLemmas.{chars-some}
use Rattle.ini.proofs.items.push_complete_items.Goals as goal

pub items-init : goal.items-init
items-init c =
    let new = c.resume_at-parser.ensures in (
      c.utf8.rest,
      Settling-starts c.requires.is_rest
          (record { option = new.option; text = new.text; refusal = new.refusal }) new.front c.requires.some,
    )

pub items-preserved : goal.items-preserved
items-preserved c =
    let next = c.next_item.ensures in
    let settling = c.items.invariant.1 in
    let reading = settling.reading in
    let is = c.in-Ok-Some.is ∙ ap Ok c.in-Ok-Some.field-0-is in
    let goes_on =
    IsReading-goes_on reading c.next_item.new.self _ next.item next.option next.text next.refusal is in
    let some =
    chars-some c.rest-following.result.now c.rest-following.utf8
    (grind (arith, c.is_empty.ensures, c.if-is_empty.false)) in (
      c.rest-following.utf8,
      Settling-item reading c.next_item.new.self _ next.item settling goes_on is some
          (c.rest-following.ensures ∙ goes_on.text) c.in_ok-push_item.ensures.pushed,
    )

pub returns-in-Ok-None-clause-settled : goal.returns-in-Ok-None-clause-settled
returns-in-Ok-None-clause-settled c =
    let skipped = c.after_trivia.ensures in
    Settles-trivia c.items.invariant.1.settles skipped.skipped skipped.is_rest

pub returns-then-is_empty-clause-settled : goal.returns-then-is_empty-clause-settled
returns-then-is_empty-clause-settled c =
    let skipped = c.after_trivia-then-is_empty.ensures in
    Settles-trivia c.items.invariant.1.settles skipped.skipped skipped.is_rest
