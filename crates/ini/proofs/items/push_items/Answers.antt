use Rattle.std.proofs.Common.{Ok, ap, chars, subst, sym}
use Rattle.ini_text.specs.Parsing.Fronts.{front_of}
use Rattle.ini.specs.Documents.{Document}
use Rattle.ini.specs.Inside.StreamLoader.{Makes}
use Rattle.ini.proofs.ReadingLemmas.{IsReading-goes_on, Loaded-ends, Loaded-item, Loaded-starts}
use Rattle.ini.proofs.items.push_items.Goals as goal

pub items-init : goal.items-init
items-init c =
    let new = c.resume_at-parser.ensures in
    Loaded-starts (chars c.args.rest.now) c.requires.is_rest
    (record { option = new.option; text = new.text; refusal = new.refusal }) new.front c.requires.some

pub items-preserved : goal.items-preserved
items-preserved c =
    let next = c.in_ok-item.ensures in
    let reading = c.items.invariant.reading in
    let is = ap Ok c.in-Some.is in
    let goes_on =
    IsReading-goes_on reading c.next_item.new.self _ next.item next.option next.text next.refusal is in
    Loaded-item reading c.next_item.new.self _ next.item c.items.invariant goes_on is
    c.in_ok-push_item.ensures.pushed

pub returns-clause-document : goal.returns-clause-document
returns-clause-document c =
    let text = chars c.args.text.now in
    let P : Document → Type 0 = Makes c.args.opt text (front_of text (chars c.args.rest.now)) text
    c.args.document.now in
    subst P (sym c.end.ensures.same)
    (Loaded-ends c.items.invariant.reading c.next_item.new.self _ c.in_ok-item.ensures.item c.items.invariant
    (ap Ok c.in_default.is))
