use Rattle.std.proofs.Common.{◌∙◌, ◌++◌, ◌∷◌, [], ap, chars, map, sym, subst, refl}
use Rattle.ini_text.specs.Parsing.Places.{gives}
use Rattle.ini.specs.Loading.{IsDocumentOf}
use Rattle.ini_edit.specs.Inside.Spans.{AreSections}
use Rattle.ini_edit.specs.SourceReads.{AreRead}
use Rattle.ini_edit.specs.Sources.{given_section, sections_text}
use Rattle.ini_edit.proofs.SourceReadLemmas.{front_within, reached, read_placed, read_sections, read_text}
use Rattle.ini_edit.proofs.SourceReadLemmas.{reads_within, sections_header, sections_pair, sections_some}
use Rattle.ini_edit.proofs.SourceReadLemmas.{sections_start, with_pair}
use Rattle.ini_edit.proofs.SpanLemmas.{sections_load}
use Rattle.ini_edit.proofs.source.Source.read.Goals.{in-Header+in_ok-push_section-in-Header, in-Nothing}
use Rattle.ini_edit.proofs.source.Source.read.Goals.{in-Pair+in_ok-new-in-Pair+in_ok-push-in-Pair}
use Rattle.ini_edit.proofs.source.Source.read.Goals as goal

pub reach_item-requires : goal.reach_item-requires
reach_item-requires c = front_within c.new-parser.ensures.refusal c.new-parser.ensures.front

pub items-init : goal.items-init
items-init c =
    let n = c.new-parser.ensures in
    sections_start n.front (reached c.new-parser.result n.option n.text c.in_ok-first.ensures.reached)
    (ap (λ l. l ++ c.general-section.result ∷ []) c.new-sections.ensures.items
    ∙ ap (λ s. s ∷ []) c.general-section.ensures)

pub reach_item-requires-in-Some : goal.reach_item-requires-in-Some
reach_item-requires-in-Some c = reads_within c.items.invariant.spans c.in-Some.is

pub items-preserved : goal.items-preserved
items-preserved c =
    let at = c.items.invariant in
    let r = at.spans.is_reading in
    let next = reached c.items.parser r.option r.text c.in_ok-following.ensures.reached in
    let ss = c.items.sections.items in
    let s = c.items.section in
    elim c.match-content-5.branch [
      | in-Nothing w ↦ absurd (sections_some at c.in-Some.is next (ap gives w.in-Nothing.is))
      | in-Header+in_ok-push_section-in-Header w ↦
          rw (w.sections-is, w.section-is) ((sections_header at c.in-Some.is next
          (ap gives w.in-Header.is)
          (ap (λ l. l ++ w.new-section.result ∷ []) w.in_ok-push_section-in-Header.ensures.pushed
          ∙ ap (λ t. (ss ++ s ∷ []) ++ t ∷ []) w.new-section.ensures)).0)
      | in-Pair+in_ok-new-in-Pair+in_ok-push-in-Pair w ↦
          rw (w.sections-is, w.section-is) ((sections_pair at c.in-Some.is next w.in-Pair.pair
          w.in-Pair.is ss s refl
          (ap (λ t. ss ++ t ∷ []) (w.in_ok-push-in-Pair.ensures.pushed
          ∙ ap (with_pair s) w.in_ok-new-in-Pair.ensures.placed))).0)
    ]

pub items-smaller : goal.items-smaller
items-smaller c =
    let at = c.items.invariant in
    let r = at.spans.is_reading in
    let next = reached c.items.parser r.option r.text c.in_ok-following.ensures.reached in
    let ss = c.items.sections.items in
    let s = c.items.section in
    elim c.match-content-5.branch [
      | in-Nothing w ↦ absurd (sections_some at c.in-Some.is next (ap gives w.in-Nothing.is))
      | in-Header+in_ok-push_section-in-Header w ↦
          rw (w.sections-is, w.section-is) ((sections_header at c.in-Some.is next
          (ap gives w.in-Header.is)
          (ap (λ l. l ++ w.new-section.result ∷ []) w.in_ok-push_section-in-Header.ensures.pushed
          ∙ ap (λ t. (ss ++ s ∷ []) ++ t ∷ []) w.new-section.ensures)).1)
      | in-Pair+in_ok-new-in-Pair+in_ok-push-in-Pair w ↦
          rw (w.sections-is, w.section-is) ((sections_pair at c.in-Some.is next w.in-Pair.pair
          w.in-Pair.is ss s refl
          (ap (λ t. ss ++ t ∷ []) (w.in_ok-push-in-Pair.ensures.pushed
          ∙ ap (with_pair s) w.in_ok-new-in-Pair.ensures.placed))).1)
    ]

pub returns-clause-text : goal.returns-clause-text
returns-clause-text c =
    ap sections_text c.in_ok-push_section.ensures.pushed ∙ read_text c.in_default.is c.items.invariant

pub returns-clause-document : goal.returns-clause-document
returns-clause-document c =
    let o = c.args.option in
    let at = c.items.invariant in
    let ss = c.items.sections.items ++ c.items.section ∷ [] in
    subst (λ l. IsDocumentOf o (chars c.args.text.now) (map given_section l))
    (sym c.in_ok-push_section.ensures.pushed)
    (subst (λ t. IsDocumentOf o t (map given_section ss)) (read_text c.in_default.is at)
    (sections_load ss (read_sections c.in_default.is at)))

pub returns-clause-placed : goal.returns-clause-placed
returns-clause-placed c =
    subst (AreRead c.args.option) (sym c.in_ok-push_section.ensures.pushed)
    (read_placed c.in_default.is c.items.invariant)

pub invariant_of-result : goal.invariant_of-result
invariant_of-result c =
    subst (AreSections c.args.option) (sym c.in_ok-push_section.ensures.pushed)
    (read_sections c.in_default.is c.items.invariant)
