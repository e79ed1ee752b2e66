use Rattle.std.proofs.Common.{◌≡◌, ◌∙◌, [], ap, false, map, subst, sym, true}
use Rattle.std.proofs.lemmas.Bool.{false≢true}
use Rattle.ini_text.specs.Grammar.CharacterKinds.{line_feed}
use Rattle.ini_edit.specs.Inside.SourceLayouts.{all_same}
use Rattle.ini_edit.specs.Inside.Sortings.{says_same_section_unit, section_unit_of}
use Rattle.ini_edit.specs.Sorting.{KeysSorted, Misses, section_said, section_units, units_in}
use Rattle.ini_edit.proofs.UnitSaidLemmas.{units_same, units_say}
use Rattle.ini_edit.proofs.UnitStepLemmas.{keys_stay}
use Rattle.ini_edit.proofs.WholeTextLemmas.{read_in_pieces}
use Rattle.ini_edit.proofs.source.layout.sort.loss_of.Goals as goal

pub returns-in-Err-Parse-clause-found : goal.returns-in-Err-Parse-clause-found
returns-in-Err-Parse-clause-found c =
    Misses.stops (rw c.in-Err-Parse.field-0-is at c.in-Err-Parse.ensures.fault)

pub returns-then-branch-clause-found : goal.returns-then-branch-clause-found
returns-then-branch-clause-found c =
    let read = c.in-Ok.ensures in
    let items = c.in_ok-read_again.read_again.items in
    let stays : map section_unit_of items ≡ units_in c.in-Ok.new =
    keys_stay _ _
    (subst (λ ss. KeysSorted false (section_units line_feed [] ss) (map section_unit_of items))
    c.sections.ensures c.in_ok-read_again.ensures.units) in
    let same : all_same says_same_section_unit items c.args.units.now ≡ true =
    ap (λ l. all_same says_same_section_unit l c.args.units.now) (sym c.as_slice.ensures.value)
    ∙ sym c.in_ok-say_same_sections.ensures.same ∙ c.if-branch.true in
    record {
      new = c.in-Ok.new;
      is_read = read_in_pieces read.option read.text read.placed read.document;
      said = sym (ap (map section_said) stays) ∙ units_same items c.args.units.now same;
    }

pub returns-clause-found : goal.returns-clause-found
returns-clause-found c =
    let read = c.in-Ok.ensures in
    let items = c.in_ok-read_again.read_again.items in
    let stays : map section_unit_of items ≡ units_in c.in-Ok.new =
    keys_stay _ _
    (subst (λ ss. KeysSorted false (section_units line_feed [] ss) (map section_unit_of items))
    c.sections.ensures c.in_ok-read_again.ensures.units) in
    let other : all_same says_same_section_unit items c.args.units.now ≡ false =
    ap (λ l. all_same says_same_section_unit l c.args.units.now) (sym c.as_slice.ensures.value)
    ∙ sym c.in_ok-say_same_sections.ensures.same ∙ c.if-branch.false in
    Misses.differs c.in-Ok.new (read_in_pieces read.option read.text read.placed read.document)
    (λ e. false≢true (sym other
    ∙ units_say items c.args.units.now (ap (map section_said) stays ∙ e)))
