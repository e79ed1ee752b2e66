use Rattle.std.proofs.Common.{◌≡◌, ◌∙◌, ap, subst, sym}
use Rattle.std.specs.Option.{option_map}
use Rattle.ini_text.specs.Parsing.Items.{cow_text}
use Rattle.ini_edit.specs.Inside.SourceEnds.{IsPlaceAt, end_put}
use Rattle.ini_edit.specs.SourceEditsDelete.{pair_taken_out}
use Rattle.ini_edit.specs.Sources.{SectionPiece}
use Rattle.ini_edit.proofs.DeletedStepLemmas.{out_of_section}
use Rattle.ini_edit.proofs.source.section.SourceSection.take_out.Goals as goal

pub returns-clause-deleted : goal.returns-clause-deleted
returns-clause-deleted c = λ p at.
    let s : SectionPiece = record {
      name = option_map cow_text c.self.inside.name;
      header = cow_text c.self.inside.header;
      after = cow_text c.self.inside.after;
      pairs = c.self.inside.pairs.items;
    } in
    let i = c.args.index in
    let o = c.args.read in
    let front = c.args.front in
    let there : IsPlaceAt s.pairs p i = subst (λ s. IsPlaceAt s.pairs p i) (sym c.self.view_is) at in
    let rest = c.in_ok-rest.rest in
    let put : end_put rest s p.before p.after ≡ pair_taken_out o front s p =
    subst (λ s. end_put rest s p.before p.after ≡ pair_taken_out o front s p) (sym c.self.view_is)
    (c.in_ok-rest.ensures.put p at) in
    c.put_new_end.ensures
    ∙ out_of_section o s p i there front rest c.remove-pair.new.self.items put c.remove-pair.ensures.items
    ∙ ap (λ t. pair_taken_out o front t p) c.self.view_is
